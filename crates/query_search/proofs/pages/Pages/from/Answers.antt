use Rattle.std.proofs.Common.{◌≡◌, ◌≤◌, eqb, List, length, rules, sym, ap, ◌∙◌, subst, arith}
use Rattle.gcl_model.specs.Extents.{Extent}
use Rattle.gcl_model.specs.FormOf.{form_of}
use Rattle.gcl_model.specs.Limits.{address_end}
use Rattle.gcl_model.specs.declared.expr.Expr.{Expr}
use Rattle.live_version.specs.Contents.{VersionContent, version_text}
use Rattle.manifest_publish.specs.Accounts.{EndsWith}
use Rattle.collection.specs.Engines.{last_of}
use Rattle.collection.proofs.EngineLemmas.{last_is}
use Rattle.query_search.specs.inner.Searches.{ReadFrom, members_over, way_by, way_from}
use Rattle.query_search.proofs.SearchLemmas.{few_members, from_end}
use Rattle.query_search.specs.Pages.{IsWayOver}
use Rattle.query_search.proofs.WayLemmas.{begins_over}
use Rattle.query_search.proofs.pages.Pages.from.Goals as goal

pub invariant_of-result : goal.invariant_of-result
invariant_of-result c =
    let history : List VersionContent = c.args.pass.history in
    let is : last_of history ≡ c.version-version.result.now = last_is history c.version-version.result.now c.version-version.ensures.1 in
    let end : c.next-end.result ≡ (last_of history).next = c.next-end.ensures.value ∙ sym (ap (λ (v : VersionContent). v.next) is) in
    let value : c.next-end.result ≡ c.version-version.result.now.next = c.next-end.ensures.value in
    let in_range : c.version-version.result.now.next ≤ address_end = c.next-end.ensures.version.in_range in
    let same : c.deref.result.now ≡ c.args.expr.value = search rules in
    let reads : ReadFrom history (form_of c.args.expr.value) c.min-from.result c.readers_of-readers.result =
    subst (λ (e : Expr). ReadFrom history (form_of e) c.min-from.result c.readers_of-readers.result) same (c.readers_of-readers.ensures.stand history c.min-from.result) in (
      record {
        last = subst (λ (v : VersionContent). EndsWith history v) (sym is) c.version-version.ensures;
        well_formed = c.requires;
        text_end = end;
        in_range = omega arith;
        within = omega (arith, c.min-from.ensures);
      },
      reads,
    )

pub returns-clause-members : goal.returns-clause-members
returns-clause-members c =
    let history : List VersionContent = c.args.pass.history in
    let is : last_of history ≡ c.version-version.result.now = last_is history c.version-version.result.now c.version-version.ensures.1 in
    let end : c.next-end.result ≡ (last_of history).next = c.next-end.ensures.value ∙ sym (ap (λ (v : VersionContent). v.next) is) in
    ap (λ (l : List Extent). record {
      all = members_over history (form_of c.args.expr.value);
      to_come = l;
      way = way_from (last_of history) (form_of c.args.expr.value) c.min-from.result c.next-end.result c.readers_of-readers.result;
    })
    (from_end (version_text (last_of history)) (form_of c.args.expr.value) c.args.k c.next-end.result c.min-from.result end c.min-from.ensures)

pub returns-clause-few : goal.returns-clause-few
returns-clause-few c =
    let history : List VersionContent = c.args.pass.history in
    let is : last_of history ≡ c.version-version.result.now = last_is history c.version-version.result.now c.version-version.ensures.1 in
    let same : (last_of history).next ≡ c.version-version.result.now.next = ap (λ (v : VersionContent). v.next) is in
    let in_range : c.version-version.result.now.next ≤ address_end = c.next-end.ensures.version.in_range in
    let few : length (members_over history (form_of c.args.expr.value)) ≤ (last_of history).next = few_members (version_text (last_of history)) (form_of c.args.expr.value) in
    omega arith

pub returns-clause-way : goal.returns-clause-way
returns-clause-way c =
    let last : VersionContent = last_of c.args.pass.history in
    let same : c.deref.result.now ≡ c.args.expr.value = search rules in
    begins_over (eqb c.min-from.result c.next-end.result) last (form_of c.args.expr.value) (way_by last (form_of c.args.expr.value) c.readers_of-readers.result)
    (subst (λ (e : Expr). IsWayOver last (form_of e) (way_by last (form_of e) c.readers_of-readers.result)) same (c.readers_of-readers.ensures.way last))
