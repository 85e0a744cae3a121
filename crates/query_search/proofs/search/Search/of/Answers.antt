use Rattle.std.proofs.Common.{◌≡◌, List, sym, ◌∙◌, subst}
use Rattle.std.specs.Prelude.{IfSome}
use Rattle.gcl_model.specs.Extents.{Extent}
use Rattle.gcl_model.specs.FormOf.{form_of}
use Rattle.gcl_model.specs.Meaning.{concordance}
use Rattle.gcl_model.specs.Wide.{wide}
use Rattle.live_version.specs.Contents.{VersionContent, version_text}
use Rattle.collection.specs.Engines.{last_of}
use Rattle.collection.proofs.EngineLemmas.{last_is}
use Rattle.query_search.proofs.search.Search.of.Goals as goal

pub with-requires-clause-same : goal.with-requires-clause-same
with-requires-clause-same c =
    let history : List VersionContent = c.args.pass.history in
    let is : last_of history ≡ c.version.result.now = last_is history c.version.result.now c.version.ensures.1 in
    let list : concordance (version_text (last_of history)) (form_of c.in_ok-expr.expr.value) ≡ wide (version_text (last_of history)) (form_of c.args.expr.value) =
    subst (λ (v : VersionContent). concordance (version_text v) (form_of c.in_ok-expr.expr.value) ≡ wide (version_text v) (form_of c.args.expr.value)) (sym is) c.in_ok-expr.ensures.wide in
    subst (λ (l : List Extent). IfSome c.where_wide-merging.result (λ m. m ≡ l)) (sym list)
    (c.where_wide-merging.ensures (wide (version_text (last_of history)) (form_of c.args.expr.value)) c.merging_of-merging.ensures)

pub returns-clause-members : goal.returns-clause-members
returns-clause-members c =
    let history : List VersionContent = c.args.pass.history in
    let is : last_of history ≡ c.version.result.now = last_is history c.version.result.now c.version.ensures.1 in
    c.with.ensures.members
    ∙ subst (λ (v : VersionContent). concordance (version_text v) (form_of c.in_ok-expr.expr.value) ≡ wide (version_text v) (form_of c.args.expr.value)) (sym is) c.in_ok-expr.ensures.wide
