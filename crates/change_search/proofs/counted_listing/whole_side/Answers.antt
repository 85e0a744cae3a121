use Rattle.std.proofs.Common.{◌≡◌, rules, List, take_while, sym, ap, ◌∙◌, subst}
use Rattle.gcl_model.specs.Extents.{Extent, IsRising}
use Rattle.gcl_model.specs.FormOf.{form_of}
use Rattle.gcl_model.specs.Limits.{address_end}
use Rattle.gcl_model.specs.declared.expr.Expr.{Expr}
use Rattle.gcl_model.proofs.Meanings.{concordance_rises}
use Rattle.live_version.specs.Contents.{VersionContent, version_text}
use Rattle.collection.specs.Engines.{last_of}
use Rattle.near_search.specs.Contents.{starts_by}
use Rattle.standing_query.specs.Changes.{members}
use Rattle.change_search.proofs.LocalLemmas.{whole_list}
use Rattle.change_search.proofs.counted_listing.whole_side.Goals as goal

pub of-requires : goal.of-requires
of-requires c =
    let v : VersionContent = last_of c.args.pass.history in
    let same : c.in-Ok.expr.value ≡ c.args.expr = search rules in
    let all : take_while (starts_by address_end) c.whole-members.result.to_come ≡ members v (form_of c.args.expr) =
    ap (λ (l : List Extent). take_while (starts_by address_end) l) c.whole-members.ensures.members
    ∙ ap (λ (e : Expr). take_while (starts_by address_end) (members v (form_of e))) same
    ∙ whole_list (version_text v) (form_of c.args.expr) address_end c.requires.in_range in
    subst IsRising (sym all) (concordance_rises (version_text v) (form_of c.args.expr))

pub returns-in-Ok-clause-members : goal.returns-in-Ok-clause-members
returns-in-Ok-clause-members c =
    let v : VersionContent = last_of c.args.pass.history in
    let same : c.in-Ok.expr.value ≡ c.args.expr = search rules in
    c.of.ensures.members
    ∙ ap (λ (l : List Extent). take_while (starts_by address_end) l) c.whole-members.ensures.members
    ∙ ap (λ (e : Expr). take_while (starts_by address_end) (members v (form_of e))) same
    ∙ whole_list (version_text v) (form_of c.args.expr) address_end c.requires.in_range
