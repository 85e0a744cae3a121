use Rattle.std.proofs.Common.{◌≡◌, ℕ, ◌≤◌, List, length, take, sym, ap, ◌∙◌, arith}
use Rattle.std.proofs.lemmas.List.{take_all}
use Rattle.gcl_model.specs.Extents.{Extent}
use Rattle.gcl_model.specs.FormOf.{form_of}
use Rattle.gcl_model.specs.Limits.{address_end}
use Rattle.gcl_model.specs.Wide.{wide}
use Rattle.gcl_model.specs.declared.expr.Expr.{Expr}
use Rattle.live_version.specs.Contents.{VersionContent, version_text}
use Rattle.manifest_publish.specs.Histories.{IsLatest}
use Rattle.collection.specs.Engines.{last_of}
use Rattle.collection.proofs.EngineLemmas.{last_is}
use Rattle.query_lanes.specs.Answers.{found_in}
use Rattle.query_lanes.specs.declared.asks.Found.TheVariants.{List as Members, Total}
use Rattle.query_lanes.proofs.find.find.Goals.{in-All, in-First}
use Rattle.query_lanes.proofs.find.find.Goals as goal

-- the members of a search over a copy of the expression are those over the latest version
over_latest : (history : List VersionContent) (v : VersionContent) (expr copy : Expr) (members : List Extent) → IsLatest history v → copy ≡ expr
    → members ≡ wide (version_text (last_of history)) (form_of copy) → members ≡ wide (version_text v) (form_of expr)
over_latest history v expr copy members latest same is =
    is ∙ ap (λ (e : Expr). wide (version_text (last_of history)) (form_of e)) same ∙ ap (λ (w : VersionContent). wide (version_text w) (form_of expr)) (last_is history v latest)

-- no list has more members than are asked for if all are
take_most : (members : List Extent) → length members ≤ address_end → take 18446744073709551615 members ≡ members
take_most members few = take_all 18446744073709551615 members (omega arith)

pub returns-in-Number : goal.returns-in-Number
returns-in-Number c = λ v latest.
    let list : List Extent = wide (version_text v) (form_of c.args.expr.now.value) in
    let total : c.count-total.result ≡ length c.in_ok-search.search = c.count-total.ensures.value in
    ap Total (total
    ∙ ap (λ (l : List Extent). length l)
    (over_latest c.args.pass.history v c.args.expr.now.value c.in_ok-try_clone.field-0.value c.in_ok-search.search latest c.in_ok-try_clone.ensures c.in_ok-search.ensures.members))
    ∙ ap (λ asked. found_in asked list) (sym c.in-Number.is)

pub returns : goal.returns
returns c = λ v latest.
    let search : List Extent = c.in_ok-search.search in
    let by_asked : Members (take c.match-asked.most search) ≡ found_in c.args.asked search = elim c.match-asked.branch [
      | in-All w ↦ ap (λ (n : ℕ). Members (take n search)) w.most-is ∙ ap Members (take_most search c.in_ok-search.ensures.few) ∙ ap (λ asked. found_in asked search) (sym w.in-All.is)
      | in-First w ↦ ap (λ (n : ℕ). Members (take n search)) w.most-is ∙ ap (λ asked. found_in asked search) (sym w.in-First.is)
    ] in
    ap Members c.in_ok-listing.ensures ∙ by_asked
    ∙ ap (λ (l : List Extent). found_in c.args.asked l)
    (over_latest c.args.pass.history v c.args.expr.now.value c.in_ok-try_clone.field-0.value search latest c.in_ok-try_clone.ensures c.in_ok-search.ensures.members)
