use Rattle.std.proofs.Common.{◌≡◌, ℕ, ◌+◌, ◌≤◌, Bool, List, Result, Ok, Err, IfOk, length, ◌∙◌, subst, arith}
use Rattle.gcl_model.specs.Extents.{Extent}
use Rattle.gcl_model.specs.FormOf.{form_of}
use Rattle.gcl_model.specs.Forms.{Form}
use Rattle.gcl_model.specs.Wide.{wide}
use Rattle.live_version.specs.Contents.{VersionContent, version_text}
use Rattle.collection.specs.Engines.{last_of}
use Rattle.query_search.specs.Pages.{reads}
use Rattle.query_search.proofs.ReadingLemmas.{where_ok}
use Rattle.standing_query.specs.Changes.{members}
use Rattle.change_search.specs.Costs.{expanded, whole_listing_cost, words_cost}
use Rattle.change_search.specs.declared.side.Side.{Side}
use Rattle.change_search.specs.inner.Sides.{look_ups, to_come}
use Rattle.change_search.proofs.OpeningLemmas.{members_are, whole_listing_is}
use Rattle.change_search.proofs.counted_listing.whole_over.Goals as goal

-- the words of the expansion, and then its members
paid : {E : Type 0} (r : Result Side E) (v : VersionContent) (form other : Form) (steps steps' : ℕ)
    → ((reading : Bool) → whole_listing_cost v other reading (length (members v other)) ≡ whole_listing_cost v (expanded v form) reading (length (wide (version_text v) form)))
    → steps' ≤ steps + words_cost v form → IfOk r (λ s. to_come s ≡ members v other) → IfOk r (λ s. look_ups s ≤ whole_listing_cost v other (reads s.rest.way) (length (to_come s)))
    → IfOk r (λ s. steps' + look_ups s ≤ steps + (words_cost v form + whole_listing_cost v (expanded v form) (reads s.rest.way) (length (wide (version_text v) form))))
paid (Ok s) v form other steps steps' same words is cost =
    let most : look_ups s ≤ whole_listing_cost v other (reads s.rest.way) (length (members v other)) =
    subst (λ (l : List Extent). look_ups s ≤ whole_listing_cost v other (reads s.rest.way) (length l)) is cost in
    let all = same (reads s.rest.way) in
    omega (arith, most, all, words)
paid (Err e) v form other steps steps' same words is cost = tt

pub returns-clause-members : goal.returns-clause-members
returns-clause-members g c =
    let v : VersionContent = last_of c.args.pass.history in
    let form : Form = form_of c.args.expr.now in
    let other : Form = form_of c.in_ok-expanded.expanded in
    where_ok c.whole_side.result (λ (s : Side). to_come s ≡ members v other) (λ (s : Side). to_come s ≡ wide (version_text v) form)
    (λ s is. is ∙ members_are c.expansions_are_wide.ensures v form other c.in_ok-expanded.ensures.value) c.whole_side.ensures.members

pub returns-clause-cost : goal.returns-clause-cost
returns-clause-cost g c =
    let v : VersionContent = last_of c.args.pass.history in
    let form : Form = form_of c.args.expr.now in
    let other : Form = form_of c.in_ok-expanded.expanded in
    paid c.whole_side.result v form other c.args.steps.now c.expanded_over.new.steps (whole_listing_is c.expansions_are_wide.ensures v form other c.in_ok-expanded.ensures.value)
    c.expanded_over.ensures.cost c.whole_side.ensures.members c.whole_side.ensures.look_ups
