use Rattle.std.proofs.Common.{◌≡◌, ℕ, ◌+◌, ◌≤◌, List, IfOk, sym, ◌∙◌, subst, arith}
use Rattle.gcl_model.specs.FormOf.{form_of}
use Rattle.gcl_model.specs.Forms.{Form}
use Rattle.gcl_model.specs.Wide.{wide}
use Rattle.gcl_locality.specs.Changed.{changed_from, changed_upto}
use Rattle.gcl_locality.specs.Laws.{DifferBetween}
use Rattle.live_version.specs.Contents.{VersionContent, version_text}
use Rattle.collection.specs.Engines.{last_of}
use Rattle.near_search.specs.Costs.{near_listing_cost, near_opening_cost}
use Rattle.query_search.proofs.ReadingLemmas.{where_ok}
use Rattle.standing_query.specs.Changes.{members}
use Rattle.standing_query.specs.declared.change.Change.{Change}
use Rattle.standing_query.proofs.LocalLemmas.{changes_within, expansions_change, expansions_differ}
use Rattle.change_search.specs.Costs.{change_cost}
use Rattle.change_search.specs.Listings.{ListingContent}
use Rattle.change_search.proofs.OpeningLemmas.{near_listing_is, near_opening_is}
use Rattle.change_search.proofs.counted_listing.CountedListing.between.Goals as goal

pub returns-clause-to_come : goal.returns-clause-to_come
returns-clause-to_come g c =
    let v : VersionContent = last_of c.args.before.history in
    let w : VersionContent = last_of c.args.after.history in
    let form : Form = form_of c.args.expr.now in
    let old_form : Form = form_of c.in_ok-old_expr.old_expr in
    let new_form : Form = form_of c.in_ok-new_expr.new_expr in
    let low : ℕ = c.addresses_over-addresses.result.low in
    let high : ℕ = c.addresses_over-addresses.result.high in
    let differ : DifferBetween (wide (version_text v) form) (wide (version_text w) form) low high =
    subst (λ (k : ℕ). DifferBetween (wide (version_text v) form) (wide (version_text w) form) k high) (sym c.addresses_over-addresses.ensures.low)
    (subst (λ (k : ℕ). DifferBetween (wide (version_text v) form) (wide (version_text w) form) (changed_from (version_text v) (version_text w) c.args.edited.first form) k) (sym c.addresses_over-addresses.ensures.high)
    (c.changes_are_local.ensures (version_text v) (version_text w) c.args.edited.first c.args.edited.last form c.requires.agree)) in
    let here : DifferBetween (members v old_form) (members w new_form) low high =
    expansions_differ c.expansions_are_wide.ensures v w form old_form new_form c.in_ok-old_expr.ensures.value c.in_ok-new_expr.ensures.value low high differ in
    subst (λ (l : List Change). IfOk c.within.result (λ listing. listing.to_come ≡ l))
    (changes_within (members v old_form) (members w new_form) low high here
    ∙ expansions_change c.expansions_are_wide.ensures v w form old_form new_form c.in_ok-old_expr.ensures.value c.in_ok-new_expr.ensures.value)
    c.within.ensures.to_come

pub returns-clause-cost : goal.returns-clause-cost
returns-clause-cost g c =
    let v : VersionContent = last_of c.args.before.history in
    let w : VersionContent = last_of c.args.after.history in
    let form : Form = form_of c.args.expr.now in
    let old_form : Form = form_of c.in_ok-old_expr.old_expr in
    let new_form : Form = form_of c.in_ok-new_expr.new_expr in
    let low : ℕ = c.addresses_over-addresses.result.low in
    let high : ℕ = c.addresses_over-addresses.result.high in
    let from : ℕ = changed_from (version_text v) (version_text w) c.args.edited.first form in
    let upto : ℕ = changed_upto (version_text v) (version_text w) c.args.edited.last form in
    let lows : low ≡ from = c.addresses_over-addresses.ensures.low in
    let highs : high ≡ upto = c.addresses_over-addresses.ensures.high in
    where_ok c.within.result
    (λ (l : ListingContent). c.within.new.steps + l.look_ups ≤ c.addresses_over-addresses.new.steps
    + (near_opening_cost v low high old_form + near_listing_cost v low high old_form + (near_opening_cost w low high new_form + near_listing_cost w low high new_form)))
    (λ (l : ListingContent). c.within.new.steps + l.look_ups ≤ c.args.steps.now + change_cost v w c.args.edited form)
    (λ l le.
    let old_opening = near_opening_is v form old_form c.in_ok-old_expr.ensures.value low high from upto lows highs in
    let new_opening = near_opening_is w form new_form c.in_ok-new_expr.ensures.value low high from upto lows highs in
    let old = near_listing_is v form old_form c.in_ok-old_expr.ensures.value low high from upto lows highs in
    let new = near_listing_is w form new_form c.in_ok-new_expr.ensures.value low high from upto lows highs in
    omega (arith, le, old_opening, new_opening, old, new, c.addresses_over-addresses.ensures.cost, c.expanded_over.ensures.cost, c.expanded_over-2.ensures.cost))
    c.within.ensures.cost

pub returns-clause-opening : goal.returns-clause-opening
returns-clause-opening g c =
    let v : VersionContent = last_of c.args.before.history in
    let w : VersionContent = last_of c.args.after.history in
    let form : Form = form_of c.args.expr.now in
    let low : ℕ = c.addresses_over-addresses.result.low in
    let high : ℕ = c.addresses_over-addresses.result.high in
    let from : ℕ = changed_from (version_text v) (version_text w) c.args.edited.first form in
    let upto : ℕ = changed_upto (version_text v) (version_text w) c.args.edited.last form in
    let lows : low ≡ from = c.addresses_over-addresses.ensures.low in
    let highs : high ≡ upto = c.addresses_over-addresses.ensures.high in
    let old = near_opening_is v form (form_of c.in_ok-old_expr.old_expr) c.in_ok-old_expr.ensures.value low high from upto lows highs in
    let new = near_opening_is w form (form_of c.in_ok-new_expr.new_expr) c.in_ok-new_expr.ensures.value low high from upto lows highs in
    omega (arith, old, new, c.within.ensures.stopped, c.addresses_over-addresses.ensures.cost, c.expanded_over.ensures.cost, c.expanded_over-2.ensures.cost)
