-- What finding members costs, computed.
use Rattle.std.specs.Prelude.{◌≡◌, ◌*◌, refl, codes}
use Rattle.gcl_model.specs.Forms.{term, seq, no_forms, more_forms}
use Rattle.gcl_model.specs.Limits.{most_slots}
use Rattle.gcl_model.specs.Slots.{slot_range}
use Rattle.live_version.specs.Changes.{empty_version}
use Rattle.near_search.specs.Costs.{near_opening_cost}
use Rattle.change_search.specs.Costs.{change_cost, paged_accesses}

-- if no member touches the addresses, only one page is looked for: 2 members, and that no more are needed
none_is_touched : paged_accesses 0 ≡ 3
none_is_touched = refl

two_are_touched : paged_accesses 2 ≡ 9
two_are_touched = refl

-- over no words at all, a term reaches no further than the addresses. Over each version one look-up in each slot finds the first member, and
-- a merge finds in another that there is none
over_no_words : change_cost (empty_version 0) (empty_version 0) (slot_range 0 0) (term (codes "be")) ≡ 4 * most_slots
over_no_words = refl

-- how far an element reaches takes two accesses more, and each access may look up both its words four times
over_no_elements : near_opening_cost (empty_version 0) 0 0 (seq (more_forms (term (codes "to")) (more_forms (term (codes "be")) no_forms))) ≡ 24 * most_slots
over_no_elements = refl
