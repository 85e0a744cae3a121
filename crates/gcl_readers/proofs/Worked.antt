-- What readers are left with and what they cost, computed.
use Rattle.std.specs.Prelude.{◌≡◌, List, [], ◌∷◌, Some, None, codes}
use Rattle.std.proofs.Common.{refl}
use Rattle.gcl_model.specs.Extents.{Extent, extent}
use Rattle.gcl_model.specs.Texts.{Text}
use Rattle.gcl_model.specs.Forms.{Form, term, phrase, both, containing, no_forms, more_forms}
use Rattle.gcl_readers.specs.declared.front.Front.TheVariants.{Before, On, Between, End}
use Rattle.gcl_readers.specs.Fronts.{left_of, asked_of, after, past}
use Rattle.gcl_readers.specs.Agreement.{all_left}
use Rattle.gcl_readers.specs.Standing.{nodes, starts_at}
use Rattle.gcl_readers.specs.NewPlaces.{new_places_of}
use Rattle.gcl_readers.specs.Reading.{behind_page}
use Rattle.gcl_readers.specs.MergeCost.{not_asked, own_left, find_cost, merge_cost}

-- `to be or to be` at 1 to 5
abbrev to_be : Text
to_be = record {
  first = 1;
  next = 6;
  words = record { address = 1; token = codes "to" } ∷ record { address = 2; token = codes "be" } ∷ record { address = 3; token = codes "or" } ∷ record { address = 4; token = codes "to" } ∷ record { address = 5; token = codes "be" } ∷ [];
}

abbrev to : Form
to = term (codes "to")

abbrev be : Form
be = term (codes "be")

-- two members, each of one look-up, and one more at the end
cost_of_term : merge_cost to_be 1 to ≡ 3
cost_of_term = refl

-- "to" ^ "be" has (1, 2), (2, 4) and (4, 5): four times four look-ups of its own, and three of each operand
cost_of_both : merge_cost to_be 1 (both (more_forms to (more_forms be no_forms))) ≡ 22
cost_of_both = refl

-- "to" > "be" makes none of its own
cost_of_containing : merge_cost to_be 1 (containing to be) ≡ 6
cost_of_containing = refl

-- "to be" has (1, 2) and (4, 5), and each of its two tokens two places: two look-ups for each place of the rarest, for each member and at
-- the end
abbrev to_be_row : Form
to_be_row = phrase (codes "to" ∷ codes "be" ∷ [])

cost_of_phrase : merge_cost to_be 1 to_be_row ≡ 10
cost_of_phrase = refl

-- at (1, 2) one place of each is left, one member and the end; to find (4, 5) takes that place and that member
left_of_phrase : own_left to_be 1 to_be_row (On (extent 1 2)) ≡ 6
left_of_phrase = refl

cost_to_find : find_cost to_be 1 to_be_row 2 (Some (extent 4 5)) ≡ 4
cost_to_find = refl

left_of_phrase-last : own_left to_be 1 to_be_row (On (extent 4 5)) ≡ 2
left_of_phrase-last = refl

-- of three members
abbrev three : List Extent
three = extent 1 2 ∷ extent 4 6 ∷ extent 7 7 ∷ []

left-at_the_second : left_of three (On (extent 4 6)) ≡ extent 4 6 ∷ extent 7 7 ∷ []
left-at_the_second = refl

left-at_the_end : left_of three End ≡ []
left-at_the_end = refl

-- if the next one is known too, it is the last that was looked for
asked-next : asked_of (Between (extent 1 2) (Some (extent 4 6))) ≡ On (extent 4 6)
asked-next = refl

not_asked-before : not_asked three Before ≡ 4
not_asked-before = refl

not_asked-at_the_second : not_asked three (On (extent 4 6)) ≡ 2
not_asked-at_the_second = refl

not_asked-none_after : not_asked three (Between (extent 7 7) None) ≡ 0
not_asked-none_after = refl

behind-member : after (Some (extent 4 6)) ≡ 5
behind-member = refl

past-member : past (Some (extent 4 6)) ≡ 7
past-member = refl

left-of_two : all_left (three ∷ three ∷ []) (2 ∷ 7 ∷ []) ≡ (extent 4 6 ∷ extent 7 7 ∷ []) ∷ (extent 7 7 ∷ []) ∷ []
left-of_two = refl

-- three nodes, each with a place; the operands' readers stand before all members
nodes-both : nodes (both (more_forms to (more_forms be no_forms))) ≡ 3
nodes-both = refl

starts-new : starts_at (more_forms to (more_forms be no_forms)) (new_places_of (more_forms to (more_forms be no_forms))) ≡ 0 ∷ 0 ∷ []
starts-new = refl

page-behind : behind_page 0 (extent 1 2 ∷ extent 4 6 ∷ []) ≡ 5
page-behind = refl

page-empty : behind_page 3 [] ≡ 3
page-empty = refl
