-- Worked examples of where two texts agree and of the addresses between which lists differ, computed.
use Rattle.std.specs.Prelude.{◌≡◌, ℕ, List, true, false, [], ◌∷◌, ◌++◌, None, Some, refl, codes, filter}
use Rattle.std.proofs.Common.{arith}
use Rattle.gcl_model.specs.Extents.{extent}
use Rattle.gcl_model.specs.Texts.{Text, Word}
use Rattle.gcl_model.specs.Forms.{Form, term, phrase, width, one, seq, both, containing, contained_in, not_contained_in, no_forms, more_forms}
use Rattle.gcl_model.specs.Wide.{wide}
use Rattle.gcl_locality.specs.Agreement.{has_address}
use Rattle.gcl_locality.specs.Changed.{earlier_start, later_end, changed_from, changed_upto, is_lost, differs, touches, looks_around}
use Rattle.gcl_locality.specs.Windows.{IsPart, start_before, end_behind, reach_from, reach_upto, window_from, window_upto}

abbrev word : ℕ → List ℕ → Word
word p token = record { address = p; token = token }

abbrev hamlet : List Word
hamlet = word 0 (codes "<file!>") ∷ word 1 (codes "to") ∷ word 2 (codes "be") ∷ word 3 (codes "or") ∷ word 4 (codes "not")
    ∷ word 5 (codes "to") ∷ word 6 (codes "be") ∷ word 7 (codes "</file!>") ∷ []

-- `to be or not to be`
abbrev before : Text
before = record { first = 0; next = 8; words = hamlet }

-- and then a file with the word `x`, at 8 to 10
abbrev after : Text
after = record { first = 0; next = 11; words = hamlet ++ word 8 (codes "<file!>") ∷ word 9 (codes "x") ∷ word 10 (codes "</file!>") ∷ [] }

abbrev to : Form
to = term (codes "to")

abbrev be : Form
be = term (codes "be")

abbrev x : Form
x = term (codes "x")

abbrev followed : Form → Form → Form
followed a b = seq (more_forms a (more_forms b no_forms))

an_old_address : has_address before 7 ≡ true
an_old_address = refl

a_new_address : has_address before 8 ≡ false
a_new_address = refl

-- a chain that ends in the new file: what comes touches it, though it starts before
abbrev chain : Form
chain = followed be x

a_chain_before : wide before chain ≡ []
a_chain_before = refl

a_chain_after : wide after chain ≡ extent 6 9 ∷ []
a_chain_after = refl

a_chain_changes_from : changed_from before after 8 chain ≡ 8
a_chain_changes_from = refl

a_chain_changes_upto : changed_upto before after 10 chain ≡ 10
a_chain_changes_upto = refl

it_came : is_lost (wide after chain) (wide before chain) (extent 6 9) ≡ true
it_came = refl

it_touches_the_file : touches 8 10 (extent 6 9) ≡ true
it_touches_the_file = refl

-- "be" /< ("to".."x"): with the file there is (5, 9), in which the `be` at 6 lies
abbrev watched : Form
watched = not_contained_in be (followed to x)

watched_before : wide before watched ≡ extent 2 2 ∷ extent 6 6 ∷ []
watched_before = refl

watched_after : wide after watched ≡ extent 2 2 ∷ []
watched_after = refl

its_second_operand : wide after (followed to x) ≡ extent 5 9 ∷ []
its_second_operand = refl

watched_changes_from : changed_from before after 8 watched ≡ 5
watched_changes_from = refl

watched_changes_upto : changed_upto before after 10 watched ≡ 10
watched_changes_upto = refl

-- if `<` and `/<` were taken to change only where their operands do, from 8 to 10, the loss of this `be` would be missed
it_went : differs (wide before watched) (wide after watched) (extent 6 6) ≡ true
it_went = refl

it_does_not_touch_the_file : touches 8 10 (extent 6 6) ≡ false
it_does_not_touch_the_file = refl

it_touches_what_is_looked_at : touches 5 10 (extent 6 6) ≡ true
it_touches_what_is_looked_at = refl

-- the same with `<`, to which the `be` is added, and read the other way: the file is removed
it_came_inside : is_lost (wide after (contained_in be (followed to x))) (wide before (contained_in be (followed to x))) (extent 6 6) ≡ true
it_came_inside = refl

gone_changes_from : changed_from after before 8 watched ≡ 5
gone_changes_from = refl

-- if the first file is removed, what contains the word of the second file is looked at on its other side
abbrev last : Text
last = record { first = 0; next = 11; words = word 8 (codes "<file!>") ∷ word 9 (codes "x") ∷ word 10 (codes "</file!>") ∷ [] }

gone_changes_upto : changed_upto after last 7 (contained_in x (followed be x)) ≡ 9
gone_changes_upto = refl

-- the wide list of `t*` and a containment of it
a_prefix_term : wide after (containing (followed (term (codes "t*")) x) be) ≡ extent 5 9 ∷ []
a_prefix_term = refl

a_width_before : wide before (width 7) ≡ extent 0 6 ∷ extent 1 7 ∷ []
a_width_before = refl

no_earlier_start : earlier_start 8 None ≡ 8
no_earlier_start = refl

a_later_end : later_end 8 (Some (extent 5 9)) ≡ 9
a_later_end = refl

followed_looks_not_around : looks_around (followed to x) ≡ false
followed_looks_not_around = refl

watched_looks_around : looks_around (both (more_forms watched (more_forms to no_forms))) ≡ true
watched_looks_around = refl

-- windows: the `be` at 6 alone does not show that it lies in (5, 9), and the window of "be" /< ("to".."x") at 6 has what shows it
abbrev alone : Text
alone = record { first = 6; next = 7; words = word 6 (codes "be") ∷ [] }

its_window_from : window_from after 6 6 watched ≡ 0
its_window_from = refl

its_window_upto : window_upto after 6 6 watched ≡ 11
its_window_upto = refl

it_is_not_in_the_list : filter (touches 6 6) (wide after watched) ≡ []
it_is_not_in_the_list = refl

-- the part with the words from 6 to 6 alone gives another answer
it_is_in_the_list_of_a_part : filter (touches 6 6) (wide alone watched) ≡ extent 6 6 ∷ []
it_is_in_the_list_of_a_part = refl

-- what lies before and behind the `be` at 6
a_word_starts_before : start_before after (wide after be) 5 ≡ 2
a_word_starts_before = refl

a_word_ends_behind : end_behind after (wide after be) 5 ≡ 6
a_word_ends_behind = refl

-- the examples of the definitions
the_last_before : start_before after (extent 1 2 ∷ extent 5 6 ∷ []) 5 ≡ 1
the_last_before = refl

the_first_behind : end_behind after (extent 1 2 ∷ extent 5 6 ∷ []) 2 ≡ 6
the_first_behind = refl

none_before : start_before last [] 9 ≡ 0
none_before = refl

none_behind : end_behind last [] 9 ≡ 11
none_behind = refl

-- a word reaches no further than itself, a phrase of two words one further, and not past the end of the text
a_word_reaches : (reach_from after 5 be ≡ 5) × (reach_upto after 5 be ≡ 5)
a_word_reaches = (refl, refl)

abbrev to_be : Form
to_be = phrase (codes "to" ∷ codes "be" ∷ [])

a_phrase_reaches : (reach_from after 5 to_be ≡ 4) × (reach_upto after 5 to_be ≡ 6) × (reach_from after 0 to_be ≡ 0) × (reach_upto after 11 to_be ≡ 11)
a_phrase_reaches = (refl, refl, refl, refl)

its_reach : (reach_from before 3 to_be ≡ 2) × (reach_upto before 4 to_be ≡ 5)
its_reach = (refl, refl)

an_elements_window : (window_from before 3 4 (followed to be) ≡ 1) × (window_upto before 3 4 (followed to be) ≡ 6)
an_elements_window = (refl, refl)

-- what lies within a width reaches no further than that
within_a_width_reaches : (reach_from after 6 (contained_in (followed to x) (width 3)) ≡ 3) × (reach_upto after 6 (contained_in (followed to x) (width 3)) ≡ 9)
within_a_width_reaches = (refl, refl)

-- what a containment keeps reaches as far as its first operand, and "one of" as far as the one that reaches furthest
a_containment_reaches : (reach_from after 5 (containing (followed to x) be) ≡ reach_from after 5 (followed to x)) × (reach_upto after 5 (contained_in be (followed to x)) ≡ 5)
a_containment_reaches = (refl, refl)

one_of_reaches : (reach_from after 5 (one (more_forms be (more_forms to_be no_forms))) ≡ 4) × (reach_upto after 5 (one (more_forms be (more_forms to_be no_forms))) ≡ 6)
one_of_reaches = (refl, refl)

-- `to x to x be to be x be to x be to x to x` at 0 to 15: the window of the same expression at 8 has the words from 5 to 10
abbrev inner_words : List Word
inner_words = word 5 (codes "to") ∷ word 6 (codes "be") ∷ word 7 (codes "x") ∷ word 8 (codes "be") ∷ word 9 (codes "to") ∷ word 10 (codes "x") ∷ []

abbrev long : Text
long = record {
  first = 0;
  next = 16;
  words = word 0 (codes "to") ∷ word 1 (codes "x") ∷ word 2 (codes "to") ∷ word 3 (codes "x") ∷ word 4 (codes "be")
      ∷ inner_words ++ word 11 (codes "be") ∷ word 12 (codes "to") ∷ word 13 (codes "x") ∷ word 14 (codes "to") ∷ word 15 (codes "x") ∷ [];
}

abbrev inner : Text
inner = record { first = 5; next = 11; words = inner_words }

long_list : wide long watched ≡ extent 4 4 ∷ extent 8 8 ∷ extent 11 11 ∷ []
long_list = refl

long_from : window_from long 8 8 watched ≡ 5
long_from = refl

long_upto : window_upto long 8 8 watched ≡ 10
long_upto = refl

its_part_tells : filter (touches 8 8) (wide inner watched) ≡ filter (touches 8 8) (wide long watched)
its_part_tells = refl

-- two addresses the wrong way round: (1, 12) touches 12 and 2, and the window, from 7 to 4, has none of its words
abbrev pairs : Text
pairs = record {
  first = 0;
  next = 20;
  words = word 3 (codes "to") ∷ word 4 (codes "x") ∷ word 5 (codes "to") ∷ word 6 (codes "x") ∷ word 7 (codes "to") ∷ word 8 (codes "x") ∷ [];
}

abbrev one_pair : Text
one_pair = record { first = 0; next = 20; words = word 1 (codes "to") ∷ word 12 (codes "x") ∷ [] }

crossed_from : window_from pairs 12 2 (followed to x) ≡ 7
crossed_from = refl

crossed_upto : window_upto pairs 12 2 (followed to x) ≡ 4
crossed_upto = refl

crossed_part : IsPart one_pair pairs 7 4
crossed_part = record { same = λ p ge le. absurd (omega arith); first = omega arith; next = omega arith }

crossed_list : filter (touches 12 2) (wide pairs (followed to x)) ≡ []
crossed_list = refl

crossed_list_of_a_part : filter (touches 12 2) (wide one_pair (followed to x)) ≡ extent 1 12 ∷ []
crossed_list_of_a_part = refl
