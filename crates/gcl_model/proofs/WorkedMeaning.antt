-- Worked examples of what expressions denote, of accesses and of costs, computed.
use native.Mathlib.Omega.{arith}
use Rattle.std.specs.Prelude.{◌≡◌, ℕ, true, false, List, [], ◌∷◌, Some, None, refl, codes}
use Rattle.gcl_model.specs.Extents.{extent}
use Rattle.gcl_model.specs.Access.{first_start, first_end, last_end, last_start}
use Rattle.gcl_model.specs.Texts.{Text, Word, next_place, previous_place, any_pair}
use Rattle.gcl_model.specs.Elements.{IsElementFrom, IsElementUpTo}
use Rattle.gcl_model.specs.Forms.{Form, Forms, term, phrase, width, both, one, seq, containing, contained_in, not_containing, not_contained_in, no_forms, more_forms}
use Rattle.gcl_model.specs.Meaning.{concordance}
use Rattle.gcl_model.specs.Cost.{cost}

abbrev pub word : ℕ → List ℕ → Word
word p token = record { address = p; token = token }

-- `to be or not to be` between its boundary tokens
abbrev pub hamlet : Text
hamlet = record {
  first = 0;
  next = 8;
  words = word 0 (codes "<file!>") ∷ word 1 (codes "to") ∷ word 2 (codes "be") ∷ word 3 (codes "or") ∷ word 4 (codes "not")
      ∷ word 5 (codes "to") ∷ word 6 (codes "be") ∷ word 7 (codes "</file!>") ∷ [];
}

abbrev pub t : Form
t = term (codes "to")

abbrev b : Form
b = term (codes "be")

abbrev n : Form
n = term (codes "not")

abbrev pub two : Form → Form → Forms
two a b = more_forms a (more_forms b no_forms)

pub a_term : concordance hamlet t ≡ extent 1 1 ∷ extent 5 5 ∷ []
a_term = refl

pub an_unknown_word : concordance hamlet (term (codes "x")) ≡ []
an_unknown_word = refl

pub the_next_place : next_place hamlet.words (codes "to") 2 ≡ Some 5
the_next_place = refl

pub no_previous_place : previous_place hamlet.words (codes "to") 0 ≡ None
no_previous_place = refl

-- "to be" begins at 1 and at 5
pub no_pair_between : any_pair hamlet.words (codes "to") (codes "be") 2 5 ≡ false
no_pair_between = refl

pub a_pair_at_the_last_address : any_pair hamlet.words (codes "to") (codes "be") 2 6 ≡ true
a_pair_at_the_last_address = refl

-- "to" at 5 has "be" right after it, and no "be" has "to" right after it
pub no_pair_the_other_way : any_pair hamlet.words (codes "be") (codes "to") 0 8 ≡ false
no_pair_the_other_way = refl

-- from "to" to "be", by three look-ups: at 2 it is found at 5, and at 3 it ends at 6
pub an_element_from : IsElementFrom hamlet.words (codes "to") (codes "be") 2 (extent 5 6)
an_element_from = record { at = 5; found = refl; on = refl; back = refl }

pub an_element_up_to : IsElementUpTo hamlet.words (codes "to") (codes "be") 3 (extent 5 6)
an_element_up_to = record { at = 6; found = refl; behind = omega arith; back = refl; on = refl; reaches = omega arith }

-- (1, 6) begins with the one and ends with the other too, but others are nested in it
pub followed_by_is_nearest : concordance hamlet (seq (two t b)) ≡ extent 1 2 ∷ extent 5 6 ∷ []
followed_by_is_nearest = refl

-- the second member begins after the end of the first
pub a_word_followed_by_itself : concordance hamlet (seq (two b b)) ≡ extent 2 6 ∷ []
a_word_followed_by_itself = refl

pub both_in_either_order : concordance hamlet (both (two t n)) ≡ extent 1 4 ∷ extent 4 5 ∷ []
both_in_either_order = refl

pub containing_a_word : concordance hamlet (containing (seq (two b t)) n) ≡ extent 2 5 ∷ []
containing_a_word = refl

pub not_containing_a_word : concordance hamlet (not_containing (seq (two b t)) (term (codes "or"))) ≡ []
not_containing_a_word = refl

pub contained_in_an_interval : concordance hamlet (contained_in t (seq (two b t))) ≡ extent 5 5 ∷ []
contained_in_an_interval = refl

pub not_contained_in_an_interval : concordance hamlet (not_contained_in t (seq (two b t))) ≡ extent 1 1 ∷ []
not_contained_in_an_interval = refl

pub a_width : concordance hamlet (width 7) ≡ extent 0 6 ∷ extent 1 7 ∷ []
a_width = refl

pub a_width_of_the_span : concordance hamlet (width 8) ≡ extent 0 7 ∷ []
a_width_of_the_span = refl

pub a_width_past_the_span : concordance hamlet (width 9) ≡ []
a_width_past_the_span = refl

abbrev pair_or_word : Form
pair_or_word = one (two (both (two t n)) b)

-- (1, 4) is an interval of the first operand, but (2, 2) is nested in it
pub one_of_drops_what_holds_another : concordance hamlet pair_or_word ≡ extent 2 2 ∷ extent 4 5 ∷ extent 6 6 ∷ []
one_of_drops_what_holds_another = refl

-- the nearer of the operands' answers would be (1, 4)
pub one_of_from_an_end : first_end (concordance hamlet pair_or_word) 3 ≡ Some (extent 4 5)
one_of_from_an_end = refl

pub one_of_from_a_start : first_start (concordance hamlet pair_or_word) 3 ≡ Some (extent 4 5)
one_of_from_a_start = refl

pub one_of_up_to_an_end : last_end (concordance hamlet pair_or_word) 4 ≡ Some (extent 2 2)
one_of_up_to_an_end = refl

pub one_of_up_to_a_start : last_start (concordance hamlet pair_or_word) 5 ≡ Some (extent 4 5)
one_of_up_to_a_start = refl

pub nothing_behind_the_last : first_start (concordance hamlet pair_or_word) 7 ≡ None
nothing_behind_the_last = refl

pub a_phrase : concordance hamlet (phrase (codes "to" ∷ codes "be" ∷ [])) ≡ extent 1 2 ∷ extent 5 6 ∷ []
a_phrase = refl

pub within_three_words : concordance hamlet (contained_in (both (two t n)) (width 3)) ≡ extent 4 5 ∷ []
within_three_words = refl

-- `"to".."be" ^ "not"`: followed by binds tighter than both of
pub a_chain_in_a_chain : concordance hamlet (both (two (seq (two t b)) n)) ≡ extent 1 4 ∷ extent 4 6 ∷ []
a_chain_in_a_chain = refl

-- `"to" + "be" ^ "not"`
pub one_of_a_word_and_a_pair : concordance hamlet (one (two t (both (two b n)))) ≡ extent 1 1 ∷ extent 2 4 ∷ extent 5 5 ∷ []
one_of_a_word_and_a_pair = refl

-- `[2] > "to" > "be"`: containments group from the left
pub containments_from_the_left : concordance hamlet (containing (containing (width 2) t) b) ≡ extent 1 2 ∷ extent 5 6 ∷ []
containments_from_the_left = refl

pub three_operands : concordance hamlet (seq (more_forms b (more_forms t (more_forms b no_forms)))) ≡ extent 2 6 ∷ []
three_operands = refl

pub nested_three_deep : concordance hamlet (both (two (one (two (both (two t n)) (both (two b n)))) (seq (more_forms b (more_forms t (more_forms b no_forms)))))) ≡ extent 2 6 ∷ []
nested_three_deep = refl

pub cost_of_both : cost hamlet 1 (both (two t n)) ≡ 8
cost_of_both = refl

-- two members each: four turns of one look-up in each operand
pub cost_of_a_containment : cost hamlet 1 (contained_in t t) ≡ 8
cost_of_a_containment = refl

-- the rarer token occurs at one address: three turns of four look-ups
pub cost_of_a_phrase : cost hamlet 1 (phrase (codes "or" ∷ codes "be" ∷ [])) ≡ 12
cost_of_a_phrase = refl

pub cost_of_a_width : cost hamlet 1 (width 3) ≡ 0
cost_of_a_width = refl
