-- Worked examples of the part of a text, computed.
use Rattle.std.specs.Prelude.{◌≡◌, ℕ, List, [], ◌∷◌, None, Some, refl, codes}
use Rattle.gcl_model.specs.Texts.{Text, Word, next_place, previous_place}
use Rattle.text_window.specs.Within.{within}

abbrev word : ℕ → List ℕ → Word
word p token = record { address = p; token = token }

-- `to be or` at 0 to 2
abbrev to_be_or : Text
to_be_or = record { first = 0; next = 3; words = word 0 (codes "to") ∷ word 1 (codes "be") ∷ word 2 (codes "or") ∷ [] }

-- and at 10 to 12
abbrev far_off : Text
far_off = record { first = 10; next = 13; words = word 10 (codes "to") ∷ word 11 (codes "be") ∷ word 12 (codes "or") ∷ [] }

pub the_part_from_1_to_1_is_be : within to_be_or 1 1 ≡ record { first = 1; next = 2; words = word 1 (codes "be") ∷ [] }
the_part_from_1_to_1_is_be = refl

pub a_part_may_reach_out_of_the_text : within to_be_or 1 9 ≡ record { first = 1; next = 3; words = word 1 (codes "be") ∷ word 2 (codes "or") ∷ [] }
a_part_may_reach_out_of_the_text = refl

pub behind_the_text_there_is_none : within to_be_or 5 9 ≡ record { first = 3; next = 3; words = [] }
behind_the_text_there_is_none = refl

pub nor_before_it : within far_off 2 4 ≡ record { first = 10; next = 10; words = [] }
nor_before_it = refl

pub a_word_of_the_part_is_found : next_place (within to_be_or 1 1).words (codes "be") 0 ≡ Some 1
a_word_of_the_part_is_found = refl

pub a_word_above_it_is_not : next_place (within to_be_or 1 1).words (codes "or") 0 ≡ None
a_word_above_it_is_not = refl

pub nor_one_below_it : previous_place (within to_be_or 1 1).words (codes "to") 9 ≡ None
nor_one_below_it = refl
