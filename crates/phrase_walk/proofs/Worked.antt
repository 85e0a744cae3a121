-- Bounds of walks, computed.
use Rattle.std.proofs.Common.{◌≡◌, true, false, List, [], ◌∷◌, Some, None, codes, refl}
use Rattle.gcl_model.specs.Extents.{extent}
use Rattle.gcl_model.specs.Texts.{Text, Word}
use Rattle.gcl_model.specs.Collections.{words_from}
use Rattle.phrase_walk.specs.Starts.{is_one_word}
use Rattle.phrase_walk.specs.Rounds.{rounds_cost, fewest_between, passed_cost}

-- to be or not to be
abbrev hamlet : List Word
hamlet = words_from 0 (codes "to" ∷ codes "be" ∷ codes "or" ∷ codes "not" ∷ codes "to" ∷ codes "be" ∷ [])

abbrev whole : Text
whole = record { first = 0; next = 6; words = hamlet }

rounds_cost-twice : rounds_cost hamlet 1 (codes "to" ∷ codes "be" ∷ []) ≡ 6
rounds_cost-twice = refl

rounds_cost-rare : rounds_cost hamlet 1 (codes "not" ∷ codes "to" ∷ codes "be" ∷ []) ≡ 6
rounds_cost-rare = refl

rounds_cost-absent : rounds_cost hamlet 32 (codes "to" ∷ codes "do" ∷ []) ≡ 64
rounds_cost-absent = refl

-- "be" is at 1 and 5, and "to" at 0 and 4: in a walk for "to be" at or after 1, which finds (4, 5), each is passed once
fewest_between-on : fewest_between hamlet (codes "to" ∷ codes "be" ∷ []) 1 5 ≡ 1
fewest_between-on = refl

passed_cost-found : passed_cost whole 1 (codes "to" ∷ codes "be" ∷ []) 1 (Some (extent 4 5)) ≡ 4
passed_cost-found = refl

-- behind it there is none
passed_cost-none : passed_cost whole 1 (codes "to" ∷ codes "be" ∷ []) 5 None ≡ 2
passed_cost-none = refl

one_word-again : is_one_word (codes "ha" ∷ codes "ha" ∷ codes "ha" ∷ []) ≡ true
one_word-again = refl

one_word-other : is_one_word (codes "ha" ∷ codes "ha" ∷ codes "he" ∷ []) ≡ false
one_word-other = refl
