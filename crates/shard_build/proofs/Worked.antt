-- Groups of words, computed: `to be to` starting at address 5.
use Rattle.std.proofs.Common.{◌≡◌, ℕ, List, [], ◌∷◌, length, codes, Some, None, refl}
use Rattle.gcl_model.specs.Texts.{Word}
use Rattle.gcl_model.specs.Collections.{words_from, with_boundaries, width_of}
use Rattle.shard_build.specs.Ahead.{tokens_between}
use Rattle.shard_build.specs.Groups.{group_of}
use Rattle.shard_build.specs.Met.{first_with}

abbrev to_be_to : List (List ℕ)
to_be_to = codes "to" ∷ codes "be" ∷ codes "to" ∷ []

abbrev words : List Word
words = words_from 5 (with_boundaries to_be_to)

-- a token that occurs twice, one that occurs once, and one that occurs nowhere
group_of-twice : group_of words (codes "to") ≡ Some (6 ∷ 8 ∷ [])
group_of-twice = refl

group_of-once : group_of words (codes "be") ≡ Some (7 ∷ [])
group_of-once = refl

group_of-missing : group_of words (codes "or") ≡ None
group_of-missing = refl

-- the boundaries are around the tokens
group_of-start : group_of words (codes "<file!>") ≡ Some (5 ∷ [])
group_of-start = refl

group_of-end : group_of words (codes "</file!>") ≡ Some (9 ∷ [])
group_of-end = refl

width_of-three : width_of to_be_to ≡ 5
width_of-three = refl

-- between the boundaries are the tokens
tokens_between-three : tokens_between words ≡ to_be_to
tokens_between-three = refl

-- if a name's length is its hash: two names have 2, and the first of them is found; none has 3
first_with-two : first_with length 2 0 to_be_to ≡ Some 0
first_with-two = refl

first_with-none : first_with length 3 0 to_be_to ≡ None
first_with-none = refl
