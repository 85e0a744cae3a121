-- Worked examples of the places of a prefix term, computed.
use Rattle.std.specs.Prelude.{◌≡◌, ℕ, List, [], ◌∷◌, refl, codes}
use Rattle.gcl_model.specs.Texts.{Word}
use Rattle.index_shard.specs.Tables.{TermEntry}
use Rattle.prefix_places.specs.Places.{wide_places}
use Rattle.prefix_places.specs.Runs.{run_addresses}

abbrev word : ℕ → List ℕ → Word
word address token = record { address = address; token = token }

abbrev entry : List ℕ → List ℕ → TermEntry
entry term addresses = record { term = term; addresses = addresses }

-- `to be or not to be, then`
abbrev words : List Word
words = word 1 (codes "to") ∷ word 2 (codes "be") ∷ word 3 (codes "or") ∷ word 4 (codes "not") ∷ word 5 (codes "to") ∷ word 6 (codes "be") ∷ word 7 (codes "then") ∷ []

pub places_of_two_words : wide_places words (codes "t*") ≡ 1 ∷ 5 ∷ 7 ∷ []
places_of_two_words = refl

pub a_prefix_that_is_a_word : wide_places words (codes "to*") ≡ 1 ∷ 5 ∷ []
a_prefix_that_is_a_word = refl

pub all_words : wide_places words (codes "*") ≡ 1 ∷ 2 ∷ 3 ∷ 4 ∷ 5 ∷ 6 ∷ 7 ∷ []
all_words = refl

-- term by term they do not rise
pub by_term : run_addresses (codes "t") (entry (codes "not") (4 ∷ []) ∷ entry (codes "then") (7 ∷ []) ∷ entry (codes "to") (1 ∷ 5 ∷ []) ∷ []) ≡ 7 ∷ 1 ∷ 5 ∷ []
by_term = refl
