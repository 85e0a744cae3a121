-- For proofs only: the words of a file that begin with a prefix, put in byte order one by one.
use Rattle.std.specs.Prelude.{ℕ, List, [], ◌∷◌, if◌then◌else◌}
use Rattle.gcl_model.specs.Wide.{begins_with}
use Rattle.wide_terms.specs.Vocabulary.{with_token}

-- words in byte order with the token, if it begins with the prefix
abbrev pub with_match : List ℕ → List ℕ → List (List ℕ) → List (List ℕ)
with_match prefix token words = if begins_with prefix token then with_token token words else words

-- with each of these tokens, starting with the first
abbrev pub with_matches : List ℕ → List (List ℕ) → List (List ℕ) → List (List ℕ)
with_matches prefix [] words = words
with_matches prefix (token ∷ tokens) words = with_matches prefix tokens (with_match prefix token words)
