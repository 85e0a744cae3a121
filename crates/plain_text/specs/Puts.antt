-- A word after all others, and tokens at consecutive addresses.
use Rattle.std.specs.Prelude.{ℕ, ◌+◌, ◌<◌, List, [], ◌∷◌, ◌++◌, length}
use Rattle.std.specs.List.{AllByRecursion}
use Rattle.gcl_model.specs.Texts.{Word, Text}
use Rattle.gcl_model.specs.Collections.{words_from}

-- a token at an address
abbrev pub word : ℕ → List ℕ → Word
word address token = record { address = address; token = token }

-- every word is before the address
abbrev pub AreBelow : ℕ → List Word → Type 0
AreBelow address words = AllByRecursion (λ w. w.address < address) words

-- the text with one more word
abbrev pub with_word : Text → ℕ → List ℕ → Text
with_word text address token = record text { words = text.words ++ word address token ∷ [] }

-- the text of the tokens at consecutive addresses, starting at `first`, with exactly these addresses
abbrev pub text_from : ℕ → List (List ℕ) → Text
text_from first tokens = record { first = first; next = first + length tokens; words = words_from first tokens }
