-- For proofs alone: what a cursor still has to give.
use Rattle.std.specs.Prelude.{ℕ, List, ◌∷◌, map, Option, Some, None}
use Rattle.std.specs.Char.{to_ascii_lowercase}
use denote.Ref.{Bor}
use Rattle.gcl_model.specs.Tokens.{close_token, tokens_of}

-- the tokens of a text, and before them the closing one of an empty tag: with the tag `<A/>` after it, of "to" they are `</a>` and `to`
abbrev pub still_to_come : Option (Bor (List ℕ)) → List ℕ → List (List ℕ)
still_to_come None rest = tokens_of rest
still_to_come (Some name) rest = close_token (map to_ascii_lowercase name.now) ∷ tokens_of rest
