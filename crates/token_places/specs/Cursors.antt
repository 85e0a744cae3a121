-- For proofs only: what a cursor still has to give.
use Rattle.std.specs.Prelude.{ℕ, ◌-◌, List, ◌∷◌, map, length, Option, Some, None}
use Rattle.std.specs.Char.{to_ascii_lowercase}
use denote.Ref.{Bor}
use Rattle.gcl_model.specs.Tokens.{open_token, close_token}
use Rattle.token_places.specs.Places.{Place, Placed, placed_from}
use Rattle.token_places.specs.declared.placed_token.TokenKind.{TokenKind}
use Rattle.token_places.specs.declared.placed_token.TokenKind.TheVariants.{Word, OpenTag, CloseTag}

-- the token of a name: for a closing tag with the name `B` it is `</b>`
abbrev pub spelled : TokenKind → List ℕ → List ℕ
spelled Word name = map to_ascii_lowercase name
spelled OpenTag name = open_token (map to_ascii_lowercase name)
spelled CloseTag name = close_token (map to_ascii_lowercase name)

-- the tokens of the last bytes of a text of n bytes, with their places
abbrev pub placed_behind : ℕ → List ℕ → List Placed
placed_behind n rest = placed_from (n - length rest) rest

-- the same, and before them the closing token of a self-closing tag, if it is still to come
abbrev pub still_to_come : Option (Bor (List ℕ)) → Place → ℕ → List ℕ → List Placed
still_to_come None place n rest = placed_behind n rest
still_to_come (Some name) place n rest = record { place = place; token = close_token (map to_ascii_lowercase name.now) } ∷ placed_behind n rest
