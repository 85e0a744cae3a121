-- Where each token of a text comes from.
use Rattle.std.specs.Prelude.{ℕ, zero, suc, ◌+◌, List, [], ◌∷◌, ◌++◌, map, length, drop}
use Rattle.gcl_model.specs.Tokens.{first_part}

-- a stretch of the bytes of a text, from one byte up to but not including another
pub record Place : Type 0 where
  pub from : ℕ
  pub to : ℕ

-- the stretch between two bytes
abbrev pub stretch : ℕ → ℕ → Place
stretch from to = record { from = from; to = to }

-- a token, and the stretch that it comes from
pub record Placed : Type 0 where
  pub place : Place
  pub token : List ℕ

-- these tokens, all from one stretch
abbrev pub placed_at : Place → List (List ℕ) → List Placed
placed_at place tokens = map (λ token. record { place = place; token = token }) tokens

-- the tokens of at most the first n parts with their places, the first part at the place `at`: the walk that cuts a text
abbrev pub placed_of_parts : ℕ → ℕ → List ℕ → List Placed
placed_of_parts zero at bytes = []
placed_of_parts (suc n) at [] = []
placed_of_parts (suc n) at (b ∷ bytes) =
    let part = first_part b bytes in
    placed_at (stretch at (at + part.size)) part.tokens ++ placed_of_parts n (at + part.size) (drop part.size (b ∷ bytes))

-- the tokens of the rest of a text, which starts at the place `at`, with their places in the text
abbrev pub placed_from : ℕ → List ℕ → List Placed
placed_from at bytes = placed_of_parts (length bytes) at bytes

-- the tokens of a text with their places
abbrev pub placed_tokens : List ℕ → List Placed
placed_tokens bytes = placed_from 0 bytes

-- the place of each token of a text: for `To <B/>` these are 0 to 2, and twice 3 to 7
abbrev pub places_of : List ℕ → List Place
places_of bytes = map (λ t. t.place) (placed_tokens bytes)

-- the place of each address of a file that is searched by itself: its boundary tokens have the empty places at both ends
abbrev pub file_places : List ℕ → List Place
file_places bytes = stretch 0 0 ∷ (places_of bytes ++ stretch (length bytes) (length bytes) ∷ [])
