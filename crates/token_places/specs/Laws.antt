-- Laws of the places of tokens.
use Rattle.std.specs.Prelude.{◌≡◌, ℕ, ◌-◌, ◌<◌, ◌≤◌, Bool, ◌&&◌, ◌==◌, ◌⊎◌, List, [], ◌∷◌, map, filter, take, drop, length, get_or}
use Rattle.std.specs.List.{AllByRecursion}
use Rattle.gcl_model.specs.Tokens.{tokens_of}
use Rattle.gcl_model.specs.Collections.{width_of}
use Rattle.token_places.specs.Places.{Place, Placed, places_of, placed_tokens, file_places}

-- the places are those of the tokens of the text, one for each
abbrev pub TokensHavePlaces : Type 0
TokensHavePlaces = (bytes : List ℕ) → map (λ t. t.token) (placed_tokens bytes) ≡ tokens_of bytes

-- so there are as many places as tokens
abbrev pub PlacesAreAsMany : Type 0
PlacesAreAsMany = (bytes : List ℕ) → length (places_of bytes) ≡ length (tokens_of bytes)

-- and a file has one place for each of its addresses
abbrev pub FilePlacesAreAsMany : Type 0
FilePlacesAreAsMany = (bytes : List ℕ) → length (file_places bytes) ≡ width_of (tokens_of bytes)

-- the next place begins at or after the end of this one, or is the same
abbrev pub GoesOn : Place → List Place → Type 0
GoesOn a [] = Unit {0}
GoesOn a (b ∷ places) = (a.to ≤ b.from) ⊎ (b ≡ a)

-- each place has a byte or more, ends within n bytes, and goes on to the next one
abbrev pub AreInOrder : ℕ → List Place → Type 0
AreInOrder n [] = Unit {0}
AreInOrder n (a ∷ places) = (a.from < a.to) × (a.to ≤ n) × GoesOn a places × AreInOrder n places

-- the places of a text are in order
abbrev pub PlacesAreInOrder : Type 0
PlacesAreInOrder = (bytes : List ℕ) → AreInOrder (length bytes) (places_of bytes)

-- the bytes of a place
abbrev pub bytes_at : List ℕ → Place → List ℕ
bytes_at bytes p = take (p.to - p.from) (drop p.from bytes)

-- two places have the same bytes
abbrev pub same_place : Place → Place → Bool
same_place a b = (a.from == b.from) && (a.to == b.to)

-- the tokens that come from a place: two for a self-closing tag, else one
abbrev pub tokens_at : Place → List Placed → List (List ℕ)
tokens_at p placed = map (λ t. t.token) (filter (λ t. same_place t.place p) placed)

-- the bytes of each place, cut again, give exactly the tokens that come from it
abbrev pub PlacesGiveTheirTokens : Type 0
PlacesGiveTheirTokens = (bytes : List ℕ) → AllByRecursion (λ p. tokens_of (bytes_at bytes p) ≡ tokens_at p (placed_tokens bytes)) (places_of bytes)

-- the bytes starting at `at` up to the first place, between the places and after the last one give no token
abbrev pub NothingBetween : List ℕ → ℕ → List Place → Type 0
NothingBetween bytes at [] = tokens_of (drop at bytes) ≡ []
NothingBetween bytes at (p ∷ places) = (tokens_of (take (p.from - at) (drop at bytes)) ≡ []) × NothingBetween bytes p.to places

-- no token comes from anywhere else
abbrev pub NothingElse : Type 0
NothingElse = (bytes : List ℕ) → NothingBetween bytes 0 (places_of bytes)

-- a later place begins and ends no earlier
pub record IsNoEarlier (n : ℕ) (a b : Place) : Type 0 where
  pub first : a.from ≤ a.to
  pub starts : a.from ≤ b.from
  pub ends : a.to ≤ b.to
  pub within : b.to ≤ n

-- the places of a file, from the first address to the last, begin and end no earlier from each to the next, within its bytes
abbrev pub FilePlacesRise : Type 0
FilePlacesRise = (bytes : List ℕ) (i j : ℕ) (d : Place) → i ≤ j → j < length (file_places bytes) → IsNoEarlier (length bytes) (get_or (file_places bytes) i d) (get_or (file_places bytes) j d)
