-- For proofs alone: tokens one after the other, and where each ends.
use Rattle.std.specs.Prelude.{◌≡◌, ℕ, ◌+◌, ◌-◌, List, [], ◌∷◌, take, drop, length}
use Rattle.std.specs.List.{concat}

-- where each of the tokens ends, the first of which begins at a place: of "to", "be" starting at 0 these are 2 and 4
abbrev pub ends_from : ℕ → List (List ℕ) → List ℕ
ends_from from [] = []
ends_from from (token ∷ tokens) = (from + length token) ∷ ends_from (from + length token) tokens

-- the bytes starting at a place, cut at these ends: "tobe" starting at 0, cut at 2 and 4, is "to" and "be"
abbrev pub cut_from : ℕ → List ℕ → List ℕ → List (List ℕ)
cut_from from [] bytes = []
cut_from from (end ∷ ends) bytes = take (end - from) bytes ∷ cut_from end ends (drop (end - from) bytes)

-- these are the bytes of the tokens one after the other, and their ends
pub record AreJoined (tokens : List (List ℕ)) (bytes ends : List ℕ) : Type 0 where
  pub joined : bytes ≡ concat tokens
  pub cut : ends ≡ ends_from 0 tokens
