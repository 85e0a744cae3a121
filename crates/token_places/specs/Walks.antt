-- For proofs only: a walk over the places of a file.
use Rattle.std.specs.Prelude.{◌≡◌, ℕ, List, [], ◌∷◌, ◌++◌, map, drop, length}
use Rattle.token_places.specs.Places.{Place, Placed, stretch, file_places}

-- this place is that of the address, and after it come those of the tokens still to come and the last one
abbrev pub IsWalk : List ℕ → ℕ → Place → List Placed → Type 0
IsWalk bytes address place placed = drop address (file_places bytes) ≡ place ∷ (map (λ t. t.place) placed ++ stretch (length bytes) (length bytes) ∷ [])
