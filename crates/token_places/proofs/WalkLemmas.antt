-- A walk over the places of a file, one address on and at the end.
use Rattle.std.proofs.Common.{◌≡◌, ℕ, zero, suc, ◌+◌, ◌-◌, ◌<◌, List, [], ◌∷◌, ◌++◌, length, drop, map, get_or, refl, sym, ap, ◌∙◌, arith, add-zero}
use Rattle.std.proofs.lemmas.List.{drop-drop, get_or-drop}
use Rattle.token_places.specs.Places.{Place, Placed, stretch, file_places}
use Rattle.token_places.specs.Walks.{IsWalk}

-- the next token has the next address
pub walk_on : (bytes : List ℕ) (address : ℕ) (place : Place) (token : Placed) (old more : List Placed) → IsWalk bytes address place old → old ≡ token ∷ more → IsWalk bytes (address + 1) token.place more
walk_on bytes address place token old more walk is =
    sym (drop-drop 1 address (file_places bytes)) ∙ ap (drop 1) walk ∙ ap (λ placed. map (λ (t : Placed). t.place) placed ++ stretch (length bytes) (length bytes) ∷ []) is

-- the place of the address that was reached
pub walk_here : (bytes : List ℕ) (address : ℕ) (place : Place) (more : List Placed) (d : Place) → IsWalk bytes address place more → place ≡ get_or (file_places bytes) address d
walk_here bytes address place more d walk =
    sym (ap (λ n. get_or (file_places bytes) n d) (sym (add-zero address)) ∙ sym (get_or-drop address (file_places bytes) 0 d) ∙ ap (λ places. get_or places 0 d) walk)

-- if no token is left only the last address comes, and all after it have its place
pub walk_end : (bytes : List ℕ) (address k : ℕ) (place : Place) (more : List Placed) → IsWalk bytes address place more → more ≡ [] → address < k
    → stretch (length bytes) (length bytes) ≡ get_or (file_places bytes) k (stretch (length bytes) (length bytes))
walk_end bytes address k place more walk none behind =
    let end : Place = stretch (length bytes) (length bytes) in
    let left : drop address (file_places bytes) ≡ place ∷ end ∷ [] = walk ∙ ap (λ placed. place ∷ (map (λ (t : Placed). t.place) placed ++ end ∷ [])) none in
    let at : k ≡ address + (k - address) = omega arith in
    let later : get_or (place ∷ end ∷ []) (k - address) end ≡ end = two (k - address) (omega arith) in
    sym (ap (λ n. get_or (file_places bytes) n end) at ∙ sym (get_or-drop address (file_places bytes) (k - address) end) ∙ ap (λ places. get_or places (k - address) end) left ∙ later)
  where
    two : (i : ℕ) → 0 < i → get_or (place ∷ stretch (length bytes) (length bytes) ∷ []) i (stretch (length bytes) (length bytes)) ≡ stretch (length bytes) (length bytes)
    two zero h = absurd (omega arith)
    two (suc zero) h = refl
    two (suc (suc i)) h = refl
