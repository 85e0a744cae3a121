-- A loop over a list: what it made of the members so far, and of one more.
use Rattle.std.proofs.Common.{◌≡◌, ℕ, ◌+◌, ◌<◌, List, [], ◌∷◌, ◌++◌, length, map, flat_map, take, get_or, sym, ap, ◌∙◌}
use Rattle.std.proofs.lemmas.List.{take_more, map-append, flat_map_more}

pub take_item : {X : Type 0} (xs : List X) (i : ℕ) (item : X) → i < length xs → item ≡ get_or xs i item → take (i + 1) xs ≡ take i xs ++ item ∷ []
take_item xs i item lt at = take_more xs i item lt ∙ ap (λ x. take i xs ++ x ∷ []) (sym at)

pub flat_map_item : {X A : Type 0} (f : X → List A) (xs : List X) (i : ℕ) (base out more : List A) (item : X) → i < length xs → item ≡ get_or xs i item →
    out ≡ base ++ flat_map f (take i xs) → more ≡ out ++ f item → more ≡ base ++ flat_map f (take (i + 1) xs)
flat_map_item f xs i base out more item lt at was put =
    put ∙ ap (λ l. l ++ f item) was ∙ flat_map_more f base (take i xs) item ∙ ap (λ l. base ++ flat_map f l) (sym (take_item xs i item lt at))

pub map_item : {X A : Type 0} (f : X → A) (xs : List X) (i : ℕ) (out more : List A) (item : X) → i < length xs → item ≡ get_or xs i item →
    out ≡ map f (take i xs) → more ≡ out ++ f item ∷ [] → more ≡ map f (take (i + 1) xs)
map_item f xs i out more item lt at was put =
    put ∙ ap (λ l. l ++ f item ∷ []) was ∙ sym (map-append f (take i xs) (item ∷ [])) ∙ ap (map f) (sym (take_item xs i item lt at))
