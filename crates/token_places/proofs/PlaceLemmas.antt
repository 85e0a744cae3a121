-- The places of a text are those of its first part and those of the rest.
use Rattle.std.proofs.Common.{◌≡◌, ℕ, zero, suc, ◌+◌, ◌-◌, ◌<◌, ◌≤◌, List, [], ◌∷◌, ◌++◌, length, drop, map, refl, sym, ap, ◌∙◌, arith, length-append, length-drop}
use Rattle.std.proofs.lemmas.List.{map-append, length-map}
use Rattle.gcl_model.specs.Tokens.{Part, first_part, tokens_of_parts}
use Rattle.gcl_model.proofs.Parts.{first_part_size}
use Rattle.word_tokens.specs.Lexemes.{part_of}
use Rattle.word_tokens.proofs.PartLemmas.{part_of_fits}
use Rattle.token_places.specs.Places.{Place, Placed, stretch, placed_at, placed_of_parts, placed_from, placed_tokens, places_of}
use Rattle.token_places.specs.Cursors.{placed_behind}
use Rattle.token_places.specs.Laws.{TokensHavePlaces, PlacesAreAsMany, FilePlacesAreAsMany}

-- more parts than bytes make no difference
pub parts_enough : (n m at : ℕ) (bytes : List ℕ) → length bytes ≤ n → length bytes ≤ m → placed_of_parts n at bytes ≡ placed_of_parts m at bytes
parts_enough zero zero at bytes p q = refl
parts_enough zero (suc m) at [] p q = refl
parts_enough zero (suc m) at (b ∷ bytes) p q = absurd (omega arith)
parts_enough (suc n) zero at [] p q = refl
parts_enough (suc n) zero at (b ∷ bytes) p q = absurd (omega arith)
parts_enough (suc n) (suc m) at [] p q = refl
parts_enough (suc n) (suc m) at (b ∷ bytes) p q =
    let part = first_part b bytes in
    let h : 1 ≤ part.size = first_part_size b bytes in
    let shorter : length (drop part.size (b ∷ bytes)) ≤ length bytes = omega (arith, length-drop part.size (b ∷ bytes)) in
    ap (λ rest. placed_at (stretch at (at + part.size)) part.tokens ++ rest) (parts_enough n m (at + part.size) (drop part.size (b ∷ bytes)) (omega arith) (omega arith))

placed_step : (n at b : ℕ) (bytes : List ℕ) → n ≡ suc (length bytes) →
    placed_of_parts n at (b ∷ bytes) ≡ placed_at (stretch at (at + (first_part b bytes).size)) (first_part b bytes).tokens ++ placed_from (at + (first_part b bytes).size) (drop (first_part b bytes).size (b ∷ bytes))
placed_step zero at b bytes is = absurd (omega arith)
placed_step (suc n) at b bytes is =
    let part = first_part b bytes in
    let h : 1 ≤ part.size = first_part_size b bytes in
    let rest : List ℕ = drop part.size (b ∷ bytes) in
    let shorter : length rest ≤ length bytes = omega (arith, length-drop part.size (b ∷ bytes)) in
    ap (λ more. placed_at (stretch at (at + part.size)) part.tokens ++ more) (parts_enough n (length rest) (at + part.size) rest (omega arith) (omega arith))

-- one part is cut off, and the walk goes on with the rest
pub placed_from-cons : (at b : ℕ) (bytes : List ℕ) →
    placed_from at (b ∷ bytes) ≡ placed_at (stretch at (at + (first_part b bytes).size)) (first_part b bytes).tokens ++ placed_from (at + (first_part b bytes).size) (drop (first_part b bytes).size (b ∷ bytes))
placed_from-cons at b bytes = placed_step (length (b ∷ bytes)) at b bytes (omega arith)

-- the same if the places are counted from the end of the text
pub placed_behind-part : (n : ℕ) (text : List ℕ) → 0 < length text → length text ≤ n →
    placed_behind n text ≡ placed_at (stretch (n - length text) (n - length (drop (part_of text).size text))) (part_of text).tokens ++ placed_behind n (drop (part_of text).size text)
placed_behind-part n [] some le = absurd (omega arith)
placed_behind-part n (b ∷ bytes) some le =
    let part : Part = first_part b bytes in
    let fit = part_of_fits (b ∷ bytes) some in
    let fits : part.size ≤ length (b ∷ bytes) = fit.fits in
    let at : ℕ = n - length (b ∷ bytes) in
    let e : at + part.size ≡ n - length (drop part.size (b ∷ bytes)) = omega (arith, length-drop part.size (b ∷ bytes)) in
    placed_from-cons at b bytes ∙ ap (λ to. placed_at (stretch at to) part.tokens ++ placed_from to (drop part.size (b ∷ bytes))) e

-- nothing is left of no bytes
pub placed_behind-none : (n : ℕ) (text : List ℕ) → length text ≡ 0 → placed_behind n text ≡ []
placed_behind-none n [] none = refl
placed_behind-none n (b ∷ bytes) none = absurd (omega arith)

pub tokens-placed_at : (place : Place) (tokens : List (List ℕ)) → map (λ t. t.token) (placed_at place tokens) ≡ tokens
tokens-placed_at place [] = refl
tokens-placed_at place (token ∷ tokens) = ap (λ others. token ∷ others) (tokens-placed_at place tokens)

tokens-placed_of_parts : (n at : ℕ) (bytes : List ℕ) → map (λ t. t.token) (placed_of_parts n at bytes) ≡ tokens_of_parts n bytes
tokens-placed_of_parts zero at bytes = refl
tokens-placed_of_parts (suc n) at [] = refl
tokens-placed_of_parts (suc n) at (b ∷ bytes) =
    let part = first_part b bytes in
    let here = placed_at (stretch at (at + part.size)) part.tokens in
    let more = placed_of_parts n (at + part.size) (drop part.size (b ∷ bytes)) in
    map-append (λ (t : Placed). t.token) here more
    ∙ ap (λ tokens. tokens ++ map (λ (t : Placed). t.token) more) (tokens-placed_at (stretch at (at + part.size)) part.tokens)
    ∙ ap (λ tokens. part.tokens ++ tokens) (tokens-placed_of_parts n (at + part.size) (drop part.size (b ∷ bytes)))

pub tokens_have_places : TokensHavePlaces
tokens_have_places bytes = tokens-placed_of_parts (length bytes) 0 bytes

pub places_are_as_many : PlacesAreAsMany
places_are_as_many bytes =
    length-map (placed_tokens bytes) (λ (t : Placed). t.place) ∙ sym (length-map (placed_tokens bytes) (λ (t : Placed). t.token)) ∙ ap length (tokens_have_places bytes)

pub file_places_are_as_many : FilePlacesAreAsMany
file_places_are_as_many bytes = omega (arith, places_are_as_many bytes, length-append (places_of bytes) (stretch (length bytes) (length bytes) ∷ []))
