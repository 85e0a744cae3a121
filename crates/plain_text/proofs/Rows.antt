-- All pairs of addresses that pass a test, row by row.
use Rattle.std.proofs.Common.{◌≡◌, ℕ, suc, ◌+◌, ◌-◌, ◌<◌, Bool, true, false, cond, List, [], ◌∷◌, ◌++◌, map, filter, ap, sym, ◌∙◌, arith}
use Rattle.std.specs.List.{range_with_len, flat_map}
use Rattle.std.proofs.lemmas.List.{append_assoc}
use Rattle.std.proofs.lemmas.List.Elements.{filter-append}
use Rattle.gcl_model.specs.Extents.{Extent, extent}

-- the pairs that start at p and end at or after q
abbrev pub row : (Extent → Bool) → ℕ → ℕ → ℕ → List Extent
row test p q next = filter test (map (λ q. extent p q) (range_with_len q (next - q)))

-- the pairs that start at or after p
abbrev pub rows : (Extent → Bool) → ℕ → ℕ → List Extent
rows test p next = filter test (flat_map (λ p. map (λ q. extent p q) (range_with_len p (next - p))) (range_with_len p (next - p)))

range_more : (a b : ℕ) → a < b → range_with_len a (b - a) ≡ a ∷ range_with_len (a + 1) (b - (a + 1))
range_more a b lt = let e : b - a ≡ suc (b - (a + 1)) = omega arith in ap (range_with_len a) e

row_step : (test : Extent → Bool) (p q next : ℕ) → q < next → row test p q next ≡ cond (test (extent p q)) (extent p q ∷ row test p (q + 1) next) (row test p (q + 1) next)
row_step test p q next lt = ap (λ ns. filter test (map (λ q. extent p q) ns)) (range_more q next lt)

-- the pair is put after those so far
pub row_put : (test : Extent → Bool) (p q next : ℕ) (list more whole : List Extent) → q < next → test (extent p q) ≡ true → more ≡ list ++ extent p q ∷ [] → list ++ row test p q next ≡ whole → more ++ row test p (q + 1) next ≡ whole
row_put test p q next list more whole lt t put is =
    ap (λ l. l ++ row test p (q + 1) next) put
    ∙ append_assoc list (extent p q ∷ []) (row test p (q + 1) next)
    ∙ ap (λ l. list ++ l) (sym (row_step test p q next lt ∙ ap (λ b. cond b (extent p q ∷ row test p (q + 1) next) (row test p (q + 1) next)) t)) ∙ is

pub row_pass : (test : Extent → Bool) (p q next : ℕ) (list whole : List Extent) → q < next → test (extent p q) ≡ false → list ++ row test p q next ≡ whole → list ++ row test p (q + 1) next ≡ whole
row_pass test p q next list whole lt t is =
    ap (λ l. list ++ l) (sym (row_step test p q next lt ∙ ap (λ b. cond b (extent p q ∷ row test p (q + 1) next) (row test p (q + 1) next)) t)) ∙ is

rows_step : (test : Extent → Bool) (p next : ℕ) → p < next → rows test p next ≡ row test p p next ++ rows test (p + 1) next
rows_step test p next lt =
    ap (λ ns. filter test (flat_map (λ p. map (λ q. extent p q) (range_with_len p (next - p))) ns)) (range_more p next lt)
    ∙ filter-append test (map (λ q. extent p q) (range_with_len p (next - p))) (flat_map (λ p. map (λ q. extent p q) (range_with_len p (next - p))) (range_with_len (p + 1) (next - (p + 1))))

pub rows_put : (test : Extent → Bool) (p next : ℕ) (list more whole : List Extent) → p < next → more ≡ list ++ row test p p next → list ++ rows test p next ≡ whole → more ++ rows test (p + 1) next ≡ whole
rows_put test p next list more whole lt put is =
    ap (λ l. l ++ rows test (p + 1) next) put
    ∙ append_assoc list (row test p p next) (rows test (p + 1) next)
    ∙ ap (λ l. list ++ l) (sym (rows_step test p next lt)) ∙ is
