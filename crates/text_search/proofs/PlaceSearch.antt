-- The search among rising addresses.
use Rattle.std.proofs.Common.{◌≡◌, ℕ, zero, suc, ◌+◌, ◌<◌, ◌≤◌, Bool, true, false, not, cond, leb, ltb, List, [], ◌∷◌, length, get_or, find, Option, Some, None, slice_get, inl, inr, refl, sym, ap, ◌∙◌, arith}
use Rattle.std.specs.List.{AllByRecursion, prefix_len}
use Rattle.std.specs.List.Sorted.{IsPartitionedBy}
use Rattle.std.proofs.lemmas.Bool.{cases_Bool, leb-true, leb-false, ltb-true, ltb-false, lt-ltb, le-leb, lt-leb}
use Rattle.std.proofs.lemmas.List.Sums.{prefix_len-le-length}
use Rattle.gcl_model.specs.Access.{find_last, later_or}
use Rattle.text_search.specs.Tables.{AreClimbing}

above : (p : ℕ) (ps : List ℕ) → AllByRecursion (λ q. p < q) ps → (j d : ℕ) → j < length ps → p < get_or ps j d
above p [] all j d below = absurd (omega arith)
above p (q ∷ ps) all zero d below = all.0
above p (q ∷ ps) all (suc j) d below = above p ps all.1 j d (omega arith)

-- addresses climb from place to place
pub climbs : (ps : List ℕ) → AreClimbing ps → (i j d : ℕ) → i ≤ j → j < length ps → get_or ps i d ≤ get_or ps j d
climbs [] climbing i j d le below = absurd (omega arith)
climbs (p ∷ ps) climbing zero zero d le below = omega arith
climbs (p ∷ ps) climbing zero (suc j) d le below = let lt : p < get_or ps j d = above p ps climbing.0 j d (omega arith) in omega arith
climbs (p ∷ ps) climbing (suc i) zero d le below = absurd (omega arith)
climbs (p ∷ ps) climbing (suc i) (suc j) d le below = climbs ps climbing.1 i j d (omega arith) (omega arith)

pub parted_below : (ps : List ℕ) (k : ℕ) → AreClimbing ps → IsPartitionedBy (λ p. ltb p k) ps
parted_below ps k climbing i j d le below e =
    let lt : get_or ps j d < k = ltb-true (get_or ps j d) k e in
    let earlier : get_or ps i d ≤ get_or ps j d = climbs ps climbing i j d le below in
    lt-ltb (get_or ps i d) k (omega arith)

pub parted_upto : (ps : List ℕ) (k : ℕ) → AreClimbing ps → IsPartitionedBy (λ p. leb p k) ps
parted_upto ps k climbing i j d le below e =
    let upto : get_or ps j d ≤ k = leb-true (get_or ps j d) k e in
    let earlier : get_or ps i d ≤ get_or ps j d = climbs ps climbing i j d le below in
    le-leb (get_or ps i d) k (omega arith)

not_below : (p k : ℕ) → leb k p ≡ not (ltb p k)
not_below p k = elim (cases_Bool (ltb p k)) [
  | inl t ↦ lt-leb k p (ltb-true p k t) ∙ sym (ap not t)
  | inr f ↦ le-leb k p (ltb-false p k f) ∙ sym (ap not f)
]

slice_past : (p : ℕ) (ps : List ℕ) (n : ℕ) → slice_get (p ∷ ps) (1 + n) ≡ slice_get ps n
slice_past p ps n = let e : 1 + n ≡ suc n = omega arith in ap (slice_get (p ∷ ps)) e

-- the first address at or after k is after those below k
pub next_at : (ps : List ℕ) (k : ℕ) → find (λ p. leb k p) ps ≡ slice_get ps (prefix_len (λ p. ltb p k) ps)
next_at [] k = refl
next_at (p ∷ ps) k = ap (λ s. cond s (Some p) (find (λ p. leb k p) ps)) (not_below p k) ∙ by_first (ltb p k) (next_at ps k)
  where
    by_first : (s : Bool) → find (λ p. leb k p) ps ≡ slice_get ps (prefix_len (λ p. ltb p k) ps)
        → cond (not s) (Some p) (find (λ p. leb k p) ps) ≡ slice_get (p ∷ ps) (cond s (1 + prefix_len (λ p. ltb p k) ps) 0)
    by_first true rest = rest ∙ sym (slice_past p ps (prefix_len (λ p. ltb p k) ps))
    by_first false rest = refl

none_upto : (p k : ℕ) (ps : List ℕ) → k < p → AllByRecursion (λ q. p < q) ps → find_last (λ p. leb p k) ps ≡ None
none_upto p k [] lt all = refl
none_upto p k (q ∷ ps) lt all =
    let above : p < q = all.0 in
    let late : leb q k ≡ false = lt-leb q k (omega arith) in
    ap (λ o. later_or o (cond (leb q k) (Some q) None)) (none_upto p k ps lt all.1) ∙ ap (λ s. later_or None (cond s (Some q) None)) late

-- the last address at or before k is at the end of those
abbrev pub last_of_front : List ℕ → ℕ → Option ℕ
last_of_front ps zero = None
last_of_front ps (suc n) = slice_get ps n

later_slice : (ps : List ℕ) (n p : ℕ) → n < length ps → later_or (slice_get ps n) (Some p) ≡ slice_get ps n
later_slice [] n p below = absurd (omega arith)
later_slice (q ∷ ps) zero p below = refl
later_slice (q ∷ ps) (suc n) p below = later_slice ps n p (omega arith)

pub last_at : (ps : List ℕ) (k : ℕ) → AreClimbing ps → find_last (λ p. leb p k) ps ≡ last_of_front ps (prefix_len (λ p. leb p k) ps)
last_at [] k climbing = refl
last_at (p ∷ ps) k climbing = by_first (leb p k) refl (last_at ps k climbing.1)
  where
    by_rest : (n : ℕ) → n ≤ length ps → later_or (last_of_front ps n) (Some p) ≡ last_of_front (p ∷ ps) (suc n)
    by_rest zero le = refl
    by_rest (suc n) le = later_slice ps n p (omega arith)

    by_first : (s : Bool) → leb p k ≡ s → find_last (λ p. leb p k) ps ≡ last_of_front ps (prefix_len (λ p. leb p k) ps)
        → later_or (find_last (λ p. leb p k) ps) (cond s (Some p) None) ≡ last_of_front (p ∷ ps) (cond s (1 + prefix_len (λ p. leb p k) ps) 0)
    by_first true e rest =
        let n : ℕ = prefix_len (λ p. leb p k) ps in
        let more : suc n ≡ 1 + n = omega arith in
        ap (λ o. later_or o (Some p)) rest ∙ by_rest n (prefix_len-le-length (λ p. leb p k) ps) ∙ ap (last_of_front (p ∷ ps)) more
    by_first false e rest = ap (λ o. later_or o None) (none_upto p k ps (leb-false p k e) climbing.0)

pub slice_end : (ps : List ℕ) → slice_get ps (length ps) ≡ None
slice_end [] = refl
slice_end (p ∷ ps) = slice_end ps

pub slice_some : (ps : List ℕ) (n d : ℕ) → n < length ps → slice_get ps n ≡ Some (get_or ps n d)
slice_some [] n d below = absurd (omega arith)
slice_some (p ∷ ps) zero d below = refl
slice_some (p ∷ ps) (suc n) d below = slice_some ps n d (omega arith)
