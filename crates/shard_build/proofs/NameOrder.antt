-- Names in order.
use Rattle.std.proofs.Common.{◌≡◌, ℕ, suc, ◌+◌, false, List, [], ◌∷◌, get_or, bytes_eq, nat_cmp, refl, sym, ap, ◌∙◌, arith}
use Rattle.std.specs.declared.cmp.Ordering.{Ordering}
use Rattle.std.specs.declared.cmp.Ordering.TheVariants.{Less, Equal, Greater}
use Rattle.std.specs.Ordering.{is_lt, is_eq, ordering_reverse}
use Rattle.std.specs.List.{AllByRecursion, IsDistinct}
use Rattle.std.specs.List.Sorted.{IsSorted, IsStrictlySortedBy}
use Rattle.std.specs.Cmp.Lexicographic.{slice_cmp}
use Rattle.std.proofs.lemmas.Cmp.{nat_list_cmp_total}
use Rattle.std.proofs.lemmas.Map.Text.{is_eq-slice_cmp}

-- of two keys that differ the first is the lesser if the second is not
apart_less : (x y : List ℕ) (o : Ordering) → slice_cmp nat_cmp x y ≡ o → is_lt (slice_cmp nat_cmp y x) ≡ false → bytes_eq x y ≡ false → slice_cmp nat_cmp x y ≡ Less
apart_less x y Less is not_less differs = is
apart_less x y Equal is not_less differs = let same = sym differs ∙ sym (is_eq-slice_cmp x y) ∙ ap is_eq is in absurd cc
apart_less x y Greater is not_less differs = let less = sym not_less ∙ ap is_lt (nat_list_cmp_total.antisymm y x ∙ ap ordering_reverse is) in absurd cc

all_less : (x y : List ℕ) (ys : List (List ℕ)) → slice_cmp nat_cmp x y ≡ Less → AllByRecursion (λ z. slice_cmp nat_cmp y z ≡ Less) ys → AllByRecursion (λ z. slice_cmp nat_cmp x z ≡ Less) ys
all_less x y [] less all = tt
all_less x y (z ∷ zs) less all = (nat_list_cmp_total.trans x y z less all.0, all_less x y zs less all.1)

-- sorted keys of which no two are equal rise strictly
pub strictly_sorted : (ks : List (List ℕ)) → IsSorted (slice_cmp nat_cmp) ks → IsDistinct bytes_eq ks → IsStrictlySortedBy (slice_cmp nat_cmp) ks
unfolding IsStrictlySortedBy IsDistinct
strictly_sorted [] sorted distinct = tt
strictly_sorted (x ∷ []) sorted distinct = (tt, tt)
strictly_sorted (x ∷ y ∷ ys) sorted distinct =
    let rest = strictly_sorted (y ∷ ys) (λ k d low lt. let next : suc (k + 1) ≡ suc k + 1 = omega arith in ap (λ j. is_lt ((slice_cmp nat_cmp) (get_or (x ∷ y ∷ ys) j d) (get_or (y ∷ ys) k d))) next ∙ sorted (suc k) d (omega arith) (omega (arith, lt))) distinct.1 in
    let less = apart_less x y (slice_cmp nat_cmp x y) refl (sorted 0 x (omega arith) (omega arith)) distinct.0.0 in
    ((less, all_less x y ys less rest.0), rest)
