-- The first and the last member of a rising list that pass a test.
use Rattle.std.proofs.Common.{◌≡◌, ◌<◌, ◌≤◌, Bool, true, false, List, [], ◌∷◌, Some, None, inl, inr, refl, sym, ap, ◌∙◌, subst, arith, find}
use Rattle.std.specs.List.{AllByRecursion}
use Rattle.std.proofs.lemmas.Bool.{true≢false, cases_Bool}
use Rattle.gcl_model.specs.Extents.{Extent, IsAhead, IsRising}
use Rattle.gcl_model.specs.Access.{find_last}
use Rattle.gcl_model.proofs.Covers.{Has, of_each}

-- if no member passes, none is found
pub none_first : (test : Extent → Bool) (list : List Extent) → ((a : Extent) → Has list a → test a ≡ true → ⊥) → find test list ≡ None
none_first test [] h = refl
none_first test (x ∷ xs) h =
    elim (cases_Bool (test x)) [
      | inl t ↦ absurd (h x (inl refl) t)
      | inr f ↦ rw f (none_first test xs (λ a m t. h a (inr m) t))
    ]

pub none_last : (test : Extent → Bool) (list : List Extent) → ((a : Extent) → Has list a → test a ≡ true → ⊥) → find_last test list ≡ None
none_last test [] h = refl
none_last test (x ∷ xs) h =
    elim (cases_Bool (test x)) [
      | inl t ↦ absurd (h x (inl refl) t)
      | inr f ↦ rw (f, none_last test xs (λ a m t. h a (inr m) t)) refl
    ]

first_is : (x : Extent) (xs : List Extent) → AllByRecursion (IsAhead x) xs → (a : Extent) → Has (x ∷ xs) a → a.start ≤ x.start → x ≡ a
first_is x xs all a (inl e) le = e
first_is x xs all a (inr m) le = let lt : x.start < a.start = (of_each (IsAhead x) xs a all m).0 in absurd (omega arith)

not_here : (test : Extent → Bool) (x : Extent) (xs : List Extent) (a : Extent) → Has (x ∷ xs) a → test a ≡ true → test x ≡ false → Has xs a
not_here test x xs a (inl e) t f = absurd (true≢false (sym t ∙ ap test (sym e) ∙ f))
not_here test x xs a (inr m) t f = m

-- the member of least start among those that pass is the first
pub one_first : (test : Extent → Bool) (list : List Extent) → IsRising list → (a : Extent) → Has list a → test a ≡ true →
    ((d : Extent) → Has list d → test d ≡ true → a.start ≤ d.start) → find test list ≡ Some a
one_first test [] r a m t least = absurd m
one_first test (x ∷ xs) r a m t least =
    elim (cases_Bool (test x)) [
      | inl p ↦ rw p (ap Some (first_is x xs r.0 a m (least x (inl refl) p)))
      | inr f ↦ rw f (one_first test xs r.1 a (not_here test x xs a m t f) t (λ d n. least d (inr n)))
    ]

none_behind : (test : Extent → Bool) (x : Extent) (xs : List Extent) → AllByRecursion (IsAhead x) xs → (a : Extent) → x ≡ a →
    ((d : Extent) → Has (x ∷ xs) d → test d ≡ true → d.start ≤ a.start) → (d : Extent) → Has xs d → test d ≡ true → ⊥
none_behind test x xs all a e greatest d n p =
    let lt : x.start < d.start = (of_each (IsAhead x) xs d all n).0 in
    let le : d.start ≤ a.start = greatest d (inr n) p in
    let same : x.start ≡ a.start = ap (λ (y : Extent). y.start) e in
    absurd (omega arith)

-- the member of greatest start among those that pass is the last
pub one_last : (test : Extent → Bool) (list : List Extent) → IsRising list → (a : Extent) → Has list a → test a ≡ true →
    ((d : Extent) → Has list d → test d ≡ true → d.start ≤ a.start) → find_last test list ≡ Some a
one_last test [] r a m t greatest = absurd m
one_last test (x ∷ xs) r a (inl e) t greatest =
    rw (none_last test xs (none_behind test x xs r.0 a e greatest), subst (λ y. test y ≡ true) (sym e) t) (ap Some e)
one_last test (x ∷ xs) r a (inr m) t greatest = rw (one_last test xs r.1 a m t (λ d n. greatest d (inr n))) refl
