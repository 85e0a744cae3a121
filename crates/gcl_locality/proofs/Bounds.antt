-- The first member that ends at an address or later starts first of all these, and the last one that starts there or before ends last.
use Rattle.std.proofs.Common.{◌≡◌, ℕ, ◌<◌, ◌≤◌, Bool, true, false, cond, leb, List, [], ◌∷◌, Option, Some, None, inl, inr, refl, sym, ap, ◌∙◌, arith}
use Rattle.std.proofs.lemmas.Bool.{true≢false, cases_Bool, le-leb}
use Rattle.gcl_model.specs.Extents.{Extent, IsAhead, IsRising}
use Rattle.gcl_model.specs.Access.{later_or, first_end, last_start}
use Rattle.gcl_model.proofs.Covers.{Has, of_each, find_last_gives}
use Rattle.gcl_locality.specs.Changed.{earlier_start, later_end, back_to, on_to}

pub back_to_most : (p : ℕ) (list : List Extent) (k : ℕ) → back_to p list k ≤ p
back_to_most p list k = here (first_end list k)
  where
    here : (o : Option Extent) → earlier_start p o ≤ p
    here None = omega arith
    here (Some a) = omega arith

pub on_to_least : (p : ℕ) (list : List Extent) (k : ℕ) → p ≤ on_to p list k
on_to_least p list k = here (last_start list k)
  where
    here : (o : Option Extent) → p ≤ later_end p o
    here None = omega arith
    here (Some a) = omega arith

pub back_to_start : (p : ℕ) (list : List Extent) → IsRising list → (k : ℕ) (b : Extent) → Has list b → k ≤ b.end → back_to p list k ≤ b.start
back_to_start p [] r k b m le = absurd m
back_to_start p (x ∷ xs) r k b m le =
    elim (cases_Bool (leb k x.end)) [
      | inl t ↦ rw t (elim m [
        | inl is ↦ let s = ap (λ (y : Extent). y.start) is in omega arith
        | inr n ↦ let s : x.start < b.start = (of_each (IsAhead x) xs b r.0 n).0 in omega arith
      ])
      | inr f ↦ rw f (elim m [
        | inl is ↦ absurd (true≢false (sym (le-leb k x.end (let e = ap (λ (y : Extent). y.end) is in omega arith)) ∙ f))
        | inr n ↦ back_to_start p xs r.1 k b n le
      ])
    ]

later : (p : ℕ) (x b : Extent) (o : Option Extent) (t : Bool) → b.end ≤ later_end p o → b.end ≤ later_end p (later_or o (cond t (Some x) None))
later p x b None true le = omega arith
later p x b None false le = le
later p x b (Some y) t le = le

pub on_to_end : (p : ℕ) (list : List Extent) → IsRising list → (k : ℕ) (b : Extent) → Has list b → b.start ≤ k → b.end ≤ on_to p list k
on_to_end p [] r k b m le = absurd m
on_to_end p (x ∷ xs) r k b (inr n) le = later p x b (last_start xs k) (leb x.start k) (on_to_end p xs r.1 k b n le)
on_to_end p (x ∷ xs) r k b (inl is) le =
    let starts = ap (λ (y : Extent). y.start) is in
    let ends = ap (λ (y : Extent). y.end) is in
    rw (le-leb x.start k (omega arith)) (here (last_start xs k) refl)
  where
    here : (o : Option Extent) → last_start xs k ≡ o → b.end ≤ later_end p (later_or o (Some x))
    here None none = let ends = ap (λ (y : Extent). y.end) is in omega arith
    here (Some y) some =
        let m = find_last_gives (λ a. leb a.start k) xs y some in
        let ahead : x.end < y.end = (of_each (IsAhead x) xs y r.0 m.0).1 in
        let ends = ap (λ (y : Extent). y.end) is in
        omega arith
