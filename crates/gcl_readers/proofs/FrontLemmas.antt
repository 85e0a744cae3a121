-- What a front says about its list.
use Rattle.std.proofs.Common.{◌≡◌, ℕ, ◌+◌, ◌<◌, ◌≤◌, List, Option, Some, None, IfSome, refl, sym, ◌∙◌, subst, arith, le_refl, ◌⊎◌, inl, inr}
use Rattle.std.proofs.lemmas.Bool.{cases_lt}
use Rattle.gcl_model.specs.Extents.{Extent, IsRising}
use Rattle.gcl_model.specs.Limits.{address_end}
use Rattle.gcl_model.specs.Access.{first_start}
use Rattle.gcl_readers.specs.declared.front.Front.{Front}
use Rattle.gcl_readers.specs.declared.front.Front.TheVariants.{On, Between, End}
use Rattle.gcl_readers.specs.Fronts.{IsFrontOf, IsTold, left_of}
use Rattle.gcl_readers.proofs.Members.{agrees_at, agrees_below, first_up_to, none_after}

module _ (list : List Extent) (r : IsRising list) (bounded : first_start list address_end ≡ None) (k : ℕ) where
  pub told_on : (a : Extent) → first_start list a.start ≡ Some a → k ≤ a.start → IsTold list (On a) k (On a)
  told_on a is le = record { kept = is; answer = sym (agrees_below list a.start k le ∙ is); moved = refl }

  pub told_between : (a : Extent) (next : Option Extent) → IsFrontOf list (Between a next) → k ≤ a.start → IsTold list (Between a next) k (Between a next)
  told_between a next is le = record { kept = is; answer = sym (agrees_below list a.start k le ∙ is.0); moved = refl }

  pub told_next : (a next : Extent) → IsFrontOf list (Between a (Some next)) → a.start < k → k ≤ next.start → IsTold list (Between a (Some next)) k (On next)
  told_next a next is lt le = record {
    kept = first_up_to list r (a.start + 1) next.start next is.1 (omega arith) (le_refl next.start);
    answer = sym (agrees_at list a.start k (omega arith) ∙ first_up_to list r (a.start + 1) k next is.1 (omega arith) le);
    moved = refl;
  }

  pub told_last : (a : Extent) → IsFrontOf list (Between a None) → a.start < k → IsTold list (Between a None) k End
  told_last a is lt = record { kept = tt; answer = sym (agrees_at list a.start k (omega arith) ∙ none_after list r (a.start + 1) k is.1 (omega arith)); moved = refl }

  nothing_left : (k ≤ address_end) ⊎ (address_end < k) → first_start (left_of list End) k ≡ None
  nothing_left (inl le) = agrees_below list address_end k le ∙ bounded
  nothing_left (inr gt) = agrees_at list address_end k (omega arith) ∙ none_after list r address_end k bounded (omega arith)

  pub told_end : IsTold list End k End
  told_end = record { kept = tt; answer = sym (nothing_left (elim (cases_lt address_end k) [ inl lt ↦ inr lt | inr ge ↦ inl ge ])); moved = refl }

-- the same of what a comparison with the next member gave
pub told_some : (a : Extent) (next : Option Extent) (n : Extent) (k : ℕ) → next ≡ Some n → a.start < k → (o : Option Front) → IfSome o (λ new. (new ≡ On n) × (k ≤ n.start)) →
    IfSome o (λ new. (list : List Extent) → IsRising list → first_start list address_end ≡ None → (first_start list a.start ≡ Some a) × (first_start list (a.start + 1) ≡ next) → IsTold list (Between a next) k new)
told_some a next n k is lt None h = tt
told_some a next n k is lt (Some new) h = λ list r bounded f.
    subst (λ m. IsTold list (Between a m) k new) (sym is)
    (subst (λ w. IsTold list (Between a (Some n)) k w) (sym h.0) (told_next list r bounded k a n (f.0, f.1 ∙ is) lt h.1))

pub told_at : (front : Front) (a : Extent) (k : ℕ) → front ≡ On a → (o : Option Front) → IfSome o (λ new. (new ≡ On a) × (k ≤ a.start)) →
    IfSome o (λ new. (list : List Extent) → IsRising list → first_start list address_end ≡ None → IsFrontOf list front → IsTold list front k new)
told_at front a k is None h = tt
told_at front a k is (Some new) h = λ list r bounded f.
    subst (λ w. IsTold list w k new) (sym is)
    (subst (λ w. IsTold list (On a) k w) (sym h.0) (told_on list r bounded k a (subst (IsFrontOf list) is f) h.1))
