-- The members at or after an address, of those that are left to readers.
use Rattle.std.proofs.Common.{◌≡◌, ℕ, ◌≤◌, ◌<◌, List, [], ◌∷◌, inl, inr, refl, ap, arith}
use Rattle.std.proofs.lemmas.Bool.{cases_Bool, lt-leb, leb-false}
use Rattle.std.proofs.Common.{leb}
use Rattle.gcl_model.specs.Extents.{Extent}
use Rattle.gcl_eval.specs.Members.{members_from}

-- at or after a later address it is the same whether the earlier ones are left out or not
pub from_later : (k j : ℕ) (list : List Extent) → k ≤ j → members_from (members_from list k) j ≡ members_from list j
from_later k j [] le = refl
from_later k j (x ∷ list) le =
    elim (cases_Bool (leb k x.start)) [
      | inl t ↦ rw t (same x (members_from list k) list (from_later k j list le))
      | inr f ↦
          let lt : x.start < k = leb-false k x.start f in
          rw (f, lt-leb j x.start (omega arith)) (from_later k j list le)
    ]
  where
    same : (x : Extent) (xs ys : List Extent) → members_from xs j ≡ members_from ys j → members_from (x ∷ xs) j ≡ members_from (x ∷ ys) j
    same x xs ys is = elim (cases_Bool (leb j x.start)) [
      | inl t ↦ rw t (ap (λ l. x ∷ l) is)
      | inr f ↦ rw f is
    ]
