-- From member to member of a list.
use Rattle.std.proofs.Common.{◌≡◌, ℕ, ◌+◌, ◌<◌, ◌≤◌, Bool, true, leb, List, [], ◌∷◌, ◌++◌, length, take, Some, None, refl, sym, ap, ◌∙◌, subst, arith, filter, append_assoc, inl, inr}
use Rattle.std.proofs.lemmas.Bool.{leb-true, leb-false, le-leb, lt-leb, cases_Bool}
use Rattle.std.proofs.lemmas.List.{append-nil, length-append, take_all}
use Rattle.std.proofs.Math.Seq.{take-append_seam}
use Rattle.gcl_model.specs.Extents.{Extent, IsAhead, IsRising}
use Rattle.gcl_model.specs.Access.{first_start}
use Rattle.gcl_eval.specs.Members.{members_from}
use Rattle.gcl_model.proofs.Covers.{Has, find_gives, of_each}

all_pass : (test : Extent → Bool) (list : List Extent) → ((a : Extent) → Has list a → test a ≡ true) → filter test list ≡ list
all_pass test [] all = refl
all_pass test (x ∷ xs) all = rw (all x (inl refl)) (ap (λ rest. x ∷ rest) (all_pass test xs (λ a m. all a (inr m))))

pub all_members : (list : List Extent) → members_from list 0 ≡ list
all_members list = all_pass (λ a. leb 0 a.start) list (λ a m. le-leb 0 a.start (omega arith))

-- those after the first start after it
after_first : (x : Extent) (xs : List Extent) → IsRising (x ∷ xs) → (k : ℕ) → k ≤ x.start + 1 → members_from xs k ≡ xs
after_first x xs r k le = all_pass (λ a. leb k a.start) xs (λ a m. let later : x.start < a.start = (of_each (IsAhead x) xs a r.0 m).0 in le-leb k a.start (omega arith))

pub next_member : (list : List Extent) → IsRising list → (k : ℕ) (a : Extent) → first_start list k ≡ Some a → members_from list k ≡ a ∷ members_from list (a.start + 1)
next_member [] r k a is = absurd cc
next_member (x ∷ xs) r k a is =
    elim (cases_Bool (leb k x.start)) [
      | inl t ↦
          let le : k ≤ x.start = leb-true k x.start t in
          let same : x ≡ a = let h = rw t at is in cc in
          subst (λ y. members_from (x ∷ xs) k ≡ y ∷ members_from (x ∷ xs) (y.start + 1)) same
          (rw (t, lt-leb (x.start + 1) x.start (omega arith)) (ap (λ rest. x ∷ rest) (after_first x xs r k (omega arith) ∙ sym (after_first x xs r (x.start + 1) (omega arith)))))
      | inr f ↦
          let lt : x.start < k = leb-false k x.start f in
          let found = rw f at is in
          let from : k ≤ a.start = leb-true k a.start (find_gives (λ y. leb k y.start) xs a found).1 in
          rw (f, lt-leb (a.start + 1) x.start (omega arith)) (next_member xs r.1 k a found)
    ]

pub no_member : (list : List Extent) (k : ℕ) → first_start list k ≡ None → members_from list k ≡ []
no_member [] k is = refl
no_member (x ∷ xs) k is =
    elim (cases_Bool (leb k x.start)) [
      | inl t ↦ let h = rw t at is in absurd cc
      | inr f ↦ rw f (no_member xs k (rw f at is))
    ]

pub from_le : (list : List Extent) (k : ℕ) (a : Extent) → first_start list k ≡ Some a → k ≤ a.start
from_le list k a is = leb-true k a.start (find_gives (λ y. leb k y.start) list a is).1

-- what is put and what is left
module _ (list all members : List Extent) (k : ℕ) (kept : members ++ members_from list k ≡ all) where
  pub put_next : (a : Extent) (n : ℕ) → members_from list k ≡ a ∷ members_from list n → (members ++ a ∷ []) ++ members_from list n ≡ all
  put_next a n next = append_assoc members (a ∷ []) (members_from list n) ∙ ap (λ rest. members ++ rest) (sym next) ∙ kept

  pub full : (most : ℕ) → length members ≡ most → members ≡ take most all
  full most is = sym (ap (λ l. take most l) (sym kept) ∙ ap (λ n. take n (members ++ members_from list k)) (sym is) ∙ take-append_seam members (members_from list k))

  pub none_left : (most : ℕ) → first_start list k ≡ None → length members ≤ most → members ≡ take most all
  none_left most none le =
      let is : members ≡ all = sym (append-nil members) ∙ ap (λ rest. members ++ rest) (sym (no_member list k none)) ∙ kept in
      is ∙ sym (take_all most all (subst (λ l. length l ≤ most) is le))

pub put_counted : (members new : List Extent) (a : Extent) → new ≡ members ++ a ∷ [] → length new ≡ length members + 1
put_counted members new a put = ap length put ∙ length-append members (a ∷ [])
