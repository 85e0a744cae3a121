-- The access of the other form: the nearest member that it passes, and on from there.
use Rattle.std.proofs.Common.{◌≡◌, ℕ, zero, suc, ◌+◌, ◌<◌, ◌≤◌, true, leb, List, [], ◌∷◌, Option, Some, None, refl, sym, ap, ◌∙◌, arith, le_refl, inl, inr}
use Rattle.std.specs.List.{AllByRecursion}
use Rattle.std.specs.Option.{option_and_then}
use Rattle.std.proofs.lemmas.Bool.{true≢false, leb-true, le-leb, lt-ltb, le-ltb, cases_lt}
use Rattle.gcl_model.specs.Extents.{Extent, extent, covers, IsRising}
use Rattle.gcl_model.specs.Texts.{Text}
use Rattle.gcl_model.specs.Forms.{Form}
use Rattle.gcl_model.specs.Meaning.{concordance}
use Rattle.gcl_model.specs.Access.{first_start, first_end, last_end, last_start}
use Rattle.gcl_model.proofs.Covers.{Has, find_gives, covered_from, covers_by_first_start, ends_by, same_member, find_last_agree_on, all_from_has}
use Rattle.gcl_model.proofs.Minimal.{same_truth}
use Rattle.gcl_model.proofs.Meanings.{concordance_rises}
use Rattle.gcl_model.proofs.Other.{first_end_after, first_end_first}
use Rattle.gcl_order.specs.Walks.{address_before}
use Rattle.gcl_order.proofs.SeqFarAccess.{last_start_all}
use Rattle.gcl_model.specs.Directions.{near_access, far_access}
use Rattle.gcl_eval.specs.Directions.{passed, resume}
use Rattle.gcl_model.specs.declared.direction.Direction.{Direction}
use Rattle.gcl_model.specs.declared.direction.Direction.TheVariants.{Forward, Backward}
use Rattle.gcl_eval.proofs.Found.{member_of_text}

-- forward
first_end_from_0 : (list : List Extent) (first : ℕ) → AllByRecursion (λ a. first ≤ a.start) list → first_end list 0 ≡ first_start list first
first_end_from_0 [] first from = refl
first_end_from_0 (x ∷ xs) first from = let f : first ≤ x.start = from.0 in rw (le-leb 0 x.end (omega arith), le-leb first x.start f) refl

forward_cases : (list : List Extent) → IsRising list → (first next k : ℕ) → AllByRecursion (λ a. first ≤ a.start) list → (o : Option Extent) → last_end list k ≡ o →
    first_end list (k + 1) ≡ option_and_then (first_start list) (resume Forward first next o)
forward_cases list r first next k from None is = first_end_first list first k from is
forward_cases list r first next k from (Some a) is = first_end_after list r k a is

other_forward : (list : List Extent) → IsRising list → (first next : ℕ) → AllByRecursion (λ a. first ≤ a.start) list → (k : ℕ) →
    first_end list k ≡ option_and_then (first_start list) (resume Forward first next (passed Forward list next k))
other_forward list r first next from zero = first_end_from_0 list first from
other_forward list r first next from (suc k) = let e : suc k ≡ k + 1 = omega arith in ap (first_end list) e ∙ forward_cases list r first next k from (last_end list k) refl

-- backward: if a is the first member that starts at or after k + 1, those that start by k are those that end before it ends
starts_by_k : (list : List Extent) → IsRising list → (k v : ℕ) (a : Extent) → first_start list (k + 1) ≡ Some a → a.end ≡ v + 1 → (c : Extent) → Has list c → leb c.start k ≡ leb c.end v
starts_by_k list r k v a is end c m =
    let found = find_gives (λ x. leb (k + 1) x.start) list a is in
    let later : k + 1 ≤ a.start = leb-true (k + 1) a.start found.1 in
    same_truth (leb c.start k) (leb c.end v)
    (λ e.
    let le : c.start ≤ k = leb-true c.start k e in
    elim (cases_lt c.end a.end) [
      | inl lt ↦ le-leb c.end v (omega arith)
      | inr ge ↦ let same : c ≡ a = same_member list r c a m found.0 (omega arith) ge in let starts : c.start ≡ a.start = ap (λ (y : Extent). y.start) same in absurd (omega arith)
    ])
    (λ e.
    let le : c.end ≤ v = leb-true c.end v e in
    elim (cases_lt k c.start) [
      | inl lt ↦
          let from : k + 1 ≤ c.start = omega arith in
          let here : covers list (extent (k + 1) c.end) ≡ true = covered_from list c (extent (k + 1) c.end) m (from, le_refl c.end) in
          let ends : a.end ≤ c.end = leb-true a.end c.end (sym (covers_by_first_start list r (k + 1) c.end ∙ ap (λ o. ends_by o c.end) is) ∙ here) in
          absurd (omega arith)
      | inr ge ↦ le-leb c.start k ge
    ])

-- if none starts after k, all start by it
all_start_by : (list : List Extent) → IsRising list → (k : ℕ) → first_start list (k + 1) ≡ None → (c : Extent) → Has list c → c.start ≤ k
all_start_by list r k is c m =
    elim (cases_lt k c.start) [
      | inl lt ↦ let from : k + 1 ≤ c.start = omega arith in absurd (true≢false (sym (covered_from list c (extent (k + 1) c.end) m (from, le_refl c.end)) ∙ covers_by_first_start list r (k + 1) c.end ∙ ap (λ o. ends_by o c.end) is))
      | inr ge ↦ ge
    ]

last_start_before : (list : List Extent) → IsRising list → (k : ℕ) (a : Extent) → first_start list (k + 1) ≡ Some a → a.start ≤ a.end → (n : ℕ) → a.end ≡ n → last_start list k ≡ option_and_then (last_end list) (address_before n)
last_start_before list r k a is proper zero end =
    let later : k + 1 ≤ a.start = leb-true (k + 1) a.start (find_gives (λ x. leb (k + 1) x.start) list a is).1 in absurd (omega arith)
last_start_before list r k a is proper (suc v) end = let e : a.end ≡ v + 1 = omega arith in find_last_agree_on (λ c. leb c.start k) (λ c. leb c.end v) list (starts_by_k list r k v a is e)

module _ (text : Text) (form : Form) where
  backward_found : (k : ℕ) (o : Option Extent) → first_start (concordance text form) (k + 1) ≡ o → last_start (concordance text form) k ≡ option_and_then (last_end (concordance text form)) (resume Backward text.first text.next o)
  backward_found k None is =
      let list = concordance text form in
      last_start_all list text.next k (λ c m. (all_start_by list (concordance_rises text form) k is c m, (member_of_text text form c m).below))
  backward_found k (Some a) is =
      let list = concordance text form in
      last_start_before list (concordance_rises text form) k a is (member_of_text text form a (find_gives (λ x. leb (k + 1) x.start) list a is).0).proper a.end refl

  other_backward : (k : ℕ) → last_start (concordance text form) k ≡ option_and_then (last_end (concordance text form)) (resume Backward text.first text.next (passed Backward (concordance text form) text.next k))
  other_backward k =
      elim (cases_lt k text.next) [
        | inl lt ↦ rw (lt-ltb k text.next lt) (backward_found k (first_start (concordance text form) (k + 1)) refl)
        | inr ge ↦ rw (le-ltb k text.next ge) (last_start_all (concordance text form) text.next k (λ c m.
            let of = member_of_text text form c m in
            let below : c.end < text.next = of.below in
            let proper : c.start ≤ c.end = of.proper in
            (omega arith, below)))
      ]

  pub far_access-by_near : (direction : Direction) (k : ℕ) →
      far_access direction (concordance text form) k ≡ option_and_then (near_access direction (concordance text form)) (resume direction text.first text.next (passed direction (concordance text form) text.next k))
  far_access-by_near Forward k =
      other_forward (concordance text form) (concordance_rises text form) text.first text.next
      (all_from_has (λ a. text.first ≤ a.start) (concordance text form) (λ a m. (member_of_text text form a m).above)) k
  far_access-by_near Backward k = other_backward k
