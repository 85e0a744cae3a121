-- From member to member of what is left: by ends, and to the last one up to an address.
use Rattle.std.proofs.Common.{◌≡◌, ℕ, ◌+◌, ◌<◌, ◌≤◌, List, Option, Some, None, refl, sym, ◌∙◌, arith, le_refl, inl, inr}
use Rattle.std.proofs.lemmas.Bool.{cases_lt}
use Rattle.gcl_model.specs.Extents.{Extent, IsRising}
use Rattle.gcl_model.specs.Access.{first_start, first_end, last_end}
use Rattle.gcl_model.proofs.Covers.{Has}
use Rattle.gcl_contain.proofs.Accesses.{found_first, none_from, found_last, none_upto, from_by_place, start_is_place}
use Rattle.gcl_eval.specs.Members.{members_from}
use Rattle.gcl_readers.proofs.Members.{has_from, from_has, rises_from, first_end_is, last_end_is, no_first_end, no_last_end}

-- the first member that is left
pub record IsFirstLeft (list : List Extent) (x : ℕ) (a : Extent) : Type 0 where
  pub member : Has list a
  pub left : x ≤ a.start
  pub first : (d : Extent) → Has list d → x ≤ d.start → a.start ≤ d.start

pub first_left : (list : List Extent) → IsRising list → (x : ℕ) (a : Extent) → first_start (members_from list x) 0 ≡ Some a → IsFirstLeft list x a
first_left list r x a is =
    let f = found_first (λ c. c.start) (members_from list x) (rises_from list x r) 0 a is in
    let h = from_has list x a f.member in
    record { member = h.0; left = h.1; first = λ d m le. (f.first d (has_from list x d m le) (omega arith)).0 }

pub first_found : (list : List Extent) → IsRising list → (k : ℕ) (a : Extent) → first_start list k ≡ Some a → IsFirstLeft list k a
first_found list r k a is =
    let f = found_first (λ c. c.start) list r k a is in
    record { member = f.member; left = f.far; first = λ d m le. (f.first d m le).0 }

none_left : (list : List Extent) (x : ℕ) → first_start (members_from list x) 0 ≡ None → (d : Extent) → Has (members_from list x) d → ⊥
none_left list x is d m = let lt : d.start < 0 = none_from (λ c. c.start) (members_from list x) 0 is d m in omega arith

-- two answers by ends are the same if each passes the other's test
same_end : (l m : List Extent) → IsRising l → IsRising m → (k : ℕ) → ((d : Extent) → Has m d → k ≤ d.end → Has l d) → ((d : Extent) → Has l d → Has m d) → first_end l k ≡ first_end m k
same_end l m r s k to fro = cases (first_end m k) refl
  where
    cases : (o : Option Extent) → first_end m k ≡ o → first_end l k ≡ first_end m k
    cases None is = no_first_end l r k (λ d h. none_from (λ c. c.end) m k is d (fro d h)) ∙ sym is
    cases (Some b) is = let f = found_first (λ c. c.end) m s k b is in first_end_is l r k b (to b f.member f.far) f.far (λ d h on. (f.first d (fro d h) on).1) ∙ sym is

pub ends_from_first : (list : List Extent) → IsRising list → (x k : ℕ) (a : Extent) → IsFirstLeft list x a → first_end (members_from list a.start) k ≡ first_end (members_from list x) k
ends_from_first list r x k a first =
    same_end (members_from list a.start) (members_from list x) (rises_from list a.start r) (rises_from list x r) k
    (λ d m on. let h = from_has list x d m in has_from list a.start d h.0 (first.first d h.0 h.1))
    (λ d m. let h = from_has list a.start d m in has_from list x d h.0 (let p = h.1 in let q = first.left in omega arith))

pub ends_none : (list : List Extent) → IsRising list → (x k : ℕ) → first_start (members_from list x) 0 ≡ None → first_end (members_from list x) k ≡ None
ends_none list r x k is = no_first_end (members_from list x) (rises_from list x r) k (λ d m. absurd (none_left list x is d m))

pub ends_here : (list : List Extent) → IsRising list → (k : ℕ) (a : Extent) → Has list a → k ≤ a.end → first_end (members_from list a.start) k ≡ Some a
ends_here list r k a m le =
    first_end_is (members_from list a.start) (rises_from list a.start r) k a (has_from list a.start a m (le_refl a.start)) le
    (λ d n on. let h = from_has list a.start d n in (from_by_place (λ c. c.start) start_is_place list r a d m h.0 h.1).1)

-- a member that ends earlier is passed
pub ends_onward : (list : List Extent) → IsRising list → (k : ℕ) (a b : Extent) → Has list a → a.end < k → IsFirstLeft list (a.start + 1) b → first_end (members_from list b.start) k ≡ first_end (members_from list a.start) k
ends_onward list r k a b m lt next =
    same_end (members_from list b.start) (members_from list a.start) (rises_from list b.start r) (rises_from list a.start r) k
    (λ d n on. let h = from_has list a.start d n in has_from list b.start d h.0 (next.first d h.0 (elim (cases_lt a.start d.start) [
      | inl later ↦ omega arith
      | inr same ↦ absurd (let p = (from_by_place (λ c. c.start) start_is_place list r d a h.0 m same).1 in omega arith)
    ])))
    (λ d n. let h = from_has list b.start d n in has_from list a.start d h.0 (let p = h.1 in let q = next.left in omega arith))

pub ends_over : (list : List Extent) → IsRising list → (k : ℕ) (a : Extent) → Has list a → a.end < k → first_start list (a.start + 1) ≡ None → first_end (members_from list a.start) k ≡ None
ends_over list r k a m lt none =
    no_first_end (members_from list a.start) (rises_from list a.start r) k (λ d n.
    let h = from_has list a.start d n in
    let on : d.start < a.start + 1 = none_from (λ c. c.start) list (a.start + 1) none d h.0 in
    let p = (from_by_place (λ c. c.start) start_is_place list r d a h.0 m (omega arith)).1 in omega arith)

-- backward
same_last : (l m : List Extent) → IsRising l → IsRising m → (k : ℕ) → ((d : Extent) → Has m d → Has l d) → ((d : Extent) → Has l d → Has m d) → last_end l k ≡ last_end m k
same_last l m r s k to fro = cases (last_end m k) refl
  where
    cases : (o : Option Extent) → last_end m k ≡ o → last_end l k ≡ last_end m k
    cases None is = no_last_end l r k (λ d h. none_upto (λ c. c.end) m k is d (fro d h)) ∙ sym is
    cases (Some b) is = let f = found_last (λ c. c.end) m s k b is in last_end_is l r k b (to b f.member) f.near (λ d h on. (f.last d (fro d h) on).1) ∙ sym is

pub backs_from_first : (list : List Extent) → IsRising list → (x k : ℕ) (a : Extent) → IsFirstLeft list x a → last_end (members_from list a.start) k ≡ last_end (members_from list x) k
backs_from_first list r x k a first =
    same_last (members_from list a.start) (members_from list x) (rises_from list a.start r) (rises_from list x r) k
    (λ d m. let h = from_has list x d m in has_from list a.start d h.0 (first.first d h.0 h.1))
    (λ d m. let h = from_has list a.start d m in has_from list x d h.0 (let p = h.1 in let q = first.left in omega arith))

pub backs_none : (list : List Extent) → IsRising list → (x k : ℕ) → first_start (members_from list x) 0 ≡ None → last_end (members_from list x) k ≡ None
backs_none list r x k is = no_last_end (members_from list x) (rises_from list x r) k (λ d m. absurd (none_left list x is d m))

-- the first one ends too late already
pub backs_before : (list : List Extent) → IsRising list → (x k : ℕ) (a : Extent) → IsFirstLeft list x a → k < a.end → last_end (members_from list x) k ≡ None
backs_before list r x k a first lt =
    no_last_end (members_from list x) (rises_from list x r) k (λ d m.
    let h = from_has list x d m in
    let p = (from_by_place (λ c. c.start) start_is_place list r a d first.member h.0 (first.first d h.0 h.1)).1 in omega arith)

-- the next one ends in time, too
pub backs_onward : (list : List Extent) → IsRising list → (k : ℕ) (a b : Extent) → Has list a → IsFirstLeft list (a.start + 1) b → b.end ≤ k → last_end (members_from list b.start) k ≡ last_end (members_from list a.start) k
backs_onward list r k a b m next le = cases (last_end (members_from list b.start) k) refl
  where
    cases : (o : Option Extent) → last_end (members_from list b.start) k ≡ o → last_end (members_from list b.start) k ≡ last_end (members_from list a.start) k
    cases None is = absurd (let lt : k < b.end = none_upto (λ c. c.end) (members_from list b.start) k is b (has_from list b.start b next.member (le_refl b.start)) in omega arith)
    cases (Some c) is =
        let f = found_last (λ d. d.end) (members_from list b.start) (rises_from list b.start r) k c is in
        let h = from_has list b.start c f.member in
        let in_b = (f.last b (has_from list b.start b next.member (le_refl b.start)) le).1 in
        let p = h.1 in
        let q = next.left in
        is ∙ sym (last_end_is (members_from list a.start) (rises_from list a.start r) k c (has_from list a.start c h.0 (omega arith)) f.near (λ d n on.
        let g = from_has list a.start d n in
        elim (cases_lt d.start b.start) [
          | inl lt ↦ let before = (from_by_place (λ e. e.start) start_is_place list r d b g.0 next.member (omega arith)).1 in omega arith
          | inr ge ↦ (f.last d (has_from list b.start d g.0 ge) on).1
        ]))

-- no later one does
pub backs_here : (list : List Extent) → IsRising list → (k : ℕ) (a : Extent) → Has list a → a.end ≤ k → ((d : Extent) → Has list d → a.start + 1 ≤ d.start → k < d.end) → last_end (members_from list a.start) k ≡ Some a
backs_here list r k a m le later =
    last_end_is (members_from list a.start) (rises_from list a.start r) k a (has_from list a.start a m (le_refl a.start)) le
    (λ d n on. let h = from_has list a.start d n in elim (cases_lt a.start d.start) [
      | inl lt ↦ absurd (let far = later d h.0 (omega arith) in omega arith)
      | inr ge ↦ (from_by_place (λ c. c.start) start_is_place list r d a h.0 m ge).1
    ])

pub later_found : (list : List Extent) → IsRising list → (p k : ℕ) (n : Extent) → first_start list p ≡ Some n → k < n.end → (d : Extent) → Has list d → p ≤ d.start → k < d.end
later_found list r p k n is lt d m le = let on = ((found_first (λ c. c.start) list r p n is).first d m le).1 in omega arith

pub later_none : (list : List Extent) (p k : ℕ) → first_start list p ≡ None → (d : Extent) → Has list d → p ≤ d.start → k < d.end
later_none list p k is d m le = absurd (let lt : d.start < p = none_from (λ c. c.start) list p is d m in omega arith)
