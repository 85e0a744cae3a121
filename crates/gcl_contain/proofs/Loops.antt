-- The loop of a containment over any rising lists: what it has passed and what it answers.
-- Equations have the call's answer on the left, as a caller's facts have.
use Rattle.std.proofs.Common.{◌≡◌, ℕ, ◌<◌, ◌≤◌, Bool, true, false, cond, leb, List, [], ◌∷◌, Option, Some, None, inl, inr, refl, sym, ap, ◌∙◌, subst, arith, find, filter}
use Rattle.std.proofs.lemmas.Bool.{leb-true, le-leb, lt-leb, cases_Bool, cases_lt}
use Rattle.gcl_model.specs.Extents.{Extent, IsAhead, IsRising}
use Rattle.gcl_model.specs.Access.{later_or, find_last}
use Rattle.gcl_model.proofs.Covers.{Has, of_each, find_agree_on, find_last_agree_on}
use Rattle.gcl_model.proofs.Minimal.{has_filter, same_truth}
use Rattle.gcl_contain.specs.Moves.{Move, accept, go_to, finish}
use Rattle.gcl_contain.specs.Kinds.{Kind}
use Rattle.gcl_contain.specs.Laws.{IsFromOn, IsRightForward, IsRightBackward, ForwardIsRight, BackwardIsRight}
use Rattle.gcl_contain.proofs.Accesses.{IsPlace, IsFirst, found_first, none_from, IsLast, found_last, none_upto, ahead_by_place, from_by_place}

-- the move that was made is right
pub right_forward : (kind : Kind) → ForwardIsRight kind → (members others : List Extent) → IsRising others → (a : Extent) (o : Option Extent) (move : Move) →
    o ≡ kind.ask others a → move ≡ kind.move a o → IsRightForward kind.place (kind.keeps others) members a move
right_forward kind law members others r a o move asked is = subst (IsRightForward kind.place (kind.keeps others) members a) (ap (kind.move a) (sym asked) ∙ sym is) (law members others a r)

pub right_backward : (kind : Kind) → BackwardIsRight kind → (members others : List Extent) → IsRising others → (a : Extent) (o : Option Extent) (move : Move) →
    o ≡ kind.ask others a → move ≡ kind.move a o → IsRightBackward kind.place (kind.keeps others) members a move
right_backward kind law members others r a o move asked is = subst (IsRightBackward kind.place (kind.keeps others) members a) (ap (kind.move a) (sym asked) ∙ sym is) (law members others a r)

-- the members at or after k that lie before `from` are not kept
pub record IsPassed (place : Extent → ℕ) (keeps : Extent → Bool) (members : List Extent) (k from : ℕ) : Type 0 where
  pub later : k ≤ from
  pub passed : (c : Extent) → Has members c → k ≤ place c → place c < from → keeps c ≡ false

-- the members up to k that lie after `upto` are not kept
pub record IsPassedBack (place : Extent → ℕ) (keeps : Extent → Bool) (members : List Extent) (k upto : ℕ) : Type 0 where
  pub earlier : upto ≤ k
  pub passed : (c : Extent) → Has members c → place c ≤ k → upto < place c → keeps c ≡ false

pub passed_none : (place : Extent → ℕ) (keeps : Extent → Bool) (members : List Extent) (k : ℕ) → IsPassed place keeps members k k
passed_none place keeps members k = record { later = omega arith; passed = λ c m le lt. absurd (omega arith) }

pub passed_none_back : (place : Extent → ℕ) (keeps : Extent → Bool) (members : List Extent) (k : ℕ) → IsPassedBack place keeps members k k
passed_none_back place keeps members k = record { earlier = omega arith; passed = λ c m le lt. absurd (omega arith) }

-- the first member of a filter at or after k
first_kept : (place : Extent → ℕ) → IsPlace place → (keeps : Extent → Bool) (list : List Extent) → IsRising list → (k : ℕ) (a : Extent) → Has list a → k ≤ place a → keeps a ≡ true →
    ((c : Extent) → Has list c → k ≤ place c → place c < place a → keeps c ≡ false) → Some a ≡ find (λ c. leb k (place c)) (filter keeps list)
first_kept place rises keeps [] r k a m le t before = absurd m
first_kept place rises keeps (x ∷ xs) r k a (inl same) le t before =
    let e : place x ≡ place a = ap place same in
    let pass : keeps x ≡ true = subst (λ y. keeps y ≡ true) (sym same) t in
    let far : leb k (place x) ≡ true = le-leb k (place x) (omega arith) in
    rw pass (rw far (ap Some (sym same)))
first_kept place rises keeps (x ∷ xs) r k a (inr m) le t before =
    let ahead = rises x a (of_each (IsAhead x) xs a r.0 m) in
    let rest = first_kept place rises keeps xs r.1 k a m le t (λ c n. before c (inr n)) in
    elim (cases_lt (place x) k) [
      | inl lt ↦ let near : leb k (place x) ≡ false = lt-leb k (place x) lt in elim (cases_Bool (keeps x)) [ inl pass ↦ rw pass (rw near rest) | inr fail ↦ rw fail rest ]
      | inr ge ↦ let fail : keeps x ≡ false = before x (inl refl) ge ahead in rw fail rest
    ]

first_of_none : (place : Extent → ℕ) (keeps : Extent → Bool) (list : List Extent) (k : ℕ) → ((c : Extent) → Has list c → k ≤ place c → keeps c ≡ false) → None ≡ find (λ c. leb k (place c)) (filter keeps list)
first_of_none place keeps [] k never = refl
first_of_none place keeps (x ∷ xs) k never =
    let rest = first_of_none place keeps xs k (λ c n. never c (inr n)) in
    elim (cases_lt (place x) k) [
      | inl lt ↦ let near : leb k (place x) ≡ false = lt-leb k (place x) lt in elim (cases_Bool (keeps x)) [ inl pass ↦ rw pass (rw near rest) | inr fail ↦ rw fail rest ]
      | inr ge ↦ let fail : keeps x ≡ false = never x (inl refl) ge in rw fail rest
    ]

-- the last member of a filter up to k
last_of_none : (place : Extent → ℕ) (keeps : Extent → Bool) (list : List Extent) (k : ℕ) → ((c : Extent) → Has list c → place c ≤ k → keeps c ≡ false) → None ≡ find_last (λ c. leb (place c) k) (filter keeps list)
last_of_none place keeps [] k never = refl
last_of_none place keeps (x ∷ xs) k never =
    let rest = last_of_none place keeps xs k (λ c n. never c (inr n)) in
    elim (cases_lt k (place x)) [
      | inl lt ↦ let far : leb (place x) k ≡ false = lt-leb (place x) k lt in elim (cases_Bool (keeps x)) [ inl pass ↦ rw pass (rw (← rest, far) refl) | inr fail ↦ rw fail rest ]
      | inr ge ↦ let fail : keeps x ≡ false = never x (inl refl) ge in rw fail rest
    ]

last_kept : (place : Extent → ℕ) → IsPlace place → (keeps : Extent → Bool) (list : List Extent) → IsRising list → (k : ℕ) (a : Extent) → Has list a → place a ≤ k → keeps a ≡ true →
    ((c : Extent) → Has list c → place c ≤ k → place a < place c → keeps c ≡ false) → Some a ≡ find_last (λ c. leb (place c) k) (filter keeps list)
last_kept place rises keeps [] r k a m le t behind = absurd m
last_kept place rises keeps (x ∷ xs) r k a (inl same) le t behind =
    let e : place x ≡ place a = ap place same in
    let pass : keeps x ≡ true = subst (λ y. keeps y ≡ true) (sym same) t in
    let near : leb (place x) k ≡ true = le-leb (place x) k (omega arith) in
    let rest = last_of_none place keeps xs k (λ c n low. let ahead = rises x c (of_each (IsAhead x) xs c r.0 n) in behind c (inr n) low (omega arith)) in
    rw pass (rw (← rest, near) (ap Some (sym same)))
last_kept place rises keeps (x ∷ xs) r k a (inr m) le t behind =
    let rest = last_kept place rises keeps xs r.1 k a m le t (λ c n. behind c (inr n)) in
    elim (cases_Bool (keeps x)) [ inl pass ↦ rw pass (ap (λ o. later_or o (cond (leb (place x) k) (Some x) None)) rest) | inr fail ↦ rw fail rest ]

module _ (place : Extent → ℕ) (rises : IsPlace place) (keeps : Extent → Bool) (members : List Extent) (r : IsRising members) (k from : ℕ) (p : IsPassed place keeps members k from) where
  pub forward_none : None ≡ find (λ c. leb from (place c)) members → None ≡ find (λ c. leb k (place c)) (filter keeps members)
  forward_none none = first_of_none place keeps members k (λ c m le.
      elim (cases_lt (place c) from) [ inl lt ↦ p.passed c m le lt | inr ge ↦ let lt = none_from place members from (sym none) c m in absurd (omega arith) ])

  module _ (a : Extent) (found : Some a ≡ find (λ c. leb from (place c)) members) where
    first : IsFirst place members from a
    first = found_first place members r from a (sym found)

    pub forward_accept : IsRightForward place keeps members a accept → Some a ≡ find (λ c. leb k (place c)) (filter keeps members)
    forward_accept right =
        let far : from ≤ place a = first.far in
        let later : k ≤ from = p.later in
        first_kept place rises keeps members r k a first.member (omega arith) right (λ c m le lt.
        elim (cases_lt (place c) from) [
          | inl near ↦ p.passed c m le near
          | inr ge ↦ let on = (first.first c m ge).0 in let ahead = (ahead_by_place place rises members r c a m first.member lt).0 in absurd (omega arith)
        ])

    pub forward_finish : IsRightForward place keeps members a finish → None ≡ find (λ c. leb k (place c)) (filter keeps members)
    forward_finish right = first_of_none place keeps members k (λ c m le.
        elim (cases_lt (place c) from) [ inl lt ↦ p.passed c m le lt | inr ge ↦ of_each (λ c. IsFromOn a c → keeps c ≡ false) members c right.1 m (first.first c m ge) ])

    pub forward_goes_on : (next : ℕ) → IsRightForward place keeps members a (go_to next) → IsPassed place keeps members k next
    forward_goes_on next right =
        let far : from ≤ place a = first.far in
        let later : k ≤ from = p.later in
        let on : place a < next = right.1 in
        record {
          later = omega arith;
          passed = λ c m le lt.
              elim (cases_lt (place c) from) [ inl near ↦ p.passed c m le near | inr ge ↦ of_each (λ c. IsFromOn a c → place c < next → keeps c ≡ false) members c right.2 m (first.first c m ge) lt ];
        }

module _ (place : Extent → ℕ) (rises : IsPlace place) (keeps : Extent → Bool) (members : List Extent) (r : IsRising members) (k upto : ℕ) (p : IsPassedBack place keeps members k upto) where
  pub backward_none : None ≡ find_last (λ c. leb (place c) upto) members → None ≡ find_last (λ c. leb (place c) k) (filter keeps members)
  backward_none none = last_of_none place keeps members k (λ c m le.
      elim (cases_lt upto (place c)) [ inl lt ↦ p.passed c m le lt | inr ge ↦ let lt = none_upto place members upto (sym none) c m in absurd (omega arith) ])

  module _ (a : Extent) (found : Some a ≡ find_last (λ c. leb (place c) upto) members) where
    last : IsLast place members upto a
    last = found_last place members r upto a (sym found)

    pub backward_accept : IsRightBackward place keeps members a accept → Some a ≡ find_last (λ c. leb (place c) k) (filter keeps members)
    backward_accept right =
        let near : place a ≤ upto = last.near in
        let earlier : upto ≤ k = p.earlier in
        last_kept place rises keeps members r k a last.member (omega arith) right (λ c m le lt.
        elim (cases_lt upto (place c)) [
          | inl far ↦ p.passed c m le far
          | inr ge ↦ let on = (last.last c m ge).0 in let ahead = (ahead_by_place place rises members r a c last.member m lt).0 in absurd (omega arith)
        ])

    pub backward_finish : IsRightBackward place keeps members a finish → None ≡ find_last (λ c. leb (place c) k) (filter keeps members)
    backward_finish right = last_of_none place keeps members k (λ c m le.
        elim (cases_lt upto (place c)) [ inl lt ↦ p.passed c m le lt | inr ge ↦ of_each (λ c. IsFromOn c a → keeps c ≡ false) members c right.1 m (last.last c m ge) ])

    pub backward_goes_on : (next : ℕ) → IsRightBackward place keeps members a (go_to next) → IsPassedBack place keeps members k next
    backward_goes_on next right =
        let near : place a ≤ upto = last.near in
        let earlier : upto ≤ k = p.earlier in
        let on : next < place a = right.1 in
        record {
          earlier = omega arith;
          passed = λ c m le lt.
              elim (cases_lt upto (place c)) [ inl far ↦ p.passed c m le far | inr ge ↦ of_each (λ c. IsFromOn c a → next < place c → keeps c ≡ false) members c right.2 m (last.last c m ge) lt ];
        }

-- of a member and what is no earlier than it, each place is no less
no_less : (place : Extent → ℕ) → IsPlace place → (list : List Extent) → IsRising list → (a c : Extent) → Has list a → Has list c → IsFromOn a c → place a ≤ place c
no_less place rises list r a c m n on =
    elim (cases_lt (place c) (place a)) [ inl lt ↦ let ahead = (ahead_by_place place rises list r c a n m lt).0 in let x = on.0 in absurd (omega arith) | inr ge ↦ ge ]

-- the form of access that is not the loop's own: if it gives a, it is the loop's form at the place of a, in the operand's
-- list and in the node's
module _ (place other : Extent → ℕ) (rises : IsPlace place) (other_rises : IsPlace other) (members : List Extent) (r : IsRising members) (k : ℕ) where
  module _ (list : List Extent) (within : (c : Extent) → Has list c → Has members c) where
    forward_within : (a : Extent) → Some a ≡ find (λ c. leb k (other c)) members → find (λ c. leb k (other c)) list ≡ find (λ c. leb (place a) (place c)) list
    forward_within a found =
        let first = found_first other members r k a (sym found) in
        let far : k ≤ other a = first.far in
        find_agree_on (λ c. leb k (other c)) (λ c. leb (place a) (place c)) list (λ c m.
        let n = within c m in
        same_truth (leb k (other c)) (leb (place a) (place c))
        (λ e. le-leb (place a) (place c) (no_less place rises members r a c first.member n (first.first c n (leb-true k (other c) e))))
        (λ e. let up : other a ≤ other c = no_less other other_rises members r a c first.member n (from_by_place place rises members r a c first.member n (leb-true (place a) (place c) e)) in
        le-leb k (other c) (omega arith)))

    backward_within : (a : Extent) → Some a ≡ find_last (λ c. leb (other c) k) members → find_last (λ c. leb (other c) k) list ≡ find_last (λ c. leb (place c) (place a)) list
    backward_within a found =
        let last = found_last other members r k a (sym found) in
        let near : other a ≤ k = last.near in
        find_last_agree_on (λ c. leb (other c) k) (λ c. leb (place c) (place a)) list (λ c m.
        let n = within c m in
        same_truth (leb (other c) k) (leb (place c) (place a))
        (λ e. le-leb (place c) (place a) (no_less place rises members r c a n last.member (last.last c n (leb-true (other c) k e))))
        (λ e. let up : other c ≤ other a = no_less other other_rises members r c a n last.member (from_by_place place rises members r c a n last.member (leb-true (place c) (place a) e)) in
        le-leb (other c) k (omega arith)))

  pub starts_forward : (a : Extent) → Some a ≡ find (λ c. leb k (other c)) members → Some a ≡ find (λ c. leb (place a) (place c)) members
  starts_forward a found = found ∙ forward_within members (λ c m. m) a found

  pub starts_backward : (a : Extent) → Some a ≡ find_last (λ c. leb (other c) k) members → Some a ≡ find_last (λ c. leb (place c) (place a)) members
  starts_backward a found = found ∙ backward_within members (λ c m. m) a found

  module _ (keeps : Extent → Bool) where
    pub enters_forward : (a : Extent) → Some a ≡ find (λ c. leb k (other c)) members →
        find (λ c. leb k (other c)) (filter keeps members) ≡ find (λ c. leb (place a) (place c)) (filter keeps members)
    enters_forward a found = forward_within (filter keeps members) (λ c m. (has_filter keeps members c m).0) a found

    pub enters_forward_none : None ≡ find (λ c. leb k (other c)) members → None ≡ find (λ c. leb k (other c)) (filter keeps members)
    enters_forward_none none = first_of_none other keeps members k (λ c m le. let lt = none_from other members k (sym none) c m in absurd (omega arith))

    pub enters_backward : (a : Extent) → Some a ≡ find_last (λ c. leb (other c) k) members →
        find_last (λ c. leb (other c) k) (filter keeps members) ≡ find_last (λ c. leb (place c) (place a)) (filter keeps members)
    enters_backward a found = backward_within (filter keeps members) (λ c m. (has_filter keeps members c m).0) a found

    pub enters_backward_none : None ≡ find_last (λ c. leb (other c) k) members → None ≡ find_last (λ c. leb (other c) k) (filter keeps members)
    enters_backward_none none = last_of_none other keeps members k (λ c m le. let lt = none_upto other members k (sym none) c m in absurd (omega arith))

-- when the loop comes to a, it has passed all before the place of a
pub arrives_forward : (place : Extent → ℕ) → IsPlace place → (keeps : Extent → Bool) (members : List Extent) → IsRising members → (k from : ℕ) → IsPassed place keeps members k from →
    (a : Extent) → Some a ≡ find (λ c. leb from (place c)) members → IsPassed place keeps members k (place a)
arrives_forward place rises keeps members r k from p a found =
    let first = found_first place members r from a (sym found) in
    let far : from ≤ place a = first.far in
    let later : k ≤ from = p.later in
    record {
      later = omega arith;
      passed = λ c m le lt.
          elim (cases_lt (place c) from) [
            | inl near ↦ p.passed c m le near
            | inr ge ↦ let up : place a ≤ place c = no_less place rises members r a c first.member m (first.first c m ge) in absurd (omega arith)
          ];
    }

pub arrives_backward : (place : Extent → ℕ) → IsPlace place → (keeps : Extent → Bool) (members : List Extent) → IsRising members → (k upto : ℕ) → IsPassedBack place keeps members k upto →
    (a : Extent) → Some a ≡ find_last (λ c. leb (place c) upto) members → IsPassedBack place keeps members k (place a)
arrives_backward place rises keeps members r k upto p a found =
    let last = found_last place members r upto a (sym found) in
    let near : place a ≤ upto = last.near in
    let earlier : upto ≤ k = p.earlier in
    record {
      earlier = omega arith;
      passed = λ c m le lt.
          elim (cases_lt upto (place c)) [
            | inl far ↦ p.passed c m le far
            | inr ge ↦ let up : place c ≤ place a = no_less place rises members r c a m last.member (last.last c m ge) in absurd (omega arith)
          ];
    }
