-- The eight loops of the containments: what a loop keeps from member to member, and how many turns it takes.
use Rattle.std.proofs.Common.{◌≡◌, ℕ, ◌+◌, ◌*◌, ◌<◌, ◌≤◌, Bool, leb, min, List, length, Option, Some, None, IfSome, inl, inr, sym, ap, ◌∙◌, arith, le_refl, filter, find}
use Rattle.std.proofs.Math.Nat.{mul-le-mul_left}
use Rattle.std.proofs.lemmas.Bool.{true≢false, leb-true, le-leb, cases_lt}
use Rattle.gcl_model.specs.Extents.{Extent, IsRising}
use Rattle.gcl_model.specs.Access.{find_last}
use Rattle.gcl_model.specs.Limits.{address_end, far}
use Rattle.gcl_contain.specs.Moves.{accept, go_to, finish}
use Rattle.gcl_model.proofs.Covers.{find_agree_on, find_last_agree_on}
use Rattle.gcl_model.proofs.Minimal.{has_filter, same_truth}
use Rattle.gcl_contain.specs.Laws.{ForwardIsRight, BackwardIsRight}
use Rattle.gcl_contain.proofs.Accesses.{IsPlace, start_is_place, end_is_place, found_first, found_last}
use Rattle.gcl_contain.proofs.Right.{containing_is_right, contained_in_is_right, not_containing_is_right, not_contained_in_is_right, containing_back_is_right, contained_in_back_is_right, not_containing_back_is_right, not_contained_in_back_is_right}
use Rattle.gcl_contain.proofs.Loops.{IsPassed, IsPassedBack, passed_none, passed_none_back, right_forward, right_backward, forward_none, forward_accept, forward_finish, forward_goes_on, backward_none, backward_accept, backward_finish, backward_goes_on, starts_forward, starts_backward, enters_forward, enters_forward_none, enters_backward, enters_backward_none, arrives_forward, arrives_backward}
use Rattle.gcl_contain.proofs.Advance.{containing_goes, contained_in_goes, not_containing_goes, not_contained_in_goes, containing_back_goes, contained_in_back_goes, not_containing_back_goes, not_contained_in_back_goes}
use Rattle.gcl_contain.proofs.Counts.{turns_forward, turns_backward, turns_forward_le, turns_backward_le, IsUsed, IsUsedBack, turns_forward_rise, turns_backward_rise, containing_uses, contained_in_uses, not_containing_uses, not_contained_in_uses, containing_back_uses, contained_in_back_uses, not_containing_back_uses, not_contained_in_back_uses}
use Rattle.gcl_eval.specs.Directions.{access_of, direction_of}
use Rattle.gcl_eval.specs.Containments.{loop_of, goes_by}
use Rattle.gcl_model.specs.declared.containment.Containment.{Containment}
use Rattle.gcl_model.specs.declared.containment.Containment.TheVariants.{Containing, ContainedIn, NotContaining, NotContainedIn}
use Rattle.gcl_eval.specs.declared.direction.Access.{Access}
use Rattle.gcl_eval.specs.declared.direction.Access.TheVariants.{FirstStart, FirstEnd, LastEnd, LastStart}
use Rattle.gcl_model.specs.declared.direction.Direction.{Direction}
use Rattle.gcl_model.specs.declared.direction.Direction.TheVariants.{Forward, Backward}

-- what is known of each loop
forward_rises : (containment : Containment) → IsPlace (loop_of Forward containment).place
forward_rises Containing = end_is_place
forward_rises ContainedIn = start_is_place
forward_rises NotContaining = start_is_place
forward_rises NotContainedIn = end_is_place

backward_rises : (containment : Containment) → IsPlace (loop_of Backward containment).place
backward_rises Containing = start_is_place
backward_rises ContainedIn = end_is_place
backward_rises NotContaining = end_is_place
backward_rises NotContainedIn = start_is_place

forward_right : (containment : Containment) → ForwardIsRight (loop_of Forward containment)
forward_right Containing = containing_is_right
forward_right ContainedIn = contained_in_is_right
forward_right NotContaining = not_containing_is_right
forward_right NotContainedIn = not_contained_in_is_right

backward_right : (containment : Containment) → BackwardIsRight (loop_of Backward containment)
backward_right Containing = containing_back_is_right
backward_right ContainedIn = contained_in_back_is_right
backward_right NotContaining = not_containing_back_is_right
backward_right NotContainedIn = not_contained_in_back_is_right

-- a turn of the plain kinds goes to the place of its b, and one of the others after it
abbrev pub slack : Containment → ℕ
slack Containing = 1
slack ContainedIn = 1
slack NotContaining = 0
slack NotContainedIn = 0

forward_uses : (containment : Containment) (others : List Extent) (a : Extent) (o : Option Extent) (next : ℕ) → o ≡ (loop_of Forward containment).ask others a → go_to next ≡ (loop_of Forward containment).move a o →
    IsUsed (loop_of Forward containment).place (slack containment) others ((loop_of Forward containment).place a) next
forward_uses Containing others a o next asked is = containing_uses others a o a.end next asked (le_refl a.end) is
forward_uses ContainedIn others a o next asked is = contained_in_uses others a o a.start next asked (le_refl a.start) is
forward_uses NotContaining others a o next asked is = not_containing_uses others a o a.start next asked (le_refl a.start) is
forward_uses NotContainedIn others a o next asked is = not_contained_in_uses others a o a.end next asked (le_refl a.end) is

backward_uses : (containment : Containment) (others : List Extent) (a : Extent) (o : Option Extent) (next : ℕ) → o ≡ (loop_of Backward containment).ask others a → go_to next ≡ (loop_of Backward containment).move a o →
    IsUsedBack (loop_of Backward containment).place (slack containment) others ((loop_of Backward containment).place a) next
backward_uses Containing others a o next asked is = containing_back_uses others a o a.start next asked (le_refl a.start) is
backward_uses ContainedIn others a o next asked is = contained_in_back_uses others a o a.end next asked (le_refl a.end) is
backward_uses NotContaining others a o next asked is = not_containing_back_uses others a o a.end next asked (le_refl a.end) is
backward_uses NotContainedIn others a o next asked is = not_contained_in_back_uses others a o a.start next asked (le_refl a.start) is

-- the first member at or after k, and the last up to it, by a place
abbrev find_from : (Extent → ℕ) → List Extent → ℕ → Option Extent
find_from place list k = find (λ c. leb k (place c)) list

abbrev find_upto : (Extent → ℕ) → List Extent → ℕ → Option Extent
find_upto place list k = find_last (λ c. leb (place c) k) list

-- if the members between two places are not kept, the search among the kept ones is the same from either
passed_same : (place : Extent → ℕ) (keeps : Extent → Bool) (members : List Extent) (k from : ℕ) → IsPassed place keeps members k from →
    find_from place (filter keeps members) k ≡ find_from place (filter keeps members) from
passed_same place keeps members k from p = find_agree_on (λ c. leb k (place c)) (λ c. leb from (place c)) (filter keeps members) (λ c m.
    let h = has_filter keeps members c m in
    same_truth (leb k (place c)) (leb from (place c))
    (λ e. elim (cases_lt (place c) from) [ inl lt ↦ absurd (true≢false (sym h.1 ∙ p.passed c h.0 (leb-true k (place c) e) lt)) | inr ge ↦ le-leb from (place c) ge ])
    (λ e. let x : from ≤ place c = leb-true from (place c) e in let y : k ≤ from = p.later in le-leb k (place c) (omega arith)))

passed_same_back : (place : Extent → ℕ) (keeps : Extent → Bool) (members : List Extent) (k upto : ℕ) → IsPassedBack place keeps members k upto →
    find_upto place (filter keeps members) k ≡ find_upto place (filter keeps members) upto
passed_same_back place keeps members k upto p = find_last_agree_on (λ c. leb (place c) k) (λ c. leb (place c) upto) (filter keeps members) (λ c m.
    let h = has_filter keeps members c m in
    same_truth (leb (place c) k) (leb (place c) upto)
    (λ e. elim (cases_lt upto (place c)) [ inl lt ↦ absurd (true≢false (sym h.1 ∙ p.passed c h.0 (leb-true (place c) k e) lt)) | inr ge ↦ le-leb (place c) upto ge ])
    (λ e. let x : place c ≤ upto = leb-true (place c) upto e in let y : upto ≤ k = p.earlier in le-leb (place c) k (omega arith)))

-- the node's list is that of the members of the first operand that it keeps
abbrev pub IsKept : Containment → List Extent → List Extent → List Extent → Type 0
IsKept containment members others node = (direction : Direction) → node ≡ filter ((loop_of direction containment).keeps others) members

-- the loop came to the member a: the answer is what its access of the node gives from there
pub record IsAt (direction : Direction) (containment : Containment) (members node : List Extent) (all : Option Extent) (a : Extent) : Type 0 where
  pub found : Some a ≡ goes_by direction (loop_of direction containment) members ((loop_of direction containment).place a)
  pub answer : goes_by direction (loop_of direction containment) node ((loop_of direction containment).place a) ≡ all

abbrev pub turns : Direction → Containment → List Extent → List Extent → Extent → ℕ
turns Forward containment members others a = turns_forward (loop_of Forward containment).place (slack containment) members others ((loop_of Forward containment).place a)
turns Backward containment members others a = turns_backward (loop_of Backward containment).place (slack containment) members others ((loop_of Backward containment).place a)

pub turns_le : (direction : Direction) (containment : Containment) (members others : List Extent) (a : Extent) → turns direction containment members others a ≤ min (length members) (length others)
turns_le Forward containment members others a = turns_forward_le (loop_of Forward containment).place (slack containment) members others ((loop_of Forward containment).place a)
turns_le Backward containment members others a = turns_backward_le (loop_of Backward containment).place (slack containment) members others ((loop_of Backward containment).place a)

module _ (containment : Containment) (members others node : List Extent) (r : IsRising members) (s : IsRising others) (kept : IsKept containment members others node) where
  -- the first member, by any form of access
  enters_by : (place other : Extent → ℕ) → IsPlace place → IsPlace other → (keeps : Extent → Bool) → node ≡ filter keeps members → (k : ℕ) (a : Extent) → Some a ≡ find_from other members k →
      find_from place node (place a) ≡ find_from other node k
  enters_by place other rises other_rises keeps is k a found =
      ap (λ l. find_from place l (place a)) is ∙ sym (enters_forward place other rises other_rises members r k keeps a found) ∙ sym (ap (λ l. find_from other l k) is)

  enters_back_by : (place other : Extent → ℕ) → IsPlace place → IsPlace other → (keeps : Extent → Bool) → node ≡ filter keeps members → (k : ℕ) (a : Extent) → Some a ≡ find_upto other members k →
      find_upto place node (place a) ≡ find_upto other node k
  enters_back_by place other rises other_rises keeps is k a found =
      ap (λ l. find_upto place l (place a)) is ∙ sym (enters_backward place other rises other_rises members r k keeps a found) ∙ sym (ap (λ l. find_upto other l k) is)

  pub enters : (wanted : Access) (k : ℕ) (a : Extent) → Some a ≡ access_of wanted members k → IsAt (direction_of wanted) containment members node (access_of wanted node k) a
  enters FirstStart k a found =
      let kind = loop_of Forward containment in
      record {
        found = starts_forward kind.place (λ c. c.start) (forward_rises containment) start_is_place members r k a found;
        answer = enters_by kind.place (λ c. c.start) (forward_rises containment) start_is_place (kind.keeps others) (kept Forward) k a found;
      }
  enters FirstEnd k a found =
      let kind = loop_of Forward containment in
      record {
        found = starts_forward kind.place (λ c. c.end) (forward_rises containment) end_is_place members r k a found;
        answer = enters_by kind.place (λ c. c.end) (forward_rises containment) end_is_place (kind.keeps others) (kept Forward) k a found;
      }
  enters LastEnd k a found =
      let kind = loop_of Backward containment in
      record {
        found = starts_backward kind.place (λ c. c.end) (backward_rises containment) end_is_place members r k a found;
        answer = enters_back_by kind.place (λ c. c.end) (backward_rises containment) end_is_place (kind.keeps others) (kept Backward) k a found;
      }
  enters LastStart k a found =
      let kind = loop_of Backward containment in
      record {
        found = starts_backward kind.place (λ c. c.start) (backward_rises containment) start_is_place members r k a found;
        answer = enters_back_by kind.place (λ c. c.start) (backward_rises containment) start_is_place (kind.keeps others) (kept Backward) k a found;
      }

  pub enters_none : (wanted : Access) (k : ℕ) → None ≡ access_of wanted members k → None ≡ access_of wanted node k
  enters_none FirstStart k none = enters_forward_none (loop_of Forward containment).place (λ c. c.start) (forward_rises containment) start_is_place members r k ((loop_of Forward containment).keeps others) none
      ∙ sym (ap (λ l. find_from (λ c. c.start) l k) (kept Forward))
  enters_none FirstEnd k none = enters_forward_none (loop_of Forward containment).place (λ c. c.end) (forward_rises containment) end_is_place members r k ((loop_of Forward containment).keeps others) none
      ∙ sym (ap (λ l. find_from (λ c. c.end) l k) (kept Forward))
  enters_none LastEnd k none = enters_backward_none (loop_of Backward containment).place (λ c. c.end) (backward_rises containment) end_is_place members r k ((loop_of Backward containment).keeps others) none
      ∙ sym (ap (λ l. find_upto (λ c. c.end) l k) (kept Backward))
  enters_none LastStart k none = enters_backward_none (loop_of Backward containment).place (λ c. c.start) (backward_rises containment) start_is_place members r k ((loop_of Backward containment).keeps others) none
      ∙ sym (ap (λ l. find_upto (λ c. c.start) l k) (kept Backward))

  -- a turn at the member a
  pub accepts : (direction : Direction) (all : Option Extent) (a : Extent) → IsAt direction containment members node all a → (o : Option Extent) → o ≡ (loop_of direction containment).ask others a →
      accept ≡ (loop_of direction containment).move a o → Some a ≡ all
  accepts Forward all a reached o asked is =
      let kind = loop_of Forward containment in
      let keeps = kind.keeps others in
      forward_accept kind.place (forward_rises containment) keeps members r (kind.place a) (kind.place a) (passed_none kind.place keeps members (kind.place a)) a reached.found
      (right_forward kind (forward_right containment) members others s a o accept asked is)
      ∙ sym (ap (λ l. goes_by Forward kind l (kind.place a)) (kept Forward)) ∙ reached.answer
  accepts Backward all a reached o asked is =
      let kind = loop_of Backward containment in
      let keeps = kind.keeps others in
      backward_accept kind.place (backward_rises containment) keeps members r (kind.place a) (kind.place a) (passed_none_back kind.place keeps members (kind.place a)) a reached.found
      (right_backward kind (backward_right containment) members others s a o accept asked is)
      ∙ sym (ap (λ l. goes_by Backward kind l (kind.place a)) (kept Backward)) ∙ reached.answer

  pub finishes : (direction : Direction) (all : Option Extent) (a : Extent) → IsAt direction containment members node all a → (o : Option Extent) → o ≡ (loop_of direction containment).ask others a →
      finish ≡ (loop_of direction containment).move a o → None ≡ all
  finishes Forward all a reached o asked is =
      let kind = loop_of Forward containment in
      let keeps = kind.keeps others in
      forward_finish kind.place (forward_rises containment) keeps members r (kind.place a) (kind.place a) (passed_none kind.place keeps members (kind.place a)) a reached.found
      (right_forward kind (forward_right containment) members others s a o finish asked is)
      ∙ sym (ap (λ l. goes_by Forward kind l (kind.place a)) (kept Forward)) ∙ reached.answer
  finishes Backward all a reached o asked is =
      let kind = loop_of Backward containment in
      let keeps = kind.keeps others in
      backward_finish kind.place (backward_rises containment) keeps members r (kind.place a) (kind.place a) (passed_none_back kind.place keeps members (kind.place a)) a reached.found
      (right_backward kind (backward_right containment) members others s a o finish asked is)
      ∙ sym (ap (λ l. goes_by Backward kind l (kind.place a)) (kept Backward)) ∙ reached.answer

  goes_forward : (a : Extent) → Some a ≡ goes_by Forward (loop_of Forward containment) members ((loop_of Forward containment).place a) → (o : Option Extent) → o ≡ (loop_of Forward containment).ask others a →
      (next : ℕ) → go_to next ≡ (loop_of Forward containment).move a o → IsPassed (loop_of Forward containment).place ((loop_of Forward containment).keeps others) members ((loop_of Forward containment).place a) next
  goes_forward a found o asked next is =
      let kind = loop_of Forward containment in
      let keeps = kind.keeps others in
      forward_goes_on kind.place (forward_rises containment) keeps members r (kind.place a) (kind.place a) (passed_none kind.place keeps members (kind.place a)) a found next
      (right_forward kind (forward_right containment) members others s a o (go_to next) asked is)

  goes_backward : (a : Extent) → Some a ≡ goes_by Backward (loop_of Backward containment) members ((loop_of Backward containment).place a) → (o : Option Extent) → o ≡ (loop_of Backward containment).ask others a →
      (next : ℕ) → go_to next ≡ (loop_of Backward containment).move a o → IsPassedBack (loop_of Backward containment).place ((loop_of Backward containment).keeps others) members ((loop_of Backward containment).place a) next
  goes_backward a found o asked next is =
      let kind = loop_of Backward containment in
      let keeps = kind.keeps others in
      backward_goes_on kind.place (backward_rises containment) keeps members r (kind.place a) (kind.place a) (passed_none_back kind.place keeps members (kind.place a)) a found next
      (right_backward kind (backward_right containment) members others s a o (go_to next) asked is)

  -- a turn that goes on
  module _ (all : Option Extent) (a : Extent) (o : Option Extent) (next : ℕ) where
    pub ends : (direction : Direction) → IsAt direction containment members node all a → o ≡ (loop_of direction containment).ask others a → go_to next ≡ (loop_of direction containment).move a o →
        None ≡ goes_by direction (loop_of direction containment) members next → None ≡ all
    ends Forward reached asked is none =
        let kind = loop_of Forward containment in
        forward_none kind.place (forward_rises containment) (kind.keeps others) members r (kind.place a) next (goes_forward a reached.found o asked next is) none
        ∙ sym (ap (λ l. goes_by Forward kind l (kind.place a)) (kept Forward)) ∙ reached.answer
    ends Backward reached asked is none =
        let kind = loop_of Backward containment in
        backward_none kind.place (backward_rises containment) (kind.keeps others) members r (kind.place a) next (goes_backward a reached.found o asked next is) none
        ∙ sym (ap (λ l. goes_by Backward kind l (kind.place a)) (kept Backward)) ∙ reached.answer

    pub goes_on : (direction : Direction) → IsAt direction containment members node all a → o ≡ (loop_of direction containment).ask others a → go_to next ≡ (loop_of direction containment).move a o →
        (b : Extent) → Some b ≡ goes_by direction (loop_of direction containment) members next → IsAt direction containment members node all b
    goes_on Forward reached asked is b found =
        let kind = loop_of Forward containment in
        let keeps = kind.keeps others in
        let rises = forward_rises containment in
        let arrived = arrives_forward kind.place rises keeps members r (kind.place a) next (goes_forward a reached.found o asked next is) b found in
        record {
          found = starts_forward kind.place kind.place rises rises members r next b found;
          answer = ap (λ l. goes_by Forward kind l (kind.place b)) (kept Forward) ∙ sym (passed_same kind.place keeps members (kind.place a) (kind.place b) arrived)
              ∙ sym (ap (λ l. goes_by Forward kind l (kind.place a)) (kept Forward)) ∙ reached.answer;
        }
    goes_on Backward reached asked is b found =
        let kind = loop_of Backward containment in
        let keeps = kind.keeps others in
        let rises = backward_rises containment in
        let arrived = arrives_backward kind.place rises keeps members r (kind.place a) next (goes_backward a reached.found o asked next is) b found in
        record {
          found = starts_backward kind.place kind.place rises rises members r next b found;
          answer = ap (λ l. goes_by Backward kind l (kind.place b)) (kept Backward) ∙ sym (passed_same_back kind.place keeps members (kind.place a) (kind.place b) arrived)
              ∙ sym (ap (λ l. goes_by Backward kind l (kind.place a)) (kept Backward)) ∙ reached.answer;
        }

    pub more_turns : (direction : Direction) → IsAt direction containment members node all a → o ≡ (loop_of direction containment).ask others a → go_to next ≡ (loop_of direction containment).move a o →
        (b : Extent) → Some b ≡ goes_by direction (loop_of direction containment) members next → turns direction containment members others a + 1 ≤ turns direction containment members others b
    more_turns Forward reached asked is b found =
        let kind = loop_of Forward containment in
        let place = kind.place in
        let here = found_first place members r (place a) a (sym reached.found) in
        let there = found_first place members r next b (sym found) in
        let later : next ≤ place b = there.far in
        let right = right_forward kind (forward_right containment) members others s a o (go_to next) asked is in
        let on : place a < next = right.1 in
        let used = forward_uses containment others a o next asked is in
        let near : place used.by < next + slack containment = used.near in
        turns_forward_rise place (slack containment) members others (place a) (place b) a here.member (le_refl (place a)) (omega arith)
        record { by = used.by; member = used.member; far = used.far; near = omega arith }
    more_turns Backward reached asked is b found =
        let kind = loop_of Backward containment in
        let place = kind.place in
        let here = found_last place members r (place a) a (sym reached.found) in
        let there = found_last place members r next b (sym found) in
        let earlier : place b ≤ next = there.near in
        let right = right_backward kind (backward_right containment) members others s a o (go_to next) asked is in
        let on : next < place a = right.1 in
        let used = backward_uses containment others a o next asked is in
        let far : next < place used.by + slack containment = used.far in
        turns_backward_rise place (slack containment) members others (place a) (place b) a here.member (le_refl (place a)) (omega arith)
        record { by = used.by; member = used.member; near = used.near; far = omega arith }

-- the place where the loop goes on is an address, or the one after the last
pub record IsWithin (b : Extent) : Type 0 where
  pub proper : b.start ≤ b.end
  pub below : b.end < address_end

pub goes_below : (direction : Direction) (containment : Containment) (a : Extent) (o : Option Extent) (next : ℕ) → IfSome o IsWithin → go_to next ≡ (loop_of direction containment).move a o → next < far
goes_below Forward Containing a None next w is = let h : go_to next ≡ finish = is in absurd cc
goes_below Forward Containing a (Some b) next w is = let v : IsWithin b = w in let x : b.start ≤ b.end = v.proper in let y : b.end < address_end = v.below in let g = (containing_goes a b next (sym is)).1 in omega arith
goes_below Forward ContainedIn a None next w is = let h : go_to next ≡ finish = is in absurd cc
goes_below Forward ContainedIn a (Some b) next w is = let v : IsWithin b = w in let x : b.start ≤ b.end = v.proper in let y : b.end < address_end = v.below in let g = (contained_in_goes a b next (sym is)).1 in omega arith
goes_below Forward NotContaining a None next w is = let h : go_to next ≡ accept = is in absurd cc
goes_below Forward NotContaining a (Some b) next w is = let v : IsWithin b = w in let x : b.start ≤ b.end = v.proper in let y : b.end < address_end = v.below in let g = (not_containing_goes a b next (sym is)).1 in omega arith
goes_below Forward NotContainedIn a None next w is = let h : go_to next ≡ accept = is in absurd cc
goes_below Forward NotContainedIn a (Some b) next w is = let v : IsWithin b = w in let x : b.start ≤ b.end = v.proper in let y : b.end < address_end = v.below in let g = (not_contained_in_goes a b next (sym is)).1 in omega arith
goes_below Backward Containing a None next w is = let h : go_to next ≡ finish = is in absurd cc
goes_below Backward Containing a (Some b) next w is = let v : IsWithin b = w in let x : b.start ≤ b.end = v.proper in let y : b.end < address_end = v.below in let g = (containing_back_goes a b next (sym is)).1 in omega arith
goes_below Backward ContainedIn a None next w is = let h : go_to next ≡ finish = is in absurd cc
goes_below Backward ContainedIn a (Some b) next w is = let v : IsWithin b = w in let x : b.start ≤ b.end = v.proper in let y : b.end < address_end = v.below in let g = (contained_in_back_goes a b next (sym is)).1 in omega arith
goes_below Backward NotContaining a None next w is = let h : go_to next ≡ accept = is in absurd cc
goes_below Backward NotContaining a (Some b) next w is = let v : IsWithin b = w in let x : b.start ≤ b.end = v.proper in let y : b.end < address_end = v.below in let g = (not_containing_back_goes a b next (sym is)).1 in omega arith
goes_below Backward NotContainedIn a None next w is = let h : go_to next ≡ accept = is in absurd cc
goes_below Backward NotContainedIn a (Some b) next w is = let v : IsWithin b = w in let x : b.start ≤ b.end = v.proper in let y : b.end < address_end = v.below in let g = (not_contained_in_back_goes a b next (sym is)).1 in omega arith

-- the bound: `first` and `second` look-ups a turn, `most` turns that go on, and two of each more
pub no_more_turns : (entry before first second turn most : ℕ) → before ≤ entry + (first + second) + turn * (first + second) → turn ≤ most → (new : ℕ) → new ≤ before + second → new ≤ entry + (most + 2) * (first + second)
no_more_turns entry before first second turn most cost le new last = omega (arith, mul-le-mul_left (first + second) le)

pub first_alone : (entry first second most new : ℕ) → new ≤ entry + (first + second) → new ≤ entry + (most + 2) * (first + second)
first_alone entry first second most new le = let two : 2 ≤ most + 2 = omega arith in omega (arith, mul-le-mul_left (first + second) two)

pub and_more : (m n x : ℕ) → m ≤ n → m ≤ n + x
and_more m n x le = omega arith

pub turns_end : (entry before first second turn most : ℕ) → before ≤ entry + (first + second) + turn * (first + second) → turn ≤ most → (new last : ℕ) → new ≤ before + second → last ≤ new + first → last ≤ entry + (most + 2) * (first + second)
turns_end entry before first second turn most cost le new last asked gone = omega (arith, mul-le-mul_left (first + second) le)

pub one_turn_more : (entry before first second turn next : ℕ) → before ≤ entry + (first + second) + turn * (first + second) → turn + 1 ≤ next → (new last : ℕ) → new ≤ before + second → last ≤ new + first →
    last ≤ entry + (first + second) + next * (first + second)
one_turn_more entry before first second turn next cost le new last asked gone = omega (arith, mul-le-mul_left (first + second) le)
