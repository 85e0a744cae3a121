-- Each of the eight moves is right.
use Rattle.std.proofs.Common.{◌≡◌, ℕ, zero, suc, ◌+◌, ◌<◌, ◌≤◌, Bool, false, not, leb, List, Option, Some, None, inl, inr, refl, arith}
use Rattle.std.proofs.lemmas.Bool.{leb-true, leb-false, cases_Bool, not_from_true, not_from_false}
use Rattle.gcl_model.specs.Extents.{Extent, covers, is_inside, IsRising}
use Rattle.gcl_model.specs.Access.{first_start, first_end, last_end, last_start}
use Rattle.gcl_model.proofs.Covers.{covered_from, all_from_has}
use Rattle.gcl_contain.specs.Moves.{containing_move, contained_in_move, not_containing_move, not_contained_in_move, containing_move_back, contained_in_move_back, not_containing_move_back, not_contained_in_move_back, before_move}
use Rattle.gcl_contain.specs.Kinds.{containing, contained_in, not_containing, not_contained_in, containing_back, contained_in_back, not_containing_back, not_contained_in_back}
use Rattle.gcl_contain.specs.Laws.{IsFromOn, IsRightForward, IsRightBackward, ForwardIsRight, BackwardIsRight}
use Rattle.gcl_contain.proofs.Accesses.{found_first, none_from, found_last, none_upto, from_itself, not_covered, not_inside, inside_from}

module _ (members others : List Extent) (a : Extent) (r : IsRising others) where
  containing_cases : (o : Option Extent) → first_start others a.start ≡ o → IsRightForward (λ c. c.end) (covers others) members a (containing_move a o)
  containing_cases None is =
      let none = none_from (λ c. c.start) others a.start is in
      let fails : (c : Extent) → IsFromOn a c → covers others c ≡ false = λ c on. not_covered others c (λ d m n. let x = on.0 in let y = n.0 in let z = none d m in omega arith) in
      (fails a (from_itself a), all_from_has (λ c. IsFromOn a c → covers others c ≡ false) members (λ c m. fails c))
  containing_cases (Some b) is =
      let f = found_first (λ c. c.start) others r a.start b is in
      elim (cases_Bool (leb b.end a.end)) [
        | inl t ↦ rw t (covered_from others b a f.member (f.far, leb-true b.end a.end t))
        | inr e ↦
            let short : a.end < b.end = leb-false b.end a.end e in
            let fails : (c : Extent) → IsFromOn a c → c.end < b.end → covers others c ≡ false = λ c on lt.
            not_covered others c (λ d m n. let x : a.start ≤ c.start = on.0 in let y : c.start ≤ d.start = n.0 in let z : d.end ≤ c.end = n.1 in
            let w : b.end ≤ d.end = (f.first d m (omega arith)).1 in omega arith) in
            rw e (fails a (from_itself a) short, short, all_from_has (λ c. IsFromOn a c → c.end < b.end → covers others c ≡ false) members (λ c m. fails c))
      ]

  contained_in_cases : (o : Option Extent) → first_end others a.end ≡ o → IsRightForward (λ c. c.start) (is_inside others) members a (contained_in_move a o)
  contained_in_cases None is =
      let none = none_from (λ c. c.end) others a.end is in
      let fails : (c : Extent) → IsFromOn a c → is_inside others c ≡ false = λ c on. not_inside others c (λ d m n. let x = on.1 in let y = n.1 in let z = none d m in omega arith) in
      (fails a (from_itself a), all_from_has (λ c. IsFromOn a c → is_inside others c ≡ false) members (λ c m. fails c))
  contained_in_cases (Some b) is =
      let f = found_first (λ c. c.end) others r a.end b is in
      elim (cases_Bool (leb b.start a.start)) [
        | inl t ↦ rw t (inside_from others b a f.member (leb-true b.start a.start t, f.far))
        | inr e ↦
            let later : a.start < b.start = leb-false b.start a.start e in
            let fails : (c : Extent) → IsFromOn a c → c.start < b.start → is_inside others c ≡ false = λ c on lt.
            not_inside others c (λ d m n. let x : a.end ≤ c.end = on.1 in let y : d.start ≤ c.start = n.0 in let z : c.end ≤ d.end = n.1 in
            let w : b.start ≤ d.start = (f.first d m (omega arith)).0 in omega arith) in
            rw e (fails a (from_itself a) later, later, all_from_has (λ c. IsFromOn a c → c.start < b.start → is_inside others c ≡ false) members (λ c m. fails c))
      ]

  not_containing_cases : (o : Option Extent) → first_start others a.start ≡ o → IsRightForward (λ c. c.start) (λ c. not (covers others c)) members a (not_containing_move a o)
  not_containing_cases None is =
      let none = none_from (λ c. c.start) others a.start is in
      not_from_false (covers others a) (not_covered others a (λ d m n. let y = n.0 in let z = none d m in omega arith))
  not_containing_cases (Some b) is =
      let f = found_first (λ c. c.start) others r a.start b is in
      let far : a.start ≤ b.start = f.far in
      elim (cases_Bool (leb b.end a.end)) [
        | inl t ↦
            let within : b.end ≤ a.end = leb-true b.end a.end t in
            let fails : (c : Extent) → IsFromOn a c → c.start < b.start + 1 → not (covers others c) ≡ false = λ c on lt.
            not_from_true (covers others c) (covered_from others b c f.member (let x = on.1 in (omega arith, omega arith))) in
            rw t (fails a (from_itself a) (omega arith), omega arith, all_from_has (λ c. IsFromOn a c → c.start < b.start + 1 → not (covers others c) ≡ false) members (λ c m. fails c))
        | inr e ↦
            let short : a.end < b.end = leb-false b.end a.end e in
            rw e (not_from_false (covers others a) (not_covered others a (λ d m n. let y : a.start ≤ d.start = n.0 in let z : d.end ≤ a.end = n.1 in let w : b.end ≤ d.end = (f.first d m y).1 in omega arith)))
      ]

  not_contained_in_cases : (o : Option Extent) → first_end others a.end ≡ o → IsRightForward (λ c. c.end) (λ c. not (is_inside others c)) members a (not_contained_in_move a o)
  not_contained_in_cases None is =
      let none = none_from (λ c. c.end) others a.end is in
      not_from_false (is_inside others a) (not_inside others a (λ d m n. let y = n.1 in let z = none d m in omega arith))
  not_contained_in_cases (Some b) is =
      let f = found_first (λ c. c.end) others r a.end b is in
      let far : a.end ≤ b.end = f.far in
      elim (cases_Bool (leb b.start a.start)) [
        | inl t ↦
            let before : b.start ≤ a.start = leb-true b.start a.start t in
            let fails : (c : Extent) → IsFromOn a c → c.end < b.end + 1 → not (is_inside others c) ≡ false = λ c on lt.
            not_from_true (is_inside others c) (inside_from others b c f.member (let x = on.0 in (omega arith, omega arith))) in
            rw t (fails a (from_itself a) (omega arith), omega arith, all_from_has (λ c. IsFromOn a c → c.end < b.end + 1 → not (is_inside others c) ≡ false) members (λ c m. fails c))
        | inr e ↦
            let later : a.start < b.start = leb-false b.start a.start e in
            rw e (not_from_false (is_inside others a) (not_inside others a (λ d m n. let y : d.start ≤ a.start = n.0 in let z : a.end ≤ d.end = n.1 in let w : b.start ≤ d.start = (f.first d m z).0 in omega arith)))
      ]

  containing_back_cases : (o : Option Extent) → last_end others a.end ≡ o → IsRightBackward (λ c. c.start) (covers others) members a (containing_move_back a o)
  containing_back_cases None is =
      let none = none_upto (λ c. c.end) others a.end is in
      let fails : (c : Extent) → IsFromOn c a → covers others c ≡ false = λ c on. not_covered others c (λ d m n. let x = on.1 in let y = n.1 in let z = none d m in omega arith) in
      (fails a (from_itself a), all_from_has (λ c. IsFromOn c a → covers others c ≡ false) members (λ c m. fails c))
  containing_back_cases (Some b) is =
      let f = found_last (λ c. c.end) others r a.end b is in
      elim (cases_Bool (leb a.start b.start)) [
        | inl t ↦ rw t (covered_from others b a f.member (leb-true a.start b.start t, f.near))
        | inr e ↦
            let before : b.start < a.start = leb-false a.start b.start e in
            let fails : (c : Extent) → IsFromOn c a → b.start < c.start → covers others c ≡ false = λ c on lt.
            not_covered others c (λ d m n. let x : c.end ≤ a.end = on.1 in let y : c.start ≤ d.start = n.0 in let z : d.end ≤ c.end = n.1 in
            let w : d.start ≤ b.start = (f.last d m (omega arith)).0 in omega arith) in
            rw e (fails a (from_itself a) before, before, all_from_has (λ c. IsFromOn c a → b.start < c.start → covers others c ≡ false) members (λ c m. fails c))
      ]

  contained_in_back_cases : (o : Option Extent) → last_start others a.start ≡ o → IsRightBackward (λ c. c.end) (is_inside others) members a (contained_in_move_back a o)
  contained_in_back_cases None is =
      let none = none_upto (λ c. c.start) others a.start is in
      let fails : (c : Extent) → IsFromOn c a → is_inside others c ≡ false = λ c on. not_inside others c (λ d m n. let x = on.0 in let y = n.0 in let z = none d m in omega arith) in
      (fails a (from_itself a), all_from_has (λ c. IsFromOn c a → is_inside others c ≡ false) members (λ c m. fails c))
  contained_in_back_cases (Some b) is =
      let f = found_last (λ c. c.start) others r a.start b is in
      elim (cases_Bool (leb a.end b.end)) [
        | inl t ↦ rw t (inside_from others b a f.member (f.near, leb-true a.end b.end t))
        | inr e ↦
            let short : b.end < a.end = leb-false a.end b.end e in
            let fails : (c : Extent) → IsFromOn c a → b.end < c.end → is_inside others c ≡ false = λ c on lt.
            not_inside others c (λ d m n. let x : c.start ≤ a.start = on.0 in let y : d.start ≤ c.start = n.0 in let z : c.end ≤ d.end = n.1 in
            let w : d.end ≤ b.end = (f.last d m (omega arith)).1 in omega arith) in
            rw e (fails a (from_itself a) short, short, all_from_has (λ c. IsFromOn c a → b.end < c.end → is_inside others c ≡ false) members (λ c m. fails c))
      ]

  -- if all members at or after an address fail, the address before it is right
  before_is_right : (place : Extent → ℕ) (keeps : Extent → Bool) (n : ℕ) → n ≤ place a → ((c : Extent) → IsFromOn c a → n ≤ place c → keeps c ≡ false) → IsRightBackward place keeps members a (before_move n)
  before_is_right place keeps zero le fails = (fails a (from_itself a) le, all_from_has (λ c. IsFromOn c a → keeps c ≡ false) members (λ c m on. fails c on (omega arith)))
  before_is_right place keeps (suc k) le fails =
      (fails a (from_itself a) le, omega arith, all_from_has (λ c. IsFromOn c a → k < place c → keeps c ≡ false) members (λ c m on lt. fails c on (omega arith)))

  not_containing_back_cases : (o : Option Extent) → last_end others a.end ≡ o → IsRightBackward (λ c. c.end) (λ c. not (covers others c)) members a (not_containing_move_back a o)
  not_containing_back_cases None is =
      let none = none_upto (λ c. c.end) others a.end is in
      not_from_false (covers others a) (not_covered others a (λ d m n. let y = n.1 in let z = none d m in omega arith))
  not_containing_back_cases (Some b) is =
      let f = found_last (λ c. c.end) others r a.end b is in
      elim (cases_Bool (leb a.start b.start)) [
        | inl t ↦
            let within : a.start ≤ b.start = leb-true a.start b.start t in
            rw t (before_is_right (λ c. c.end) (λ c. not (covers others c)) b.end f.near (λ c on le.
            not_from_true (covers others c) (covered_from others b c f.member (let x = on.0 in (omega arith, le)))))
        | inr e ↦
            let before : b.start < a.start = leb-false a.start b.start e in
            rw e (not_from_false (covers others a) (not_covered others a (λ d m n. let y : a.start ≤ d.start = n.0 in let z : d.end ≤ a.end = n.1 in let w : d.start ≤ b.start = (f.last d m z).0 in omega arith)))
      ]

  not_contained_in_back_cases : (o : Option Extent) → last_start others a.start ≡ o → IsRightBackward (λ c. c.start) (λ c. not (is_inside others c)) members a (not_contained_in_move_back a o)
  not_contained_in_back_cases None is =
      let none = none_upto (λ c. c.start) others a.start is in
      not_from_false (is_inside others a) (not_inside others a (λ d m n. let y = n.0 in let z = none d m in omega arith))
  not_contained_in_back_cases (Some b) is =
      let f = found_last (λ c. c.start) others r a.start b is in
      elim (cases_Bool (leb a.end b.end)) [
        | inl t ↦
            let wide : a.end ≤ b.end = leb-true a.end b.end t in
            rw t (before_is_right (λ c. c.start) (λ c. not (is_inside others c)) b.start f.near (λ c on le.
            not_from_true (is_inside others c) (inside_from others b c f.member (let x = on.1 in (le, omega arith)))))
        | inr e ↦
            let short : b.end < a.end = leb-false a.end b.end e in
            rw e (not_from_false (is_inside others a) (not_inside others a (λ d m n. let y : d.start ≤ a.start = n.0 in let z : a.end ≤ d.end = n.1 in let w : d.end ≤ b.end = (f.last d m y).1 in omega arith)))
      ]

pub containing_is_right : ForwardIsRight containing
containing_is_right members others a r = containing_cases members others a r (first_start others a.start) refl

pub contained_in_is_right : ForwardIsRight contained_in
contained_in_is_right members others a r = contained_in_cases members others a r (first_end others a.end) refl

pub not_containing_is_right : ForwardIsRight not_containing
not_containing_is_right members others a r = not_containing_cases members others a r (first_start others a.start) refl

pub not_contained_in_is_right : ForwardIsRight not_contained_in
not_contained_in_is_right members others a r = not_contained_in_cases members others a r (first_end others a.end) refl

pub containing_back_is_right : BackwardIsRight containing_back
containing_back_is_right members others a r = containing_back_cases members others a r (last_end others a.end) refl

pub contained_in_back_is_right : BackwardIsRight contained_in_back
contained_in_back_is_right members others a r = contained_in_back_cases members others a r (last_start others a.start) refl

pub not_containing_back_is_right : BackwardIsRight not_containing_back
not_containing_back_is_right members others a r = not_containing_back_cases members others a r (last_end others a.end) refl

pub not_contained_in_back_is_right : BackwardIsRight not_contained_in_back
not_contained_in_back_is_right members others a r = not_contained_in_back_cases members others a r (last_start others a.start) refl
