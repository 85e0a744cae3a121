-- A containment by the readers of its two operands.
use Rattle.std.proofs.Common.{◌≡◌, ℕ, ◌+◌, ◌<◌, ◌≤◌, List, ◌++◌, take, drop, Option, Some, None, sym, ap, ◌∙◌, subst, arith, le_refl}
use Rattle.gcl_model.specs.Extents.{Extent, IsRising}
use Rattle.gcl_model.specs.Texts.{Text}
use Rattle.gcl_model.specs.Forms.{Form}
use Rattle.gcl_model.specs.FormOf.{containment_form}
use Rattle.gcl_model.specs.Meaning.{concordance}
use Rattle.gcl_model.specs.Access.{first_start}
use Rattle.gcl_model.specs.declared.containment.Containment.{Containment}
use Rattle.gcl_model.specs.declared.containment.Containment.TheVariants.{Containing, ContainedIn, NotContaining, NotContainedIn}
use Rattle.gcl_model.specs.declared.direction.Direction.TheVariants.{Forward}
use Rattle.gcl_model.proofs.Cases.{IfSome-at}
use Rattle.gcl_model.proofs.Covers.{Has}
use Rattle.gcl_model.proofs.Meanings.{concordance_rises}
use Rattle.gcl_contain.specs.Moves.{go_to}
use Rattle.gcl_contain.specs.Kinds.{first_from}
use Rattle.gcl_contain.specs.Laws.{ForwardIsRight, IsFromOn}
use Rattle.gcl_contain.proofs.Accesses.{IsPlace, start_is_place, end_is_place, found_first, from_by_place}
use Rattle.gcl_contain.proofs.Right.{containing_is_right, contained_in_is_right, not_containing_is_right, not_contained_in_is_right}
use Rattle.gcl_contain.proofs.Loops.{right_forward, starts_forward, enters_forward, enters_forward_none}
use Rattle.gcl_eval.specs.Containments.{loop_of}
use Rattle.gcl_eval.specs.Members.{members_from}
use Rattle.gcl_eval.proofs.ContainLoops.{IsAt, IsKept}
use Rattle.gcl_eval.proofs.ContainForms.{contain_kept}
use Rattle.gcl_readers.specs.declared.front.Front.TheVariants.{On}
use Rattle.gcl_readers.specs.declared.front.Place.{Place}
use Rattle.gcl_readers.specs.Fronts.{start_or_end}
use Rattle.gcl_readers.specs.Agreement.{AnswersFrom, AnswersByEnds}
use Rattle.gcl_readers.specs.Standing.{nodes, start_at, size_of, Tell, TellsFrom, Stands, StandBelow}
use Rattle.gcl_readers.proofs.Members.{agrees, agrees_by_ends}
use Rattle.gcl_readers.proofs.Answers.{answers_later, answers_by_ends_later, moved_answers, moved_answers_by_ends, answers_behind}
use Rattle.gcl_readers.proofs.Standings.{take_front, drop_front, size_take, nodes_some}

-- asked at or after a member of the first operand, the second one's reader answers as the whole list does
abbrev pub SecondAnswers : Containment → List Extent → (x : ℕ) → Extent → Type 0
SecondAnswers Containing others x a = AnswersFrom others x a.start
SecondAnswers ContainedIn others x a = AnswersByEnds others x a.end
SecondAnswers NotContaining others x a = AnswersFrom others x a.start
SecondAnswers NotContainedIn others x a = AnswersByEnds others x a.end

-- its answer there is that of the whole list
pub second_asked : (containment : Containment) (others : List Extent) (x : ℕ) (a : Extent) → SecondAnswers containment others x a → (loop_of Forward containment).ask (members_from others x) a ≡ (loop_of Forward containment).ask others a
second_asked Containing others x a answers = answers a.start (le_refl a.start)
second_asked ContainedIn others x a answers = answers a.end (le_refl a.end)
second_asked NotContaining others x a answers = answers a.start (le_refl a.start)
second_asked NotContainedIn others x a answers = answers a.end (le_refl a.end)

-- it goes no further than its answer, and so goes on answering
pub second_moved : (containment : Containment) (others : List Extent) → IsRising others → (x y : ℕ) (a : Extent) (o : Option Extent) → SecondAnswers containment others x a → o ≡ (loop_of Forward containment).ask (members_from others x) a →
    y ≤ start_or_end o → SecondAnswers containment others y a
second_moved Containing others r x y a o answers is le = moved_answers others r x y a.start answers o (sym is) le
second_moved ContainedIn others r x y a o answers is le = moved_answers_by_ends others r x y a.end answers o (sym is) le
second_moved NotContaining others r x y a o answers is le = moved_answers others r x y a.start answers o (sym is) le
second_moved NotContainedIn others r x y a o answers is le = moved_answers_by_ends others r x y a.end answers o (sym is) le

second_later : (containment : Containment) (others : List Extent) (x : ℕ) (a b : Extent) → IsFromOn a b → SecondAnswers containment others x a → SecondAnswers containment others x b
second_later Containing others x a b on answers = answers_later others x a.start b.start on.0 answers
second_later ContainedIn others x a b on answers = answers_by_ends_later others x a.end b.end on.1 answers
second_later NotContaining others x a b on answers = answers_later others x a.start b.start on.0 answers
second_later NotContainedIn others x a b on answers = answers_by_ends_later others x a.end b.end on.1 answers

rises : (containment : Containment) → IsPlace (loop_of Forward containment).place
rises Containing = end_is_place
rises ContainedIn = start_is_place
rises NotContaining = start_is_place
rises NotContainedIn = end_is_place

right : (containment : Containment) → ForwardIsRight (loop_of Forward containment)
right Containing = containing_is_right
right ContainedIn = contained_in_is_right
right NotContaining = not_containing_is_right
right NotContainedIn = not_contained_in_is_right

-- what the first operand's reader gives after a member is what the whole list gives
go_by : (containment : Containment) (members : List Extent) → IsRising members → (x next : ℕ) (a : Extent) → Has members a → x ≤ a.start → (loop_of Forward containment).place a < next →
    first_from (loop_of Forward containment) (members_from members x) next ≡ first_from (loop_of Forward containment) members next
go_by Containing members r x next a m le lt = agrees_by_ends members x next (λ c n far. let on = (from_by_place (λ d. d.end) end_is_place members r a c m n (omega arith)).0 in omega arith)
go_by ContainedIn members r x next a m le lt = agrees members x next (λ c n far. omega arith)
go_by NotContaining members r x next a m le lt = agrees members x next (λ c n far. omega arith)
go_by NotContainedIn members r x next a m le lt = agrees_by_ends members x next (λ c n far. let on = (from_by_place (λ d. d.end) end_is_place members r a c m n (omega arith)).0 in omega arith)

-- the member where a loop stands
at_member : (containment : Containment) (members : List Extent) → IsRising members → (p : ℕ) (a : Extent) → Some a ≡ first_from (loop_of Forward containment) members p → Has members a
at_member containment members r p a is = (found_first (loop_of Forward containment).place members r p a (sym is)).member

module _ (containment : Containment) (text : Text) (e a b : Form) (is : e ≡ containment_form containment a b) where
  kept : IsKept containment (concordance text a) (concordance text b) (concordance text e)
  kept = contain_kept containment e a b is text

  -- the loop begins at the first operand's first member
  pub node_begins : (k : ℕ) (x : Extent) → Some x ≡ first_start (concordance text a) k → IsAt Forward containment (concordance text a) (concordance text e) (first_start (concordance text e) k) x
  node_begins k x found =
      let kind = loop_of Forward containment in
      record {
        found = starts_forward kind.place (λ c. c.start) (rises containment) start_is_place (concordance text a) (concordance_rises text a) k x found;
        answer = ap (λ l. first_from kind l (kind.place x)) (kept Forward)
            ∙ sym (enters_forward kind.place (λ c. c.start) (rises containment) start_is_place (concordance text a) (concordance_rises text a) k (kind.keeps (concordance text b)) x found)
            ∙ sym (ap (λ l. first_start l k) (kept Forward));
      }

  pub node_begins_none : (k : ℕ) → None ≡ first_start (concordance text a) k → None ≡ first_start (concordance text e) k
  node_begins_none k none =
      let kind = loop_of Forward containment in
      enters_forward_none kind.place (λ c. c.start) (rises containment) start_is_place (concordance text a) (concordance_rises text a) k (kind.keeps (concordance text b)) none
      ∙ sym (ap (λ l. first_start l k) (kept Forward))

  -- a turn that goes on: from the member x to an address, and from there to the member y
  module _ (x : Extent) (place_is : Some x ≡ first_from (loop_of Forward containment) (concordance text a) ((loop_of Forward containment).place x)) (o : Option Extent) (asked : o ≡ (loop_of Forward containment).ask (concordance text b) x)
      (next : ℕ) (goes : go_to next ≡ (loop_of Forward containment).move x o) where
    onward : (loop_of Forward containment).place x < next
    onward = (right_forward (loop_of Forward containment) (right containment) (concordance text a) (concordance text b) (concordance_rises text b) x o (go_to next) asked goes).1

    pub go_agrees : (from : ℕ) → from ≤ x.start → first_from (loop_of Forward containment) (members_from (concordance text a) from) next ≡ first_from (loop_of Forward containment) (concordance text a) next
    go_agrees from le = go_by containment (concordance text a) (concordance_rises text a) from next x (at_member containment (concordance text a) (concordance_rises text a) _ x place_is) le onward

    pub go_later : (y : Extent) → Some y ≡ first_from (loop_of Forward containment) (concordance text a) next → (z : ℕ) → SecondAnswers containment (concordance text b) z x → SecondAnswers containment (concordance text b) z y
    go_later y found z answers =
        let f = found_first (loop_of Forward containment).place (concordance text a) (concordance_rises text a) next y (sym found) in
        let lt = onward in
        let far = f.far in
        second_later containment (concordance text b) z x y
        (from_by_place (loop_of Forward containment).place (rises containment) (concordance text a) (concordance_rises text a) x y (at_member containment (concordance text a) (concordance_rises text a) _ x place_is) f.member (omega arith)) answers

-- the places of the two operands
pub record AreOperandPlaces (text : Text) (e a b : Form) (places : List Place) : Type 0 where
  pub fewer : nodes a + nodes b < nodes e
  pub first : Stands text a (take (nodes a) places)
  pub second : Stands text b (drop (nodes a) places)

operand_places : (containment : Containment) (text : Text) (a b : Form) (places : List Place) → StandBelow text (containment_form containment a b) places → AreOperandPlaces text (containment_form containment a b) a b places
operand_places Containing text a b places s = record { fewer = omega arith; first = s.0; second = s.1 }
operand_places ContainedIn text a b places s = record { fewer = omega arith; first = s.0; second = s.1 }
operand_places NotContaining text a b places s = record { fewer = omega arith; first = s.0; second = s.1 }
operand_places NotContainedIn text a b places s = record { fewer = omega arith; first = s.0; second = s.1 }

operands_joined : (containment : Containment) (text : Text) (a b : Form) (places : List Place) → Stands text a (take (nodes a) places) → Stands text b (drop (nodes a) places) → StandBelow text (containment_form containment a b) places
operands_joined Containing text a b places s t = (s, t)
operands_joined ContainedIn text a b places s t = (s, t)
operands_joined NotContaining text a b places s t = (s, t)
operands_joined NotContainedIn text a b places s t = (s, t)

first_of : (containment : Containment) (text : Text) (a b : Form) (places : List Place) (k : ℕ) → TellsFrom text (containment_form containment a b) places k → AnswersFrom (concordance text a) (start_at (take (nodes a) places)) k
first_of Containing text a b places k t = t.0
first_of ContainedIn text a b places k t = t.0
first_of NotContaining text a b places k t = t.0
first_of NotContainedIn text a b places k t = t.0

second_of : (containment : Containment) (text : Text) (a b : Form) (places : List Place) (k : ℕ) → TellsFrom text (containment_form containment a b) places k → (m : Extent) → first_start (concordance text a) k ≡ Some m →
    SecondAnswers containment (concordance text b) (start_at (drop (nodes a) places)) m
second_of Containing text a b places k t m found = answers_later (concordance text b) (start_at (drop (nodes a) places)) k m.start (found_first (λ c. c.start) (concordance text a) (concordance_rises text a) k m found).far t.1
second_of ContainedIn text a b places k t m found = IfSome-at (λ c. AnswersByEnds (concordance text b) (start_at (drop (nodes a) places)) c.end) (first_start (concordance text a) k) m found t.1
second_of NotContaining text a b places k t m found = answers_later (concordance text b) (start_at (drop (nodes a) places)) k m.start (found_first (λ c. c.start) (concordance text a) (concordance_rises text a) k m found).far t.1
second_of NotContainedIn text a b places k t m found = IfSome-at (λ c. AnswersByEnds (concordance text b) (start_at (drop (nodes a) places)) c.end) (first_start (concordance text a) k) m found t.1

tell_at : (containment : Containment) (text : Text) (a b : Form) (places : List Place) (m : Extent) → start_at (take (nodes a) places) ≤ m.start → SecondAnswers containment (concordance text b) (start_at (drop (nodes a) places)) m →
    Tell text (containment_form containment a b) (On m) places
tell_at Containing text a b places m le answers =
    (answers_behind (concordance text a) (start_at (take (nodes a) places)) (m.start + 1) (omega arith), answers_later (concordance text b) (start_at (drop (nodes a) places)) m.start (m.start + 1) (omega arith) answers)
tell_at ContainedIn text a b places m le answers =
    (answers_behind (concordance text a) (start_at (take (nodes a) places)) (m.start + 1) (omega arith), answers_by_ends_later (concordance text b) (start_at (drop (nodes a) places)) m.end (m.end + 1) (omega arith) answers)
tell_at NotContaining text a b places m le answers =
    (answers_behind (concordance text a) (start_at (take (nodes a) places)) (m.start + 1) (omega arith), answers_later (concordance text b) (start_at (drop (nodes a) places)) m.start (m.start + 1) (omega arith) answers)
tell_at NotContainedIn text a b places m le answers =
    (answers_behind (concordance text a) (start_at (take (nodes a) places)) (m.start + 1) (omega arith), answers_by_ends_later (concordance text b) (start_at (drop (nodes a) places)) m.end (m.end + 1) (omega arith) answers)

module _ (containment : Containment) (text : Text) (e a b : Form) (is : e ≡ containment_form containment a b) where
  pub contain_places : (places : List Place) → StandBelow text e places → AreOperandPlaces text e a b places
  contain_places places s = subst (λ f. AreOperandPlaces text f a b places) (sym is) (operand_places containment text a b places (subst (λ f. StandBelow text f places) is s))

  pub contain_first : (places : List Place) (k : ℕ) → TellsFrom text e places k → AnswersFrom (concordance text a) (start_at (take (nodes a) places)) k
  contain_first places k t = first_of containment text a b places k (subst (λ f. TellsFrom text f places k) is t)

  pub contain_second : (places : List Place) (k : ℕ) → TellsFrom text e places k → (m : Extent) → first_start (concordance text a) k ≡ Some m → SecondAnswers containment (concordance text b) (start_at (drop (nodes a) places)) m
  contain_second places k t m found = second_of containment text a b places k (subst (λ f. TellsFrom text f places k) is t) m found

  module _ (first second : List Place) (s : Stands text a first) (t : Stands text b second) where
    pub contain_joined : StandBelow text e (first ++ second)
    contain_joined =
        subst (λ f. StandBelow text f (first ++ second)) (sym is)
        (operands_joined containment text a b (first ++ second) (subst (Stands text a) (sym (take_front (nodes a) first second s.count)) s) (subst (Stands text b) (sym (drop_front (nodes a) first second s.count)) t))

    pub contain_tell : (m : Extent) → start_at first ≤ m.start → SecondAnswers containment (concordance text b) (start_at second) m → Tell text e (On m) (first ++ second)
    contain_tell m le answers =
        subst (λ f. Tell text f (On m) (first ++ second)) (sym is)
        (tell_at containment text a b (first ++ second) m (subst (λ p. start_at p ≤ m.start) (sym (take_front (nodes a) first second s.count)) le)
        (subst (λ p. SecondAnswers containment (concordance text b) (start_at p) m) (sym (drop_front (nodes a) first second s.count)) answers))

-- the places cut in two
pub record IsSplit (containment : Containment) (text : Text) (e a b : Form) (places first second : List Place) (k : ℕ) : Type 0 where
  pub fewer : nodes a + nodes b < nodes e
  pub firsts : Stands text a first
  pub seconds : Stands text b second
  pub answers : AnswersFrom (concordance text a) (start_at first) k
  pub asked : (m : Extent) → first_start (concordance text a) k ≡ Some m → SecondAnswers containment (concordance text b) (start_at second) m

pub contain_split : (containment : Containment) (text : Text) (e a b : Form) → e ≡ containment_form containment a b → (places first second : List Place) (k size : ℕ) → StandBelow text e places → TellsFrom text e places k →
    size ≡ size_of places → first ≡ take size places → second ≡ drop size places → IsSplit containment text e a b places first second k
contain_split containment text e a b is places first second k size s t sized front back =
    let parts = contain_places containment text e a b is places s in
    let n : size ≡ nodes a = sized ∙ sym (size_take (nodes a) places (nodes_some a)) ∙ parts.first.size in
    let at : first ≡ take (nodes a) places = front ∙ ap (λ m. take m places) n in
    let on : second ≡ drop (nodes a) places = back ∙ ap (λ m. drop m places) n in
    record {
      fewer = parts.fewer;
      firsts = subst (Stands text a) (sym at) parts.first;
      seconds = subst (Stands text b) (sym on) parts.second;
      answers = subst (λ p. AnswersFrom (concordance text a) (start_at p) k) (sym at) (contain_first containment text e a b is places k t);
      asked = λ m found. subst (λ p. SecondAnswers containment (concordance text b) (start_at p) m) (sym on) (contain_second containment text e a b is places k t m found);
    }
