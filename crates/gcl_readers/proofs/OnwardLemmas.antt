-- Going on from a member that ends too early, by elements on the way and by the next member.
use Rattle.std.proofs.Common.{◌≡◌, ℕ, ◌+◌, ◌*◌, ◌<◌, ◌≤◌, ◌⊎◌, List, ◌++◌, length, take, drop, Option, Some, None, IfSome, refl, sym, ap, ◌∙◌, subst, arith, inl, inr}
use Rattle.std.proofs.lemmas.Bool.{cases_lt}
use Rattle.std.proofs.lemmas.List.{take-append-drop}
use Rattle.gcl_model.specs.Extents.{Extent, IsRising}
use Rattle.gcl_model.specs.Texts.{Text}
use Rattle.gcl_model.specs.Forms.{Form, Forms, term, seq, no_forms, more_forms}
use Rattle.gcl_model.specs.Meaning.{concordance, operands}
use Rattle.gcl_model.specs.Access.{first_start, first_end}
use Rattle.gcl_model.proofs.Covers.{Has}
use Rattle.gcl_model.proofs.Meanings.{concordance_rises}
use Rattle.gcl_contain.proofs.Accesses.{found_first, none_from, ahead_by_place, from_by_place, end_is_place}
use Rattle.gcl_eval.specs.Elements.{IsElement, IsOnTheWay}
use Rattle.gcl_eval.specs.Members.{members_from}
use Rattle.gcl_readers.specs.declared.front.Front.{Front}
use Rattle.gcl_readers.specs.declared.front.Front.TheVariants.{On}
use Rattle.gcl_readers.specs.declared.front.Place.{Place}
use Rattle.gcl_readers.specs.Agreement.{AllAnswerInOrder}
use Rattle.gcl_readers.specs.Fronts.{IsFrontOf, IsUnknown, front_at}
use Rattle.gcl_readers.specs.MergeCost.{find_cost, cost_below, cost_left}
use Rattle.gcl_readers.specs.Reading.{GoesOn}
use Rattle.gcl_readers.specs.Standing.{Tell, TellsFrom, front_of, starts_at, with_front}
use Rattle.gcl_readers.proofs.Answers.{in_order_later}
use Rattle.gcl_readers.proofs.CostLemmas.{look_cost}
use Rattle.gcl_readers.proofs.EndLemmas.{ends_here, ends_onward, ends_over, first_found}
use Rattle.gcl_readers.proofs.Members.{agrees_by_ends, first_itself, no_first_start}
use Rattle.gcl_readers.proofs.Standings.{proper_text}

-- members up to one that ends before k change nothing of what ends at k or later
passed : (list : List Extent) → IsRising list → (k : ℕ) (m : Extent) → Has list m → m.end < k → first_end (members_from list m.start) k ≡ first_end list k
passed list r k m has short = agrees_by_ends list m.start k (λ c at far. (from_by_place (λ d. d.end) end_is_place list r m c has at (omega (arith, short, far))).0)

-- to the next member
pub goes_to_next : (list : List Extent) → IsRising list → (k : ℕ) (m : Extent) → Has list m → m.end < k → (o : Option Extent) → o ≡ first_start list (m.start + 1) → GoesOn list k m o
goes_to_next list r k m has short None is = ends_over list r k m has short (sym is)
goes_to_next list r k m has short (Some a) is =
    let next = first_found list r (m.start + 1) a (sym is) in
    let left = next.left in
    (first_itself list r a next.member, omega arith, ends_onward list r k m a has short next)

-- to a member on the way
to_member : (list : List Extent) → IsRising list → (k : ℕ) (m : Extent) → Has list m → m.end < k → (a : Extent) → Has list a → IsOnTheWay list (m.start + 1) k a → (k ≤ a.end) ⊎ (a.end < k) → GoesOn list k m (Some a)
to_member list r k m has short a at way (inl far) =
    let later = (ahead_by_place (λ d. d.end) end_is_place list r m a has at (omega (arith, short, far))).0 in
    (first_itself list r a at, later, ends_here list r k a at far ∙ way.reached far ∙ sym (passed list r k m has short))
to_member list r k m has short a at way (inr near) =
    let later = way.later near in
    (first_itself list r a at, omega arith, passed list r k a at near ∙ sym (passed list r k m has short))

pub goes_on_way : (list : List Extent) → IsRising list → (k : ℕ) (m : Extent) → Has list m → m.end < k → (o : Option Extent) → (o ≡ None → first_end list k ≡ None) → IfSome o (IsOnTheWay list (m.start + 1) k) → GoesOn list k m o
goes_on_way list r k m has short None none way = passed list r k m has short ∙ none refl
goes_on_way list r k m has short (Some a) none way =
    to_member list r k m has short a (found_first (λ d. d.end) list r way.place a (sym way.member)).member way (elim (cases_lt a.end k) [ inl lt ↦ inr lt | inr ge ↦ inl ge ])

-- where it starts, if there is one, and else where none starts
abbrev pub reached_at : ℕ → Option Extent → ℕ
reached_at k None = k
reached_at k (Some a) = a.start

pub goes_to : (text : Text) (form : Form) (k : ℕ) (m : Extent) → Has (concordance text form) m → m.end < k → (o : Option Extent) → (o ≡ None → first_end (concordance text form) k ≡ None) → GoesOn (concordance text form) k m o →
    (m.start < reached_at k o) × (o ≡ first_start (concordance text form) (reached_at k o))
goes_to text form k m has short None none goes =
    let proper = proper_text text form m has in
    let list = concordance text form in
    (omega (arith, proper, short), sym (no_first_start list (concordance_rises text form) k (λ d at. let lt : d.end < k = none_from (λ c. c.end) list k (none refl) d at in omega (arith, lt, proper_text text form d at))))
goes_to text form k m has short (Some a) none goes = (goes.1, sym goes.0)

pub front_onward : (list : List Extent) (k : ℕ) (m : Extent) (o : Option Extent) → GoesOn list k m o → IsFrontOf list (front_at o)
front_onward list k m None goes = tt
front_onward list k m (Some a) goes = goes.0

-- behind a later member the operands of "followed by" answer in order, too
pub seq_tell : (text : Text) (form : Form) (forms : Forms) → form ≡ seq forms → (places : List Place) (o : Option Extent) → IfSome o (λ a. AllAnswerInOrder (operands text forms) (starts_at forms places) (a.start + 1)) → Tell text form (front_at o) places
seq_tell text form forms is places o all = subst (λ f. Tell text f (front_at o) places) (sym is) (by_found o all)
  where
    by_found : (o : Option Extent) → IfSome o (λ a. AllAnswerInOrder (operands text forms) (starts_at forms places) (a.start + 1)) → Tell text (seq forms) (front_at o) places
    by_found None all = tt
    by_found (Some a) all = all

pub seq_told : (text : Text) (form : Form) (forms : Forms) → form ≡ seq forms → (places : List Place) (m : Extent) → Tell text form (On m) places → AllAnswerInOrder (operands text forms) (starts_at forms places) (m.start + 1)
seq_told text form forms is places m tells = subst (λ f. Tell text f (On m) places) is tells

pub tell_onward : (text : Text) (form : Form) (forms : Forms) → form ≡ seq forms → (places : List Place) (k : ℕ) (m : Extent) (o : Option Extent) → GoesOn (concordance text form) k m o → Tell text form (On m) places → Tell text form (front_at o) places
tell_onward text form forms is places k m o goes tells = seq_tell text form forms is places o (later o goes)
  where
    later : (o : Option Extent) → GoesOn (concordance text form) k m o → IfSome o (λ a. AllAnswerInOrder (operands text forms) (starts_at forms places) (a.start + 1))
    later None goes = tt
    later (Some a) goes = in_order_later (operands text forms) (starts_at forms places) (m.start + 1) (a.start + 1) (omega (arith, goes.1)) (seq_told text form forms is places m tells)

-- an element's operands, whose readers did not move
pub element_tells : (text : Text) (form : Form) → IsElement form → (places : List Place) (k : ℕ) (a : Extent) → Some a ≡ first_start (concordance text form) k → TellsFrom text form places k → Tell text form (On a) places
element_tells text form el places k a is tells =
    let far = (found_first (λ d. d.start) (concordance text form) (concordance_rises text form) k a (sym is)).far in
    let forms : Forms = more_forms (term el.first) (more_forms (term el.second) no_forms) in
    seq_tell text form forms el.is places (Some a) (in_order_later (operands text forms) (starts_at forms places) k (a.start + 1) (omega (arith, far)) (subst (λ f. TellsFrom text f places k) el.is tells))

-- three look-ups are within what an element takes
pub element_cost : (text : Text) (most : ℕ) (form : Form) → IsElement form → (k : ℕ) (o : Option Extent) (new old below : ℕ) → new ≤ old + 3 * most → new + below ≤ old + below + find_cost text most form k o
element_cost text most form el k o new old below le = subst (λ f. new + below ≤ old + below + find_cost text most f k o) (sym el.is) (omega (arith, le))

-- the same places
pub whole_front : (places : List Place) (front : Front) → with_front (take 1 places ++ drop 1 places) front ≡ with_front places front
whole_front places front = ap (λ p. with_front p front) (take-append-drop 1 places)

-- what an element on the way takes is paid by the members up to it
pub way_cost : (text : Text) (most : ℕ) (form : Form) (places : List Place) (k : ℕ) (m : Extent) (o : Option Extent) → 0 < length places → front_of places ≡ On m → Has (concordance text form) m → m.end < k →
    (o ≡ None → first_end (concordance text form) k ≡ None) → GoesOn (concordance text form) k m o → IsElement form → (new old : ℕ) → new ≤ old + 3 * most →
    new + cost_left text most form (with_front places (front_at o)) ≤ old + cost_left text most form places
way_cost text most form places k m o some on has short none goes el new old le =
    let at = goes_to text form k m has short o none goes in
    subst (λ p. new + cost_left text most form p ≤ old + cost_left text most form places) (whole_front places (front_at o))
    (look_cost text most form places (drop 1 places) (reached_at k o) o some (subst (λ f. IsUnknown f (reached_at k o)) (sym on) at.0) at.1 new old
    (element_cost text most form el (reached_at k o) o new old (cost_below text most form (drop 1 places)) le))

pub paid : (old mid new a b n extra : ℕ) → new + a + extra ≤ mid + b + n → mid ≤ old + extra → new + a ≤ old + b + n
paid old mid new a b n extra le few = omega arith
