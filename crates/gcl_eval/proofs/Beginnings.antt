-- Where the loop of "containing" may begin: at an element after the second operand's first answer.
use Rattle.std.proofs.Common.{◌≡◌, ℕ, ◌+◌, ◌≤◌, leb, Option, Some, None, IfSome, MatchOption, sym, ap, ◌∙◌, subst, arith, filter}
use Rattle.std.proofs.lemmas.Bool.{leb-true, le-leb}
use Rattle.gcl_model.specs.Extents.{Extent, covers}
use Rattle.gcl_model.specs.Texts.{Text}
use Rattle.gcl_model.specs.Forms.{Form, containing}
use Rattle.gcl_model.specs.FormOf.{containment_form}
use Rattle.gcl_model.specs.Meaning.{concordance}
use Rattle.gcl_model.specs.Cost.{cost}
use Rattle.gcl_model.specs.Access.{first_start, first_end}
use Rattle.gcl_model.proofs.Covers.{covered_tells, find_agree_on}
use Rattle.gcl_model.proofs.Minimal.{has_filter, same_truth}
use Rattle.gcl_model.proofs.Meanings.{concordance_rises}
use Rattle.gcl_contain.proofs.Accesses.{end_is_place, found_first, from_by_place}
use Rattle.gcl_contain.proofs.Loops.{starts_forward}
use Rattle.gcl_contain.proofs.Nodes.{containing_list}
use Rattle.gcl_eval.specs.Containments.{IsBeginning, MayBegin}
use Rattle.gcl_eval.specs.Costs.{cost_in, ahead_cost, rounds}
use Rattle.gcl_eval.specs.Directions.{access_of, direction_of}
use Rattle.gcl_model.specs.declared.containment.Containment.{Containment}
use Rattle.gcl_model.specs.declared.containment.Containment.TheVariants.{Containing, ContainedIn, NotContaining, NotContainedIn}
use Rattle.gcl_model.specs.declared.direction.Direction.{Direction}
use Rattle.gcl_eval.specs.declared.direction.Access.{Access}
use Rattle.gcl_eval.specs.declared.direction.Access.TheVariants.{FirstStart, FirstEnd, LastEnd, LastStart}
use Rattle.gcl_eval.proofs.CostLemmas.{cost_in_le}
use Rattle.gcl_eval.proofs.ContainLoops.{IsAt}
use Rattle.gcl_eval.proofs.ContainSteps.{node_enters, node_enters_none}

-- each member of "containing" at or after k holds an answer at or after k, so it ends where the first of these does, or later
pub element_begins : (text : Text) (a b : Form) (k : ℕ) (d : Extent) → Some d ≡ first_start (concordance text b) k → (m : Extent) → Some m ≡ first_end (concordance text a) d.end → k ≤ m.start →
    IsBeginning (concordance text a) (concordance text (containing a b)) k m
element_begins text a b k d answered m behind low =
    let members = concordance text a in
    let others = concordance text b in
    let r = concordance_rises text a in
    let ends = found_first (λ c. c.end) members r d.end m (sym behind) in
    let next = found_first (λ c. c.start) others (concordance_rises text b) k d (sym answered) in
    record {
      found = starts_forward (λ c. c.end) (λ c. c.end) end_is_place end_is_place members r d.end m behind;
      answer = ap (λ list. first_end list m.end) (containing_list text a b)
          ∙ find_agree_on (λ c. leb m.end c.end) (λ c. leb k c.start) (filter (covers others) members) (λ c n.
          let h = has_filter (covers others) members c n in
          same_truth (leb m.end c.end) (leb k c.start)
          (λ e. let on = (from_by_place (λ x. x.end) end_is_place members r m c ends.member h.0 (leb-true m.end c.end e)).0 in le-leb k c.start (omega arith))
          (λ e.
          let w = covered_tells others c h.1 in
          let from = leb-true k c.start e in
          let inner = w.nested.0 in
          let outer = w.nested.1 in
          let later = (next.first w.by w.member (omega arith)).1 in
          le-leb m.end c.end (ends.first c h.0 (omega arith)).1))
          ∙ sym (ap (λ list. first_start list k) (containing_list text a b));
    }

-- the loop is at the member where it may begin
module _ (text : Text) (a b : Form) (k : ℕ) (x : Extent) where
  is_at : (containment : Containment) (wanted : Access) → MayBegin wanted text (containment_form containment a b) k x →
      IsAt (direction_of wanted) containment (concordance text a) (concordance text (containment_form containment a b)) (access_of wanted (concordance text (containment_form containment a b)) k) x
  is_at Containing FirstStart begins = record { found = begins.found; answer = begins.answer }
  is_at ContainedIn FirstStart begins = absurd begins
  is_at NotContaining FirstStart begins = absurd begins
  is_at NotContainedIn FirstStart begins = absurd begins
  is_at containment FirstEnd begins = absurd begins
  is_at containment LastEnd begins = absurd begins
  is_at containment LastStart begins = absurd begins

-- where the loop begins: at the member ahead, else at that of the access
module _ (containment : Containment) (text : Text) (e a b : Form) (is : e ≡ containment_form containment a b) (wanted : Access) (k : ℕ) where
  pub node_begins : (direction : Direction) → direction ≡ direction_of wanted → (ahead : Option Extent) → IfSome ahead (MayBegin wanted text e k) → (x : Extent) →
      MatchOption ahead (Some x ≡ access_of wanted (concordance text a) k) (λ m. Some x ≡ Some m) → IsAt direction containment (concordance text a) (concordance text e) (access_of wanted (concordance text e) k) x
  node_begins direction way None begins x found = node_enters containment text e a b is wanted direction way k x found
  node_begins direction way (Some m) begins x found =
      let same : m ≡ x = let h : Some x ≡ Some m = found in cc in
      subst (λ d. IsAt d containment (concordance text a) (concordance text e) (access_of wanted (concordance text e) k) x) (sym way)
      (subst (λ f. IsAt (direction_of wanted) containment (concordance text a) (concordance text f) (access_of wanted (concordance text f) k) x) (sym is)
      (is_at text a b k x containment wanted (subst (λ f. MayBegin wanted text f k x) is (subst (MayBegin wanted text e k) same begins))))

  pub node_begins_none : (ahead : Option Extent) → MatchOption ahead (None ≡ access_of wanted (concordance text a) k) (λ m. None ≡ Some m) → None ≡ access_of wanted (concordance text e) k
  node_begins_none None found = node_enters_none containment text e a b is wanted k found
  node_begins_none (Some m) found = let h : None ≡ Some m = found in absurd cc

-- what it costs to begin
module _ (text : Text) (most : ℕ) (a b : Form) where
  spared : (accesses : ℕ) → accesses ≤ 4 → 0 + cost_in accesses text most a ≤ cost text most a + cost text most b
  spared accesses le = omega (arith, cost_in_le accesses le text most a)

  ahead_le : (containment : Containment) (wanted : Access) → ahead_cost wanted text most (containment_form containment a b) + cost_in (rounds wanted) text most a ≤ cost text most a + cost text most b
  ahead_le Containing FirstStart = omega (arith, cost_in_le 2 (omega arith) text most a)
  ahead_le ContainedIn FirstStart = spared 2 (omega arith)
  ahead_le NotContaining FirstStart = spared 2 (omega arith)
  ahead_le NotContainedIn FirstStart = spared 2 (omega arith)
  ahead_le containment FirstEnd = spared 4 (omega arith)
  ahead_le containment LastEnd = spared 2 (omega arith)
  ahead_le containment LastStart = spared 4 (omega arith)

pub begins_within : (containment : Containment) (text : Text) (e a b : Form) → e ≡ containment_form containment a b → (wanted : Access) (most entry new : ℕ) →
    new ≤ entry + cost_in (rounds wanted) text most a → new + ahead_cost wanted text most e ≤ entry + (cost text most a + cost text most b)
begins_within containment text e a b is wanted most entry new first =
    let le = ahead_le text most a b containment wanted in
    let same = ap (ahead_cost wanted text most) is in
    omega arith

-- what was spared counts along
pub and_spared : (new before n spared : ℕ) → new ≤ before + n → new + spared ≤ before + spared + n
and_spared new before n spared le = omega arith
