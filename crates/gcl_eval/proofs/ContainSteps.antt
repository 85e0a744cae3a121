-- One turn of a containment's loop more: what the code keeps, what it gives and what it takes.
use Rattle.std.proofs.Common.{◌≡◌, ℕ, ◌+◌, ◌-◌, ◌*◌, ◌<◌, ◌≤◌, min, List, length, Option, Some, None, sym, ◌∙◌, subst, arith}
use Rattle.gcl_model.specs.Extents.{Extent}
use Rattle.gcl_model.specs.Texts.{Text}
use Rattle.gcl_model.specs.FormOf.{containment_form}
use Rattle.gcl_model.specs.Forms.{Form}
use Rattle.gcl_model.specs.Meaning.{concordance}
use Rattle.gcl_model.specs.Cost.{cost}
use Rattle.gcl_contain.specs.Moves.{accept, go_to, finish}
use Rattle.gcl_model.proofs.Meanings.{concordance_rises}
use Rattle.gcl_eval.specs.Containments.{loop_of, goes_by}
use Rattle.gcl_eval.specs.Directions.{access_of, direction_of}
use Rattle.gcl_model.specs.declared.containment.Containment.{Containment}
use Rattle.gcl_eval.specs.declared.direction.Access.{Access}
use Rattle.gcl_model.specs.declared.direction.Direction.{Direction}
use Rattle.gcl_eval.proofs.ContainLoops.{IsAt, turns, turns_le, enters, enters_none, accepts, finishes, ends, goes_on, more_turns, first_alone, and_more, no_more_turns, turns_end, one_turn_more}
use Rattle.gcl_eval.proofs.ContainForms.{contain_kept, contain_cost}

module _ (containment : Containment) (text : Text) (e a b : Form) (is : e ≡ containment_form containment a b) where
  pub node_enters : (wanted : Access) (direction : Direction) → direction ≡ direction_of wanted → (k : ℕ) (x : Extent) → Some x ≡ access_of wanted (concordance text a) k →
      IsAt direction containment (concordance text a) (concordance text e) (access_of wanted (concordance text e) k) x
  node_enters wanted direction way k x found =
      subst (λ d. IsAt d containment (concordance text a) (concordance text e) (access_of wanted (concordance text e) k) x) (sym way)
      (enters containment (concordance text a) (concordance text b) (concordance text e) (concordance_rises text a) (concordance_rises text b) (contain_kept containment e a b is text) wanted k x found)

  pub node_enters_none : (wanted : Access) (k : ℕ) → None ≡ access_of wanted (concordance text a) k → None ≡ access_of wanted (concordance text e) k
  node_enters_none = enters_none containment (concordance text a) (concordance text b) (concordance text e) (concordance_rises text a) (concordance_rises text b) (contain_kept containment e a b is text)

  module _ (direction : Direction) (all : Option Extent) (x : Extent) (reached : IsAt direction containment (concordance text a) (concordance text e) all x)
      (asks : Access) (p : ℕ) (is_question : (list : List Extent) → access_of asks list p ≡ (loop_of direction containment).ask list x) (o : Option Extent) (answered : o ≡ access_of asks (concordance text b) p) where
    asked : o ≡ (loop_of direction containment).ask (concordance text b) x
    asked = answered ∙ is_question (concordance text b)

    pub node_accepts : accept ≡ (loop_of direction containment).move x o → Some x ≡ all
    node_accepts = accepts containment (concordance text a) (concordance text b) (concordance text e) (concordance_rises text a) (concordance_rises text b) (contain_kept containment e a b is text) direction all x reached o asked

    pub node_finishes : finish ≡ (loop_of direction containment).move x o → None ≡ all
    node_finishes = finishes containment (concordance text a) (concordance text b) (concordance text e) (concordance_rises text a) (concordance_rises text b) (contain_kept containment e a b is text) direction all x reached o asked

    module _ (next : ℕ) (goes : go_to next ≡ (loop_of direction containment).move x o) where
      pub node_ends : None ≡ goes_by direction (loop_of direction containment) (concordance text a) next → None ≡ all
      node_ends = ends containment (concordance text a) (concordance text b) (concordance text e) (concordance_rises text a) (concordance_rises text b) (contain_kept containment e a b is text) all x o next direction reached asked goes

      module _ (y : Extent) (found : Some y ≡ goes_by direction (loop_of direction containment) (concordance text a) next) where
        pub node_goes_on : IsAt direction containment (concordance text a) (concordance text e) all y
        node_goes_on = goes_on containment (concordance text a) (concordance text b) (concordance text e) (concordance_rises text a) (concordance_rises text b) (contain_kept containment e a b is text) all x o next direction reached asked goes y found

        pub node_more_turns : turns direction containment (concordance text a) (concordance text b) x + 1 ≤ turns direction containment (concordance text a) (concordance text b) y
        node_more_turns = more_turns containment (concordance text a) (concordance text b) (concordance text e) (concordance_rises text a) (concordance_rises text b) (contain_kept containment e a b is text) all x o next direction reached asked goes y found

        pub fewer_left : min (length (concordance text a)) (length (concordance text b)) - turns direction containment (concordance text a) (concordance text b) y
            < min (length (concordance text a)) (length (concordance text b)) - turns direction containment (concordance text a) (concordance text b) x
        fewer_left = let le = turns_le direction containment (concordance text a) (concordance text b) y in let more = node_more_turns in omega arith

  -- the look-ups that were made
  module _ (bound entry : ℕ) where
    within_cost : (new : ℕ) → new ≤ entry + (min (length (concordance text a)) (length (concordance text b)) + 2) * (cost text bound a + cost text bound b) → new ≤ entry + cost text bound e
    within_cost new le = subst (λ n. new ≤ entry + n) (sym (contain_cost containment e a b is text bound)) le

    pub none_within : (new : ℕ) → new ≤ entry + (cost text bound a + cost text bound b) → new ≤ entry + cost text bound e
    none_within new le = within_cost new (first_alone entry (cost text bound a) (cost text bound b) (min (length (concordance text a)) (length (concordance text b))) new le)

    pub starts_within : (direction : Direction) (x : Extent) (new : ℕ) → new ≤ entry + (cost text bound a + cost text bound b) → new ≤ entry + (cost text bound a + cost text bound b) + turns direction containment (concordance text a) (concordance text b) x * (cost text bound a + cost text bound b)
    starts_within direction x new le = and_more new (entry + (cost text bound a + cost text bound b)) (turns direction containment (concordance text a) (concordance text b) x * (cost text bound a + cost text bound b)) le

    module _ (direction : Direction) (x : Extent) (before : ℕ)
        (so_far : before ≤ entry + (cost text bound a + cost text bound b) + turns direction containment (concordance text a) (concordance text b) x * (cost text bound a + cost text bound b)) where
      pub stops_within : (new : ℕ) → new ≤ before + cost text bound b → new ≤ entry + cost text bound e
      stops_within new asked = within_cost new (no_more_turns entry before (cost text bound a) (cost text bound b) (turns direction containment (concordance text a) (concordance text b) x) (min (length (concordance text a)) (length (concordance text b)))
          so_far (turns_le direction containment (concordance text a) (concordance text b) x) new asked)

      pub ends_within : (new last : ℕ) → new ≤ before + cost text bound b → last ≤ new + cost text bound a → last ≤ entry + cost text bound e
      ends_within new last asked gone = within_cost last (turns_end entry before (cost text bound a) (cost text bound b) (turns direction containment (concordance text a) (concordance text b) x) (min (length (concordance text a)) (length (concordance text b)))
          so_far (turns_le direction containment (concordance text a) (concordance text b) x) new last asked gone)

      pub goes_within : (y : Extent) → turns direction containment (concordance text a) (concordance text b) x + 1 ≤ turns direction containment (concordance text a) (concordance text b) y → (new last : ℕ) → new ≤ before + cost text bound b → last ≤ new + cost text bound a →
          last ≤ entry + (cost text bound a + cost text bound b) + turns direction containment (concordance text a) (concordance text b) y * (cost text bound a + cost text bound b)
      goes_within y more new last asked gone = one_turn_more entry before (cost text bound a) (cost text bound b) (turns direction containment (concordance text a) (concordance text b) x) (turns direction containment (concordance text a) (concordance text b) y)
          so_far more new last asked gone
