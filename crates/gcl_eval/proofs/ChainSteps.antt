-- One operand of a chain more: what the code of a chain keeps from operand to operand, and what it gives.
use Rattle.std.proofs.Common.{◌≡◌, ℕ, ◌<◌, ◌≤◌, List, ◌∷◌, Option, Some, None, IfSome, true, false, drop, length, sym, ap, ◌∙◌, arith}
use Rattle.std.specs.Prelude.{if◌then◌else◌}
use Rattle.std.specs.Option.{option_map, option_and_then}
use Rattle.std.proofs.lemmas.List.{drop_all}
use Rattle.gcl_model.specs.declared.expr.Expr.{Expr}
use Rattle.gcl_model.specs.Extents.{Extent}
use Rattle.gcl_model.specs.Texts.{Text, IsText}
use Rattle.gcl_model.specs.Limits.{address_end, far}
use Rattle.gcl_model.specs.FormOf.{form_of}
use Rattle.gcl_model.specs.Forms.{Form, both, one, seq}
use Rattle.gcl_model.specs.Meaning.{concordance}
use Rattle.gcl_eval.specs.Operands.{operand_forms, operand_lists, AreOperands}
use Rattle.gcl_model.specs.Directions.{near_access, far_access, opposite, farther, between, far_side}
use Rattle.gcl_combine.specs.Directions.{farthest, better, best}
use Rattle.gcl_combine.proofs.BothOf.{farthest-cons}
use Rattle.gcl_eval.specs.Directions.{beside, beyond, walk, join, CanJoin, reaches, passed, resume, next_past, on_again}
use Rattle.gcl_model.specs.declared.direction.Direction.{Direction}
use Rattle.gcl_model.specs.declared.direction.Direction.TheVariants.{Forward, Backward}
use Rattle.gcl_eval.specs.declared.direction.Access.TheVariants.{FirstStart, FirstEnd, LastEnd, LastStart}
use Rattle.gcl_eval.proofs.Found.{access_within, access_proper}
use Rattle.gcl_eval.proofs.FarAccess.{far_access-by_near}
use Rattle.gcl_eval.proofs.ChainRules.{near_access-both, best-nil, best-cons, near_access-one, walk-beside, near_access-seq, far_access-seq}
use Rattle.gcl_eval.proofs.OperandLemmas.{lists_beside}

module _ (direction : Direction) (text : Text) (rest others : List Expr) (x : Expr) (e : rest ≡ beside direction x others) where
  walk_rule : (a : Extent) → walk direction (operand_lists text rest) a ≡ option_and_then (walk direction (operand_lists text others)) (option_and_then (near_access direction (concordance text (form_of x))) (beyond direction a))
  walk_rule a = ap (λ lists. walk direction lists a) (lists_beside direction text rest x others e) ∙ walk-beside direction (concordance text (form_of x)) (operand_lists text others) a

  pub walk_ends : (a : Extent) (all : Option Extent) → walk direction (operand_lists text rest) a ≡ all → None ≡ beyond direction a → None ≡ all
  walk_ends a all kept none = ap (λ o. option_and_then (walk direction (operand_lists text others)) (option_and_then (near_access direction (concordance text (form_of x))) o)) none ∙ sym (walk_rule a) ∙ kept

  pub walk_next : (a : Extent) (all : Option Extent) → walk direction (operand_lists text rest) a ≡ all → (from : ℕ) → Some from ≡ beyond direction a →
      (o : Option Extent) → o ≡ near_access direction (concordance text (form_of x)) from → option_and_then (walk direction (operand_lists text others)) o ≡ all
  walk_next a all kept from goes o is =
      ap (option_and_then (walk direction (operand_lists text others))) (is ∙ ap (λ p. option_and_then (near_access direction (concordance text (form_of x))) p) goes) ∙ sym (walk_rule a) ∙ kept

module _ (direction : Direction) (text : Text) (rest others : List Expr) (x : Expr) (e : rest ≡ x ∷ others) where
  pub farthest_next : (k side : ℕ) (all : Option ℕ) → farthest direction (operand_lists text rest) k side ≡ all →
      (o : Option Extent) → o ≡ near_access direction (concordance text (form_of x)) k → option_and_then (λ a. farthest direction (operand_lists text others) k (farther direction side (far_side direction a))) o ≡ all
  farthest_next k side all kept o is =
      ap (option_and_then (λ a. farthest direction (operand_lists text others) k (farther direction side (far_side direction a)))) is
      ∙ sym (ap (λ es. farthest direction (operand_lists text es) k side) e ∙ farthest-cons direction (concordance text (form_of x)) (operand_lists text others) k side) ∙ kept

  pub best_next : (k : ℕ) (so_far all : Option Extent) → best direction (operand_lists text rest) k so_far ≡ all →
      (o : Option Extent) → o ≡ near_access direction (concordance text (form_of x)) k → best direction (operand_lists text others) k (better direction so_far o) ≡ all
  best_next k so_far all kept o is =
      ap (λ p. best direction (operand_lists text others) k (better direction so_far p)) is
      ∙ sym (ap (λ es. best direction (operand_lists text es) k so_far) e ∙ best-cons direction (concordance text (form_of x)) (operand_lists text others) k so_far) ∙ kept

pub farther_below : (direction : Direction) (side : ℕ) (a : Extent) → side < far → a.end < address_end → farther direction side (far_side direction a) < far
farther_below Forward side a p q = omega arith
farther_below Backward side a p q = omega arith

-- the best of all operands, if none is left
pub best_all : (direction : Direction) (text : Text) (exprs : List Expr) (i k : ℕ) (so_far : Option Extent) → length exprs ≤ i →
    best direction (operand_lists text (drop i exprs)) k so_far ≡ best direction (operand_lists text exprs) k None → so_far ≡ near_access direction (concordance text (one (operand_forms exprs))) k
best_all direction text exprs i k so_far le kept =
    sym (ap (λ es. best direction (operand_lists text es) k so_far) (drop_all i exprs le) ∙ best-nil direction k so_far) ∙ kept ∙ sym (near_access-one direction text (operand_forms exprs) k)

-- both of
module _ (direction : Direction) (text : Text) (exprs : List Expr) (several : AreOperands (operand_forms exprs)) (k : ℕ) where
  pub both_far : (o : Option ℕ) → o ≡ farthest direction (operand_lists text exprs) k k →
      option_and_then (λ far. option_map (λ near. between direction near far) (farthest (opposite direction) (operand_lists text exprs) far far)) o ≡ near_access direction (concordance text (both (operand_forms exprs))) k
  both_far o is =
      ap (option_and_then (λ far. option_map (λ near. between direction near far) (farthest (opposite direction) (operand_lists text exprs) far far))) is
      ∙ sym (near_access-both direction text (operand_forms exprs) several.several k)

  pub both_near : (far : ℕ) → Some far ≡ farthest direction (operand_lists text exprs) k k → (o : Option ℕ) → o ≡ farthest (opposite direction) (operand_lists text exprs) far far →
      option_map (λ near. between direction near far) o ≡ near_access direction (concordance text (both (operand_forms exprs))) k
  both_near far found o is = ap (option_map (λ near. between direction near far)) is ∙ both_far (Some far) found

-- followed by
module _ (direction : Direction) (text : Text) (exprs after before : List Expr) (nearest farthest : Expr)
    (as_near : exprs ≡ beside direction nearest after) (as_far : exprs ≡ beside (opposite direction) farthest before) (k : ℕ) where
  seq_rule : near_access direction (concordance text (seq (operand_forms exprs))) k
      ≡ option_and_then (λ far. option_map (λ near. join direction near far) (walk (opposite direction) (operand_lists text before) far))
      (option_and_then (walk direction (operand_lists text after)) (near_access direction (concordance text (form_of nearest)) k))
  seq_rule = near_access-seq direction text (operand_forms exprs) (concordance text (form_of nearest)) (concordance text (form_of farthest)) (operand_lists text after) (operand_lists text before)
      (lists_beside direction text exprs nearest after as_near) (lists_beside (opposite direction) text exprs farthest before as_far) k

  pub seq_found : (o : Option Extent) → o ≡ near_access direction (concordance text (form_of nearest)) k →
      option_and_then (λ far. option_map (λ near. join direction near far) (walk (opposite direction) (operand_lists text before) far)) (option_and_then (walk direction (operand_lists text after)) o)
      ≡ near_access direction (concordance text (seq (operand_forms exprs))) k
  seq_found o is =
      ap (λ p. option_and_then (λ far. option_map (λ near. join direction near far) (walk (opposite direction) (operand_lists text before) far)) (option_and_then (walk direction (operand_lists text after)) p)) is
      ∙ sym seq_rule

  pub seq_far : (found : Extent) → Some found ≡ near_access direction (concordance text (form_of nearest)) k → (o : Option Extent) → o ≡ walk direction (operand_lists text after) found →
      option_and_then (λ far. option_map (λ near. join direction near far) (walk (opposite direction) (operand_lists text before) far)) o ≡ near_access direction (concordance text (seq (operand_forms exprs))) k
  seq_far found at o is =
      ap (option_and_then (λ far. option_map (λ near. join direction near far) (walk (opposite direction) (operand_lists text before) far))) is ∙ seq_found (Some found) at

  pub seq_near : (found far : Extent) → Some found ≡ near_access direction (concordance text (form_of nearest)) k → Some far ≡ walk direction (operand_lists text after) found →
      (o : Option Extent) → o ≡ walk (opposite direction) (operand_lists text before) far → option_map (λ near. join direction near far) o ≡ near_access direction (concordance text (seq (operand_forms exprs))) k
  seq_near found far at goes o is = ap (option_map (λ near. join direction near far)) is ∙ seq_far found at (Some far) goes

-- followed by, by the far sides
module _ (direction : Direction) (text : Text) (exprs after before : List Expr) (nearest farthest : Expr)
    (as_near : exprs ≡ beside direction nearest after) (as_far : exprs ≡ beside (opposite direction) farthest before) (k : ℕ) where
  far_rule : far_access direction (concordance text (seq (operand_forms exprs))) k
      ≡ option_and_then (λ found. on_again direction (concordance text (seq (operand_forms exprs))) (operand_lists text after) text.first text.next k (walk (opposite direction) (operand_lists text before) found))
      (far_access direction (concordance text (form_of farthest)) k)
  far_rule = far_access-seq direction text (operand_forms exprs) (concordance text (form_of nearest)) (concordance text (form_of farthest)) (operand_lists text after) (operand_lists text before)
      (lists_beside direction text exprs nearest after as_near) (lists_beside (opposite direction) text exprs farthest before as_far) k

  pub far_found : (o : Option Extent) → o ≡ far_access direction (concordance text (form_of farthest)) k →
      option_and_then (λ found. on_again direction (concordance text (seq (operand_forms exprs))) (operand_lists text after) text.first text.next k (walk (opposite direction) (operand_lists text before) found)) o
      ≡ far_access direction (concordance text (seq (operand_forms exprs))) k
  far_found o is =
      ap (option_and_then (λ found. on_again direction (concordance text (seq (operand_forms exprs))) (operand_lists text after) text.first text.next k (walk (opposite direction) (operand_lists text before) found))) is
      ∙ sym far_rule

  far_back : (found : Extent) → Some found ≡ far_access direction (concordance text (form_of farthest)) k → (o : Option Extent) → o ≡ walk (opposite direction) (operand_lists text before) found →
      on_again direction (concordance text (seq (operand_forms exprs))) (operand_lists text after) text.first text.next k o ≡ far_access direction (concordance text (seq (operand_forms exprs))) k
  far_back found at o is = ap (on_again direction (concordance text (seq (operand_forms exprs))) (operand_lists text after) text.first text.next k) is ∙ far_found (Some found) at

  pub far_edge : (found : Extent) → Some found ≡ far_access direction (concordance text (form_of farthest)) k → None ≡ walk (opposite direction) (operand_lists text before) found →
      (o : Option Extent) → o ≡ next_past direction (concordance text (seq (operand_forms exprs))) text.first text.next None → o ≡ far_access direction (concordance text (seq (operand_forms exprs))) k
  far_edge found at none o past = past ∙ far_back found at None none

  module _ (found near : Extent) (at : Some found ≡ far_access direction (concordance text (form_of farthest)) k) (back : Some near ≡ walk (opposite direction) (operand_lists text before) found) where
    pub far_on : (o : Option Extent) → o ≡ walk direction (operand_lists text after) near →
        option_and_then (λ far. if reaches direction k far then Some (join direction near far) else next_past direction (concordance text (seq (operand_forms exprs))) text.first text.next (Some near)) o
        ≡ far_access direction (concordance text (seq (operand_forms exprs))) k
    far_on o is =
        ap (option_and_then (λ far. if reaches direction k far then Some (join direction near far) else next_past direction (concordance text (seq (operand_forms exprs))) text.first text.next (Some near))) is
        ∙ far_back found at (Some near) back

    pub far_reached : (far : Extent) → Some far ≡ walk direction (operand_lists text after) near → reaches direction k far ≡ true → (member : Extent) → member ≡ join direction near far →
        Some member ≡ far_access direction (concordance text (seq (operand_forms exprs))) k
    far_reached far is reached member joined =
        ap Some joined
        ∙ sym (ap (λ b. if b then Some (join direction near far) else next_past direction (concordance text (seq (operand_forms exprs))) text.first text.next (Some near)) reached)
        ∙ far_on (Some far) is

    pub far_short : (far : Extent) → Some far ≡ walk direction (operand_lists text after) near → reaches direction k far ≡ false →
        (o : Option Extent) → o ≡ next_past direction (concordance text (seq (operand_forms exprs))) text.first text.next (Some near) → o ≡ far_access direction (concordance text (seq (operand_forms exprs))) k
    far_short far is short o past =
        past
        ∙ sym (ap (λ b. if b then Some (join direction near far) else next_past direction (concordance text (seq (operand_forms exprs))) text.first text.next (Some near)) short)
        ∙ far_on (Some far) is

can_join : (direction : Direction) (near far : Extent) → (join direction near far).start ≤ (join direction near far).end → CanJoin direction near far
can_join Forward near far le = le
can_join Backward near far le = le

near_proper : (direction : Direction) (text : Text) (form : Form) (k : ℕ) (a : Extent) → Some a ≡ near_access direction (concordance text form) k → a.start ≤ a.end
near_proper Forward text form k a is = access_proper FirstStart text form k a is
near_proper Backward text form k a is = access_proper LastEnd text form k a is

pub joins : (direction : Direction) (text : Text) (form : Form) (k : ℕ) (near far : Extent) → Some (join direction near far) ≡ near_access direction (concordance text form) k → CanJoin direction near far
joins direction text form k near far is = can_join direction near far (near_proper direction text form k (join direction near far) is)

far_proper : (direction : Direction) (text : Text) (form : Form) (k : ℕ) (a : Extent) → Some a ≡ far_access direction (concordance text form) k → a.start ≤ a.end
far_proper Forward text form k a is = access_proper FirstEnd text form k a is
far_proper Backward text form k a is = access_proper LastStart text form k a is

pub joins_far : (direction : Direction) (text : Text) (form : Form) (k : ℕ) (near far : Extent) → Some (join direction near far) ≡ far_access direction (concordance text form) k → CanJoin direction near far
joins_far direction text form k near far is = can_join direction near far (far_proper direction text form k (join direction near far) is)

-- what a chain's own access gives lies within the addresses
pub near_within : (direction : Direction) (text : Text) (form : Form) (k : ℕ) (o : Option Extent) → IsText text → o ≡ near_access direction (concordance text form) k → IfSome o (λ a. a.end < address_end)
near_within Forward text form k o sound is = access_within FirstStart text form k o sound is
near_within Backward text form k o sound is = access_within LastEnd text form k o sound is

-- the other form
pub far_ends : (direction : Direction) (text : Text) (form : Form) (k : ℕ) (o : Option Extent) → o ≡ passed direction (concordance text form) text.next k →
    (p : Option ℕ) → p ≡ resume direction text.first text.next o → option_and_then (near_access direction (concordance text form)) p ≡ far_access direction (concordance text form) k
far_ends direction text form k o is p from =
    ap (option_and_then (near_access direction (concordance text form))) (from ∙ ap (resume direction text.first text.next) is) ∙ sym (far_access-by_near text form direction k)
