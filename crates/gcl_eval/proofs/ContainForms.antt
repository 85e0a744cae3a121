-- A containment by its kind and its two operands: its form, its list, its cost.
use Rattle.std.proofs.Common.{◌≡◌, ℕ, ◌<◌, Option, Some, None, IfSome, refl, ap, ◌∙◌, subst, arith, filter}
use Rattle.gcl_model.specs.Extents.{Extent}
use Rattle.gcl_model.specs.Texts.{Text}
use Rattle.gcl_model.specs.Limits.{address_end, far}
use Rattle.gcl_model.specs.FormOf.{containment_form}
use Rattle.gcl_model.specs.Forms.{Form}
use Rattle.gcl_model.specs.WellFormed.{IsWellFormed}
use Rattle.gcl_model.specs.Meaning.{concordance}
use Rattle.gcl_model.specs.Cost.{cost, turns_cost}
use Rattle.gcl_contain.proofs.Nodes.{containing_list, contained_in_list, not_containing_list, not_contained_in_list}
use Rattle.gcl_eval.specs.Containments.{loop_of}
use Rattle.gcl_eval.specs.Directions.{access_of}
use Rattle.gcl_model.specs.declared.containment.Containment.{Containment}
use Rattle.gcl_model.specs.declared.containment.Containment.TheVariants.{Containing, ContainedIn, NotContaining, NotContainedIn}
use Rattle.gcl_eval.specs.declared.direction.Access.{Access}
use Rattle.gcl_model.specs.declared.direction.Direction.{Direction}
use Rattle.gcl_model.specs.declared.direction.Direction.TheVariants.{Forward, Backward}
use Rattle.gcl_eval.proofs.Found.{access_proper}
use Rattle.gcl_eval.proofs.ContainLoops.{IsKept, IsWithin}

-- both operands are well formed
pub record AreBothOperands (a b : Form) : Type 0 where
  pub first : IsWellFormed a
  pub second : IsWellFormed b

parts : (containment : Containment) (a b : Form) → IsWellFormed (containment_form containment a b) → AreBothOperands a b
parts Containing a b w = record { first = w.0; second = w.1 }
parts ContainedIn a b w = record { first = w.0; second = w.1 }
parts NotContaining a b w = record { first = w.0; second = w.1 }
parts NotContainedIn a b w = record { first = w.0; second = w.1 }

kept : (containment : Containment) (text : Text) (a b : Form) (direction : Direction) → concordance text (containment_form containment a b) ≡ filter ((loop_of direction containment).keeps (concordance text b)) (concordance text a)
kept Containing text a b Forward = containing_list text a b
kept Containing text a b Backward = containing_list text a b
kept ContainedIn text a b Forward = contained_in_list text a b
kept ContainedIn text a b Backward = contained_in_list text a b
kept NotContaining text a b Forward = not_containing_list text a b
kept NotContaining text a b Backward = not_containing_list text a b
kept NotContainedIn text a b Forward = not_contained_in_list text a b
kept NotContainedIn text a b Backward = not_contained_in_list text a b

costs : (containment : Containment) (text : Text) (bound : ℕ) (a b : Form) → cost text bound (containment_form containment a b) ≡ turns_cost text a b (cost text bound a) (cost text bound b)
costs Containing text bound a b = refl
costs ContainedIn text bound a b = refl
costs NotContaining text bound a b = refl
costs NotContainedIn text bound a b = refl

module _ (containment : Containment) (e a b : Form) (is : e ≡ containment_form containment a b) where
  pub both_operands : IsWellFormed e → AreBothOperands a b
  both_operands w = parts containment a b (subst IsWellFormed is w)

  pub contain_kept : (text : Text) → IsKept containment (concordance text a) (concordance text b) (concordance text e)
  contain_kept text = λ direction. ap (concordance text) is ∙ kept containment text a b direction

  pub contain_cost : (text : Text) (bound : ℕ) → cost text bound e ≡ turns_cost text a b (cost text bound a) (cost text bound b)
  contain_cost text bound = ap (cost text bound) is ∙ costs containment text bound a b

-- what an access gives is an interval of the addresses
pub access_spans : (access : Access) (text : Text) (form : Form) (k : ℕ) (o : Option Extent) → IfSome o (λ a. a.end < address_end) → o ≡ access_of access (concordance text form) k → IfSome o IsWithin
access_spans access text form k None below is = tt
access_spans access text form k (Some a) below is = record { proper = access_proper access text form k a is; below = below }

pub spans_below : (o : Option Extent) → IfSome o IsWithin → IfSome o (λ b. b.end < far)
spans_below None w = tt
spans_below (Some b) w = let v : IsWithin b = w in let x : b.end < address_end = v.below in omega arith
