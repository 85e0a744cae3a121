-- What a chain's own access in a direction is, by those of its operands.
use Rattle.std.proofs.Common.{◌≡◌, ℕ, ◌≤◌, List, [], ◌∷◌, ◌++◌, Option, Some, None, min, max, refl, sym, ap, ◌∙◌, arith}
use Rattle.std.proofs.Math.Path.{fun_ext}
use Rattle.std.specs.Option.{option_map, option_and_then}
use Rattle.gcl_model.specs.Extents.{Extent}
use Rattle.gcl_model.specs.Texts.{Text}
use Rattle.gcl_model.specs.Forms.{Forms, both, one, seq, forms_count}
use Rattle.gcl_model.specs.Meaning.{concordance, operands}
use Rattle.gcl_model.specs.Access.{first_start, first_end, last_end, last_start}
use Rattle.gcl_combine.specs.Farthest.{end_so_far, start_so_far}
use Rattle.gcl_combine.proofs.BothOf.{first_start-both_so_far, last_end-both_so_far}
use Rattle.gcl_combine.proofs.OneOf.{first_start-one, last_end-one}
use Rattle.gcl_order.specs.Walks.{last_before, walk_forward, walk_backward, forward_again, back_again}
use Rattle.gcl_order.proofs.SeqAccess.{seq_forward, seq_backward}
use Rattle.gcl_order.proofs.SeqFarAccess.{seq_from_last, seq_from_first}
use Rattle.gcl_model.specs.Directions.{near_access, opposite, IsAsFar, between, far_access}
use Rattle.gcl_combine.specs.Directions.{farthest, better, best}
use Rattle.gcl_eval.specs.Directions.{beside, beyond, walk, join, on_again}
use Rattle.gcl_model.specs.declared.direction.Direction.{Direction}
use Rattle.gcl_model.specs.declared.direction.Direction.TheVariants.{Forward, Backward}

-- both of
pub near_access-both : (direction : Direction) (text : Text) (forms : Forms) → 2 ≤ forms_count forms → (k : ℕ) →
    near_access direction (concordance text (both forms)) k
    ≡ option_and_then (λ far. option_map (λ near. between direction near far) (farthest (opposite direction) (operands text forms) far far)) (farthest direction (operands text forms) k k)
near_access-both Forward text forms several k = first_start-both_so_far text forms (omega arith) k
near_access-both Backward text forms several k = last_end-both_so_far text forms (omega arith) k

least_step : (lists : List (List Extent)) (k s : ℕ) → (o : Option Extent) → ((s u : ℕ) → start_so_far lists k s ≡ Some u → u ≤ s) → (u : ℕ) → option_and_then (λ a. start_so_far lists k (min s a.start)) o ≡ Some u → u ≤ s
least_step lists k s None ih u e = absurd cc
least_step lists k s (Some a) ih u e = let le : u ≤ min s a.start = ih (min s a.start) u e in omega arith

start_so_far_le : (lists : List (List Extent)) (k s u : ℕ) → start_so_far lists k s ≡ Some u → u ≤ s
start_so_far_le [] k s u e = let is : s ≡ u = cc in omega arith
start_so_far_le (list ∷ lists) k s u e = least_step lists k s (last_end list k) (start_so_far_le lists k) u e

greatest_step : (lists : List (List Extent)) (k s : ℕ) → (o : Option Extent) → ((s v : ℕ) → end_so_far lists k s ≡ Some v → s ≤ v) → (v : ℕ) → option_and_then (λ a. end_so_far lists k (max s a.end)) o ≡ Some v → s ≤ v
greatest_step lists k s None ih v e = absurd cc
greatest_step lists k s (Some a) ih v e = let le : max s a.end ≤ v = ih (max s a.end) v e in omega arith

end_so_far_ge : (lists : List (List Extent)) (k s v : ℕ) → end_so_far lists k s ≡ Some v → s ≤ v
end_so_far_ge [] k s v e = let is : s ≡ v = cc in omega arith
end_so_far_ge (list ∷ lists) k s v e = greatest_step lists k s (first_start list k) (end_so_far_ge lists k) v e

-- the way back leads to a place as far back as where it began
pub back_is_as_far : (direction : Direction) (lists : List (List Extent)) (far near : ℕ) → Some near ≡ farthest (opposite direction) lists far far → IsAsFar direction near far
back_is_as_far Forward lists far near e = start_so_far_le lists far far near (sym e)
back_is_as_far Backward lists far near e = end_so_far_ge lists far far near (sym e)

-- one of
pub best-nil : (direction : Direction) (k : ℕ) (o : Option Extent) → best direction [] k o ≡ o
best-nil Forward k o = refl
best-nil Backward k o = refl

pub best-cons : (direction : Direction) (list : List Extent) (lists : List (List Extent)) (k : ℕ) (o : Option Extent) →
    best direction (list ∷ lists) k o ≡ best direction lists k (better direction o (near_access direction list k))
best-cons Forward list lists k o = refl
best-cons Backward list lists k o = refl

pub near_access-one : (direction : Direction) (text : Text) (forms : Forms) (k : ℕ) → near_access direction (concordance text (one forms)) k ≡ best direction (operands text forms) k None
near_access-one Forward text forms k = first_start-one text forms k
near_access-one Backward text forms k = last_end-one text forms k

-- followed by
itself : (o : Option Extent) → o ≡ option_and_then (walk_backward []) o
itself None = refl
itself (Some a) = refl

later_first : (x : List Extent) (lists : List (List Extent)) (o : Option Extent) → option_and_then (last_before x) (option_and_then (walk_backward lists) o) ≡ option_and_then (walk_backward (x ∷ lists)) o
later_first x lists None = refl
later_first x lists (Some a) = refl

walk_from_end : (list : List Extent) (lists : List (List Extent)) (a : Extent) → walk_backward (lists ++ list ∷ []) a ≡ option_and_then (walk_backward lists) (last_before list a)
walk_from_end list [] a = itself (last_before list a)
walk_from_end list (x ∷ lists) a = ap (option_and_then (last_before x)) (walk_from_end list lists a) ∙ later_first x lists (last_before list a)

pub walk-beside : (direction : Direction) (list : List Extent) (lists : List (List Extent)) (a : Extent) →
    walk direction (beside direction list lists) a ≡ option_and_then (walk direction lists) (option_and_then (near_access direction list) (beyond direction a))
walk-beside Forward list lists a = refl
walk-beside Backward list lists a = walk_from_end list lists a

pub near_access-seq : (direction : Direction) (text : Text) (forms : Forms) (nearest farthest : List Extent) (after before : List (List Extent)) →
    operands text forms ≡ beside direction nearest after → operands text forms ≡ beside (opposite direction) farthest before → (k : ℕ) →
    near_access direction (concordance text (seq forms)) k
    ≡ option_and_then (λ far. option_map (λ near. join direction near far) (walk (opposite direction) before far)) (option_and_then (walk direction after) (near_access direction nearest k))
near_access-seq Forward text forms nearest farthest after before as_near as_far k = seq_forward text forms nearest farthest after before as_near as_far k
near_access-seq Backward text forms nearest farthest after before as_near as_far k = seq_backward text forms farthest nearest before after as_far as_near k

-- followed by, by the far sides
on_again-forward : (node : List Extent) (after : List (List Extent)) (first next k : ℕ) (o : Option Extent) → forward_again node after first k o ≡ on_again Forward node after first next k o
on_again-forward node after first next k None = refl
on_again-forward node after first next k (Some near) = refl

on_again-backward : (node : List Extent) (after : List (List Extent)) (first next k : ℕ) (o : Option Extent) → back_again node after next k o ≡ on_again Backward node after first next k o
on_again-backward node after first next k None = refl
on_again-backward node after first next k (Some near) = refl

pub far_access-seq : (direction : Direction) (text : Text) (forms : Forms) (nearest farthest : List Extent) (after before : List (List Extent)) →
    operands text forms ≡ beside direction nearest after → operands text forms ≡ beside (opposite direction) farthest before → (k : ℕ) →
    far_access direction (concordance text (seq forms)) k
    ≡ option_and_then (λ found. on_again direction (concordance text (seq forms)) after text.first text.next k (walk (opposite direction) before found)) (far_access direction farthest k)
far_access-seq Forward text forms nearest farthest after before as_near as_far k =
    seq_from_last text forms nearest farthest after before as_near as_far k
    ∙ ap (λ f. option_and_then f (first_end farthest k)) (fun_ext (λ found. on_again-forward (concordance text (seq forms)) after text.first text.next k (walk_backward before found)))
far_access-seq Backward text forms nearest farthest after before as_near as_far k =
    seq_from_first text forms farthest nearest before after as_far as_near k
    ∙ ap (λ f. option_and_then f (last_start farthest k)) (fun_ext (λ found. on_again-backward (concordance text (seq forms)) after text.first text.next k (walk_forward before found)))
