use Rattle.std.proofs.Common.{◌≡◌, List, take, drop, sym, ap, ◌∙◌, subst, arith}
use Rattle.std.specs.List.{AllByRecursion}
use Rattle.gcl_model.specs.Limits.{address_end}
use Rattle.gcl_model.specs.Slots.{SlotRange, AreRangesWithin}
use Rattle.delete_mask.specs.Masks.{IsApart, with_range}
use Rattle.delete_mask.specs.Parts.{IsInhabited, ranges_in}
use Rattle.delete_mask.proofs.Joining.{AreRangesWithin-with_range}
use Rattle.delete_mask.proofs.PartLemmas.{kept_parts, made_of, near_apart, near_within}
use Rattle.delete_mask.proofs.parts.parts_with.Goals as goal

pub flat-requires : goal.flat-requires
flat-requires c =
    let parts = c.args.parts.now in
    let at = c.around-at.result.0 in
    let upto = c.around-at.result.1 in
    let near : c.split_at-2.result.1.now ≡ drop at (take upto parts) = c.split_at-2.ensures.back ∙ ap (drop at) c.split_at.ensures.front in
    subst (λ (ps : List (List SlotRange)). AreRangesWithin 0 address_end (ranges_in ps)) (sym near) (near_within parts at upto c.requires.parts)

pub with-requires : goal.with-requires
with-requires c =
    let parts = c.args.parts.now in
    let at = c.around-at.result.0 in
    let upto = c.around-at.result.1 in
    let near : c.split_at-2.result.1.now ≡ drop at (take upto parts) = c.split_at-2.ensures.back ∙ ap (drop at) c.split_at.ensures.front in
    subst (IsApart c.args.range) (sym (c.in_ok-flat.ensures ∙ ap ranges_in near)) (near_apart parts c.args.range at upto c.requires.apart)

pub in_parts-requires : goal.in_parts-requires
in_parts-requires c = subst (AreRangesWithin 0 address_end) (sym c.ranges-2.ensures.value) c.ranges-2.ensures.apart

pub returns-clause-value : goal.returns-clause-value
returns-clause-value c =
    let parts = c.args.parts.now in
    let at = c.around-at.result.0 in
    let upto = c.around-at.result.1 in
    let before : c.split_at-2.result.0.now ≡ take at (take upto parts) = c.split_at-2.ensures.front ∙ ap (take at) c.split_at.ensures.front in
    let near : c.split_at-2.result.1.now ≡ drop at (take upto parts) = c.split_at-2.ensures.back ∙ ap (drop at) c.split_at.ensures.front in
    let now : c.ranges-2.result.now ≡ with_range c.args.range (ranges_in c.split_at-2.result.1.now) = c.ranges-2.ensures.value ∙ c.in_ok-joined.ensures.value ∙ ap (with_range c.args.range) c.in_ok-flat.ensures in
    c.in_ok-made.ensures.value
    ∙ made_of parts c.split_at-2.result.0.now c.split_at-2.result.1.now c.split_at.result.1.now c.args.range c.ranges-2.result.now at upto
    c.requires.parts c.around-at.ensures.some c.around-at.ensures.clear c.around-at.ensures.begun before near c.split_at.ensures.back now

pub returns-clause-parts : goal.returns-clause-parts
returns-clause-parts c =
    let parts = c.args.parts.now in
    let at = c.around-at.result.0 in
    let upto = c.around-at.result.1 in
    let before : c.split_at-2.result.0.now ≡ take at (take upto parts) = c.split_at-2.ensures.front ∙ ap (take at) c.split_at.ensures.front in
    let near : c.split_at-2.result.1.now ≡ drop at (take upto parts) = c.split_at-2.ensures.back ∙ ap (drop at) c.split_at.ensures.front in
    let now : c.ranges-2.result.now ≡ with_range c.args.range (ranges_in c.split_at-2.result.1.now) = c.ranges-2.ensures.value ∙ c.in_ok-joined.ensures.value ∙ ap (with_range c.args.range) c.in_ok-flat.ensures in
    let value =
    c.in_ok-made.ensures.value
    ∙ made_of parts c.split_at-2.result.0.now c.split_at-2.result.1.now c.split_at.result.1.now c.args.range c.ranges-2.result.now at upto
    c.requires.parts c.around-at.ensures.some c.around-at.ensures.clear c.around-at.ensures.begun before near c.split_at.ensures.back now in
    let kept = kept_parts parts at upto c.requires.parts.inhabited in
    record {
      inhabited = c.in_ok-made.ensures.inhabited (subst (AllByRecursion IsInhabited) (sym before) kept.0) (subst (AllByRecursion IsInhabited) (sym c.split_at.ensures.back) kept.1);
      apart = subst (AreRangesWithin 0 address_end) (sym value) (AreRangesWithin-with_range 0 address_end (ranges_in parts) c.args.range c.requires.parts.apart c.requires.apart (omega arith) c.around-at.ensures.some c.around-at.ensures.in_range);
    }
