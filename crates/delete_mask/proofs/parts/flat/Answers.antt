use Rattle.std.proofs.Common.{◌++◌, sym, ap, ◌∙◌, subst}
use Rattle.std.proofs.lemmas.List.{take_all}
use Rattle.gcl_model.specs.Limits.{address_end}
use Rattle.gcl_model.specs.Slots.{AreRangesWithin}
use Rattle.delete_mask.specs.Parts.{ranges_in}
use Rattle.delete_mask.proofs.PartLemmas.{ranges_more}
use Rattle.delete_mask.proofs.parts.flat.Goals as goal

pub loop-part-preserved : goal.loop-part-preserved
loop-part-preserved c =
    let part = c.part-item.result in
    c.in_ok-extend_from_slice.ensures.items
    ∙ ap (λ l. c.loop-part.ranges.items ++ l) (c.ranges-in-loop-part.ensures.value ∙ c.mask.ensures.value)
    ∙ ap (λ l. l ++ part) c.loop-part.invariant
    ∙ sym (ranges_more c.args.parts.now c.loop-part.part-index part c.loop-part-test.true c.part-item.is)

pub of-requires : goal.of-requires
of-requires c =
    let all = c.loop-part.invariant ∙ ap ranges_in (take_all c.loop-part.part-index c.args.parts.now c.loop-part-test.false) in
    subst (AreRangesWithin 0 address_end) (sym all) c.requires
