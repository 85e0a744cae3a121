use Rattle.std.proofs.Common.{List, length, filter, take, sym, ap, subst, ◌∙◌, arith}
use Rattle.std.proofs.lemmas.List.{take_all}
use Rattle.gcl_model.specs.Limits.{address_end}
use Rattle.gcl_model.specs.Slots.{SlotRange, AreRangesWithin}
use Rattle.delete_mask.specs.Masks.{is_dead}
use Rattle.delete_mask.specs.Parts.{ranges_in}
use Rattle.live_version.specs.LookUps.{is_alive}
use Rattle.live_version.proofs.CountLemmas.{part_less, all_alive}
use Rattle.live_version.proofs.counts.count_left.Goals as goal

pub loop-part-init : goal.loop-part-init
loop-part-init c = c.len-count.ensures.value ∙ sym (ap length (all_alive c.args.list.now))

pub overflow_sub-count : goal.overflow_sub-count
overflow_sub-count c =
    let apart = subst (AreRangesWithin 0 address_end) (sym c.parts-parts.ensures.value) c.parts-parts.ensures.apart in
    let less = part_less c.parts-parts.result.now c.loop-part.part-index c.part-item.result c.args.list.now apart c.loop-part-test.true c.part-item.is in
    let taken = c.count_dead-count.ensures ∙ ap (λ (m : List SlotRange). length (filter (is_dead m) c.args.list.now)) c.mask.ensures.value in
    let before = c.loop-part.invariant in
    omega (arith, less, taken, before)

pub loop-part-preserved : goal.loop-part-preserved
loop-part-preserved c =
    let apart = subst (AreRangesWithin 0 address_end) (sym c.parts-parts.ensures.value) c.parts-parts.ensures.apart in
    let less = part_less c.parts-parts.result.now c.loop-part.part-index c.part-item.result c.args.list.now apart c.loop-part-test.true c.part-item.is in
    let taken = c.count_dead-count.ensures ∙ ap (λ (m : List SlotRange). length (filter (is_dead m) c.args.list.now)) c.mask.ensures.value in
    let before = c.loop-part.invariant in
    omega (arith, less, taken, before)

pub returns : goal.returns
returns c =
    let parts = c.parts-parts.result.now in
    c.loop-part.invariant
    ∙ ap (λ (ps : List (List SlotRange)). length (filter (is_alive (ranges_in ps)) c.args.list.now)) (take_all c.loop-part.part-index parts c.loop-part-test.false)
    ∙ ap (λ (mask : List SlotRange). length (filter (is_alive mask) c.args.list.now)) c.parts-parts.ensures.value
