use Rattle.std.proofs.Common.{length, filter, sym, ap, subst, ◌∙◌, arith}
use Rattle.gcl_model.specs.Limits.{address_end}
use Rattle.gcl_model.specs.Slots.{SlotRange, AreRangesWithin}
use Rattle.delete_mask.specs.Masks.{is_within}
use Rattle.live_version.proofs.CountLemmas.{alive_less, all_alive}
use Rattle.live_version.proofs.counts.count_alive.Goals as goal

pub loop-range-init : goal.loop-range-init
loop-range-init c = c.len-count.ensures.value ∙ sym (ap length (all_alive c.args.list.now))

pub overflow_sub-count : goal.overflow_sub-count
overflow_sub-count c =
    let ranges = c.ranges-ranges.result.now in
    let apart = subst (AreRangesWithin 0 address_end) (sym c.ranges-ranges.ensures.value) c.ranges-ranges.ensures.apart in
    let less = alive_less 0 address_end ranges c.loop-range.range-index c.range-item.result c.args.list.now apart c.loop-range-test.true in
    let taken = c.count_within-count.ensures ∙ ap (λ (r : SlotRange). length (filter (is_within r) c.args.list.now)) c.range-item.is in
    let before = c.loop-range.invariant in
    omega (arith, less, taken, before)

pub loop-range-preserved : goal.loop-range-preserved
loop-range-preserved c =
    let ranges = c.ranges-ranges.result.now in
    let apart = subst (AreRangesWithin 0 address_end) (sym c.ranges-ranges.ensures.value) c.ranges-ranges.ensures.apart in
    let less = alive_less 0 address_end ranges c.loop-range.range-index c.range-item.result c.args.list.now apart c.loop-range-test.true in
    let taken = c.count_within-count.ensures ∙ ap (λ (r : SlotRange). length (filter (is_within r) c.args.list.now)) c.range-item.is in
    let before = c.loop-range.invariant in
    omega (arith, less, taken, before)
