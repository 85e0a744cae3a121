use Rattle.std.proofs.Common.{◌≡◌, ◌-◌, length, filter, subst, arith}
use Rattle.gcl_model.specs.Slots.{SlotRange, slot_range}
use Rattle.delete_mask.specs.Masks.{is_within}
use Rattle.live_version.proofs.CountLemmas.{count_to_end}
use Rattle.live_version.proofs.counts.count_within.Goals as goal

pub overflow_sub-result : goal.overflow_sub-result
overflow_sub-result c =
    let xs = c.args.list.now in
    let range = slot_range c.range.inside.first c.range.inside.last in
    let whole = count_to_end range xs c.range.invariant.0 in
    let end = c.rank_of.ensures in
    let begin = c.rank_of-2.ensures in
    omega (arith, whole, end, begin)

pub returns : goal.returns
returns c =
    let xs = c.args.list.now in
    let range = slot_range c.range.inside.first c.range.inside.last in
    let whole = count_to_end range xs c.range.invariant.0 in
    let end = c.rank_of.ensures in
    let begin = c.rank_of-2.ensures in
    let counted : c.rank_of.result - c.rank_of-2.result ≡ length (filter (is_within range) xs) = omega (arith, whole, end, begin) in
    subst (λ (r : SlotRange). c.rank_of.result - c.rank_of-2.result ≡ length (filter (is_within r) xs)) c.range.view_is counted
