use Rattle.std.proofs.Common.{◌≡◌, ltb, rules, subst, sym}
use Rattle.std.specs.List.{prefix_len}
use Rattle.std.proofs.lemmas.List.Sorted.{IsPartitionPoint-from_clause, IsPartitionedBy-ltb}
use Rattle.gcl_model.specs.Limits.{address_end}
use Rattle.gcl_model.specs.Slots.{SlotRange, AreRangesWithin}
use Rattle.gcl_model.proofs.Lists.{prefix_len_at_point}
use Rattle.delete_mask.proofs.Halving.{lasts_rise}
use Rattle.slot_terms.proofs.Between.{dead_left, left_apart}
use Rattle.slot_terms.proofs.part.ranges_from.Goals as goal

pub returns-clause-dead : goal.returns-clause-dead
returns-clause-dead c =
    let test = λ (r : SlotRange). ltb r.last c.args.p in
    let xs = c.ranges-ranges.result.now in
    let apart = subst (AreRangesWithin 0 address_end) (sym c.ranges-ranges.ensures.value) c.ranges-ranges.ensures.apart in
    let point = IsPartitionPoint-from_clause test xs c.partition_point-before.result c.partition_point-before.ensures.partitioned
    (IsPartitionedBy-ltb (λ (r : SlotRange). r.last) xs c.args.p (lasts_rise 0 address_end xs apart)) (λ a r f called. search rules) in
    let count : c.partition_point-before.result ≡ prefix_len test xs = prefix_len_at_point test xs c.partition_point-before.result c.partition_point-before.ensures.bound point in
    dead_left c.args.mask.now xs c.args.p c.partition_point-before.result c.ranges-ranges.ensures.value c.ranges-ranges.ensures.apart count

pub returns-clause-apart : goal.returns-clause-apart
returns-clause-apart c =
    left_apart c.args.mask.now c.ranges-ranges.result.now c.partition_point-before.result c.ranges-ranges.ensures.value c.ranges-ranges.ensures.apart
