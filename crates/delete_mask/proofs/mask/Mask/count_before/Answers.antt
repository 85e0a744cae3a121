use Rattle.std.proofs.Common.{ltb, ap, ◌∙◌, rules}
use Rattle.gcl_model.specs.Limits.{address_end}
use Rattle.std.specs.List.{prefix_len}
use Rattle.std.proofs.lemmas.List.Sorted.{IsPartitionPoint-from_clause, IsPartitionedBy-ltb}
use Rattle.gcl_model.specs.Slots.{SlotRange}
use Rattle.delete_mask.proofs.Halving.{lasts_rise}
use Rattle.gcl_model.proofs.Lists.{prefix_len_at_point}
use Rattle.delete_mask.proofs.mask.Mask.count_before.Goals as goal

pub returns-clause-count : goal.returns-clause-count
returns-clause-count c =
    let p = λ (r : SlotRange). ltb r.last c.args.p in
    let xs = c.as_slice.result.now in
    let rise = lasts_rise 0 address_end c.self.inside.ranges.items c.self.invariant in
    let point = IsPartitionPoint-from_clause p xs c.partition_point.result c.partition_point.ensures.partitioned
    (rw c.as_slice.ensures.value (IsPartitionedBy-ltb (λ (r : SlotRange). r.last) c.self.inside.ranges.items c.args.p rise)) (λ a r f called. search rules) in
    prefix_len_at_point p xs c.partition_point.result c.partition_point.ensures.bound point
    ∙ ap (prefix_len p) c.as_slice.ensures.value
    ∙ ap (prefix_len p) c.self.view_is
