use Rattle.std.proofs.Common.{ltb, ◌∙◌, ap, rules}
use Rattle.std.specs.List.{prefix_len}
use Rattle.std.proofs.lemmas.List.Sorted.{IsPartitionPoint-from_clause, IsPartitionedBy-ltb}
use Rattle.gcl_model.proofs.Lists.{prefix_len_at_point}
use Rattle.live_version.specs.Contents.{SlotContent}
use Rattle.live_version.proofs.PlaceLemmas.{lasts_rise}
use Rattle.live_version.proofs.version.Version.ended_before.Goals as goal

pub returns-clause-value : goal.returns-clause-value
returns-clause-value c =
    let v = c.args.self.now in
    let p = λ (slot : SlotContent). ltb slot.range.last c.args.k in
    let xs = c.slots.result.now in
    let rise = IsPartitionedBy-ltb (λ (slot : SlotContent). slot.range.last) v.slots c.args.k (lasts_rise v.first v.next v.slots c.slots.ensures.version.apart) in
    let point = IsPartitionPoint-from_clause p xs c.partition_point.result c.partition_point.ensures.partitioned (rw c.slots.ensures.value rise) (λ a r f called. search rules) in
    prefix_len_at_point p xs c.partition_point.result c.partition_point.ensures.bound point ∙ ap (prefix_len p) c.slots.ensures.value
