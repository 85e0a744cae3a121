use Rattle.std.proofs.Common.{leb, ◌∙◌, ap, rules}
use Rattle.std.specs.List.{prefix_len}
use Rattle.std.proofs.lemmas.List.Sorted.{IsPartitionPoint-from_clause, IsPartitionedBy-leb}
use Rattle.gcl_model.proofs.Lists.{prefix_len_at_point}
use Rattle.live_version.specs.Contents.{SlotContent}
use Rattle.live_version.proofs.PlaceLemmas.{firsts_rise}
use Rattle.live_version.proofs.version.Version.begun_upto.Goals as goal

pub returns-clause-value : goal.returns-clause-value
returns-clause-value c =
    let v = c.args.self.now in
    let p = λ (slot : SlotContent). leb slot.range.first c.args.k in
    let xs = c.slots.result.now in
    let rise = IsPartitionedBy-leb (λ (slot : SlotContent). slot.range.first) v.slots c.args.k (firsts_rise v.first v.next v.slots c.slots.ensures.version.apart) in
    let point = IsPartitionPoint-from_clause p xs c.partition_point.result c.partition_point.ensures.partitioned (rw c.slots.ensures.value rise) (λ a r f called. search rules) in
    prefix_len_at_point p xs c.partition_point.result c.partition_point.ensures.bound point ∙ ap (prefix_len p) c.slots.ensures.value
