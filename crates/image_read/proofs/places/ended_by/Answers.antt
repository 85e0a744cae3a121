use Rattle.std.proofs.Common.{rules}
use Rattle.std.proofs.lemmas.List.Sorted.{IsPartitionPoint-from_clause, IsPartitionedBy-ltb}
use Rattle.gcl_model.proofs.Lists.{prefix_len_at_point}
use Rattle.image_read.specs.Stretches.{ends_before}
use Rattle.image_read.specs.declared.places.Stretch.{Stretch}
use Rattle.image_read.proofs.places.ended_by.Goals as goal

pub returns-clause-value : goal.returns-clause-value
returns-clause-value c =
    let p = ends_before c.args.address in
    let row = c.args.stretches.now in
    let rise = IsPartitionedBy-ltb (λ (s : Stretch). s.last) row c.args.address c.requires in
    let point = IsPartitionPoint-from_clause p row c.partition_point.result c.partition_point.ensures.partitioned rise (λ a r f called. search rules) in
    prefix_len_at_point p row c.partition_point.result c.partition_point.ensures.bound point
