use Rattle.std.proofs.Common.{rules}
use Rattle.std.proofs.lemmas.List.Sorted.{IsPartitionPoint-from_clause, IsPartitionedBy-ltb}
use Rattle.gcl_model.proofs.Lists.{prefix_len_at_point}
use Rattle.file_runs.specs.Records.{last_id}
use Rattle.file_runs.proofs.Parts.{ends_before, lasts_rise}
use Rattle.file_runs.proofs.runs.count_before.Goals as goal

pub returns : goal.returns
returns c =
    let p = ends_before c.args.id.0 in
    let xs = c.args.runs.now in
    let point = IsPartitionPoint-from_clause p xs c.partition_point.result c.partition_point.ensures.partitioned (IsPartitionedBy-ltb last_id xs c.args.id.0 (lasts_rise xs c.requires)) (λ a r f called. search rules) in
    prefix_len_at_point p xs c.partition_point.result c.partition_point.ensures.bound point
