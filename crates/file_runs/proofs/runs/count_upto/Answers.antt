use Rattle.std.proofs.Common.{ℕ, leb, rules}
use Rattle.std.proofs.lemmas.List.Sorted.{IsPartitionPoint-from_clause, IsPartitionedBy-leb}
use Rattle.gcl_model.proofs.Lists.{prefix_len_at_point}
use Rattle.file_runs.proofs.runs.count_upto.Goals as goal

pub returns : goal.returns
returns c =
    let p = λ (end : ℕ). leb end c.args.i in
    let xs = c.args.ends.now in
    let point = IsPartitionPoint-from_clause p xs c.partition_point.result c.partition_point.ensures.partitioned (IsPartitionedBy-leb (λ (end : ℕ). end) xs c.args.i c.requires) (λ a r f called. search rules) in
    prefix_len_at_point p xs c.partition_point.result c.partition_point.ensures.bound point
