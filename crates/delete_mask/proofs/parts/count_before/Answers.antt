use Rattle.std.proofs.Common.{rules}
use Rattle.std.proofs.lemmas.List.Sorted.{IsPartitionPoint-from_clause, IsPartitionedBy-ltb}
use Rattle.gcl_model.proofs.Lists.{prefix_len_at_point}
use Rattle.delete_mask.specs.Parts.{last_dead}
use Rattle.delete_mask.proofs.PartLemmas.{ends_before, lasts_rise}
use Rattle.delete_mask.proofs.parts.count_before.Goals as goal

pub returns-clause-count : goal.returns-clause-count
returns-clause-count c =
    let p = ends_before c.args.p in
    let xs = c.args.parts.now in
    let point = IsPartitionPoint-from_clause p xs c.partition_point.result c.partition_point.ensures.partitioned (IsPartitionedBy-ltb last_dead xs c.args.p (lasts_rise xs c.requires)) (λ a r f called. search rules) in
    prefix_len_at_point p xs c.partition_point.result c.partition_point.ensures.bound point
