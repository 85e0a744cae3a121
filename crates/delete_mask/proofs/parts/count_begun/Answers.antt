use Rattle.std.proofs.Common.{rules}
use Rattle.std.proofs.lemmas.List.Sorted.{IsPartitionPoint-from_clause, IsPartitionedBy-leb}
use Rattle.gcl_model.proofs.Lists.{prefix_len_at_point}
use Rattle.delete_mask.specs.Parts.{first_dead}
use Rattle.delete_mask.proofs.PartLemmas.{has_begun, firsts_rise}
use Rattle.delete_mask.proofs.parts.count_begun.Goals as goal

pub returns-clause-count : goal.returns-clause-count
returns-clause-count c =
    let p = has_begun c.args.p in
    let xs = c.args.parts.now in
    let point = IsPartitionPoint-from_clause p xs c.partition_point.result c.partition_point.ensures.partitioned (IsPartitionedBy-leb first_dead xs c.args.p (firsts_rise xs c.requires)) (λ a r f called. search rules) in
    prefix_len_at_point p xs c.partition_point.result c.partition_point.ensures.bound point
