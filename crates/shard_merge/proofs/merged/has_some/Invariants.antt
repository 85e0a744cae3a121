use Rattle.std.proofs.Common.{◌≡◌, drop}
use Rattle.std.specs.List.{concat}
use Rattle.shard_merge.proofs.merged.has_some.Given as goal

-- the lists so far have none
abbrev pub invariant-loop-list : goal.invariant-loop-list
invariant-loop-list l = concat (drop l.list-index l.lists) ≡ concat l.lists
