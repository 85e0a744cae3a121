use Rattle.std.proofs.Common.{take}
use Rattle.std.specs.List.{concat}
use Rattle.index_shard.specs.Kept.{AreEndsOf}
use Rattle.index_shard.proofs.parts.ends_of.Given as goal

-- the ends of the lists so far
abbrev pub invariant-loop-list : goal.invariant-loop-list
invariant-loop-list l = AreEndsOf l.ends (concat (take l.list-index l.lists))
