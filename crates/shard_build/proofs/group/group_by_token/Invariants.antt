use Rattle.std.proofs.Common.{length}
use Rattle.shard_build.specs.Met.{addresses_of}
use Rattle.shard_build.proofs.Grouping.{AreGroups}
use Rattle.shard_build.proofs.group.group_by_token.Given as goal

-- the groups are those of `<file!>` and the tokens so far
abbrev pub invariant-loop-token : goal.invariant-loop-token
invariant-loop-token g l = AreGroups l.base (g.S.TokenSource.left l.fn.source) (g.S.TokenSource.left l.source) l.address (λ cs. addresses_of l.names cs)

abbrev pub decreases-loop-token : goal.decreases-loop-token
decreases-loop-token g l = length (g.S.TokenSource.left l.source)
