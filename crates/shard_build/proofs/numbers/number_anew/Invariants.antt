use Rattle.std.proofs.Common.{◌≤◌, length}
use Rattle.std.specs.Map.{keys_of}
use Rattle.shard_build.specs.Met.{hash_by, told_by}
use Rattle.shard_build.proofs.Numbering.{TellsBehind}
use Rattle.shard_build.proofs.numbers.number_anew.Given as goal

-- the names behind this one are numbered anew
abbrev pub invariant-loop-number : goal.invariant-loop-number
invariant-loop-number l = record {
  within : l.number ≤ length (keys_of l.lists.items);
  tells : TellsBehind (hash_by l.numbers.initial) l.number (told_by l.numbers) (keys_of l.lists.items);
}

abbrev pub decreases-loop-number : goal.decreases-loop-number
decreases-loop-number l = l.number
