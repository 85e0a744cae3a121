use Rattle.std.proofs.Common.{◌≡◌, length}
use Rattle.std.specs.Map.{keys_of}
use Rattle.shard_build.specs.Met.{AreNames, names_of}
use Rattle.shard_build.proofs.lists.clear_all.Given as goal

-- those that are left to be emptied are those that were seen
abbrev pub invariant-loop-last : goal.invariant-loop-last
invariant-loop-last l = record {
  names : AreNames (names_of l.lists.items l.seen.items);
  kept : keys_of l.lists.items ≡ keys_of l.fn.lists.items;
}

abbrev pub decreases-loop-last : goal.decreases-loop-last
decreases-loop-last l = length l.seen.items
