use Rattle.std.proofs.Common.{◌+◌, ◌-◌, ◌<◌, ◌≤◌, length}
use Rattle.index_shard.specs.Tables.{RiseWithin}
use Rattle.index_tests.proofs.fingers.every.Given as goal

abbrev pub invariant-loop-at : goal.invariant-loop-at
invariant-loop-at l = record {
  some : 0 < length l.addresses.items;
  within : (l.first ≤ l.at) × (l.at ≤ l.last);
  rising : RiseWithin l.first (l.at + 1) l.addresses.items;
}

abbrev pub decreases-loop-at : goal.decreases-loop-at
decreases-loop-at l = l.last - l.at
