use Rattle.std.proofs.Common.{◌≡◌, ◌+◌, ◌≤◌, ◌<◌, length, take, reverse}
use Rattle.gcl_model.specs.Slots.{slot_range, joined_count, tail_count}
use Rattle.live_version.specs.Contents.{ranges_of}
use Rattle.live_version.proofs.version.Version.tail.Given as goal

-- the slots starting at a place are one, and those before it are still to be counted
abbrev pub invariant-loop-at : goal.invariant-loop-at
invariant-loop-at l = record {
  within : l.at < length l.slots;
  ordered : l.first ≤ l.end-inside.last;
  same : tail_count (ranges_of l.slots) + l.at + 1 ≡ joined_count (slot_range l.first l.end-inside.last) (reverse (ranges_of (take l.at l.slots))) + length l.slots;
}

abbrev pub decreases-loop-at : goal.decreases-loop-at
decreases-loop-at l = l.at
