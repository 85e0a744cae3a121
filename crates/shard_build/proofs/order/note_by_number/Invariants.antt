use Rattle.std.proofs.Common.{◌+◌, ◌≤◌, length}
use Rattle.shard_build.proofs.Noting.{AreFrom}
use Rattle.shard_build.proofs.order.note_by_number.Given as goal

-- the names starting at the number are noted, and for those before it there is room
abbrev pub invariant-loop-number : goal.invariant-loop-number
invariant-loop-number l = record {
  names : AreFrom l.lists.items l.number l.seen.items;
  room : l.number + l.seen.len ≤ l.seen.cap;
  bound : l.number ≤ length l.lists.items;
}

abbrev pub decreases-loop-number : goal.decreases-loop-number
decreases-loop-number l = l.number
