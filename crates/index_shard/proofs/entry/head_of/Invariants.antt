use Rattle.std.proofs.Common.{◌≡◌, ◌≤◌, ◌+◌, ◌-◌, ◌^◌, [], drop}
use Rattle.index_shard.specs.Kept.{leading}
use Rattle.index_shard.proofs.entry.head_of.Given as goal

-- the number so far and the bytes that are left make the whole, and there is room for these
abbrev pub invariant-loop-i : goal.invariant-loop-i
invariant-loop-i l = record {
  read : leading (8 - l.i) l.head (drop l.i l.term) ≡ leading 8 0 l.term;
  room : leading (8 - l.i) (l.head + 1) [] ≤ 2 ^ 64;
}
