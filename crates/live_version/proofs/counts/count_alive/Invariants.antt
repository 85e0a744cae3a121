use Rattle.std.proofs.Common.{◌≡◌, length, filter, take}
use Rattle.live_version.specs.LookUps.{is_alive}
use Rattle.live_version.proofs.counts.count_alive.Given as goal

-- what the ranges so far have is taken off
abbrev pub invariant-loop-range : goal.invariant-loop-range
invariant-loop-range l = l.count ≡ length (filter (is_alive (take l.range-index l.ranges)) l.list)
