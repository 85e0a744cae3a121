use Rattle.std.proofs.Common.{◌-◌, ◌<◌, ◌≤◌, length}
use Rattle.posting_code.proofs.Runs.{IsPassed}
use Rattle.posting_code.proofs.unpack.leap_below.Given as goal

-- the member is this many steps after the first, and is below the number if it is another one
abbrev pub invariant-loop-stop : goal.invariant-loop-stop
invariant-loop-stop l = record {
  passed : IsPassed l.packed l.fn.first.first l.fn.first.at l.stop.steps l.stop.member.first l.stop.member.at;
  within : l.fn.first.at ≤ length l.packed → l.stop.member.at ≤ length l.packed;
  few : l.stop.steps ≤ l.behind;
  below : 0 < l.stop.steps → l.stop.member.first < l.k;
}

abbrev pub decreases-loop-stop : goal.decreases-loop-stop
decreases-loop-stop l = l.behind - l.stop.steps
