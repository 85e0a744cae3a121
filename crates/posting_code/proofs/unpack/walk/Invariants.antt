use Rattle.std.proofs.Common.{◌-◌, ◌≤◌, length}
use Rattle.posting_code.proofs.Runs.{IsPassed}
use Rattle.posting_code.proofs.unpack.walk.Given as goal

-- the member is as many steps after the first as are not left
abbrev pub invariant-loop-left : goal.invariant-loop-left
invariant-loop-left l = record {
  passed : IsPassed l.packed l.fn.head.first l.fn.head.at (l.steps - l.left) l.member.first l.member.at;
  within : l.member.at ≤ length l.packed;
  few : l.left ≤ l.steps;
}

abbrev pub decreases-loop-left : goal.decreases-loop-left
decreases-loop-left l = l.left
