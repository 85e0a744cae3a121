use Rattle.std.proofs.Common.{◌≤◌, length}
use Rattle.posting_code.proofs.Runs.{IsPassed}
use Rattle.posting_code.proofs.unpack.pass_each.Given as goal

-- the member is this many steps after the first
abbrev pub invariant-loop-step : goal.invariant-loop-step
invariant-loop-step l = record {
  passed : IsPassed l.packed l.fn.head.first l.fn.head.at l.step l.member.first l.member.at;
  within : l.fn.head.at ≤ length l.packed → l.member.at ≤ length l.packed;
}
