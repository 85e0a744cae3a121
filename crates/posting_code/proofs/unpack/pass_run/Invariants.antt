use Rattle.std.proofs.Common.{◌+◌}
use Rattle.posting_code.proofs.Runs.{IsPassed}
use Rattle.posting_code.proofs.unpack.pass_run.Given as goal

-- the member is this many after the first
abbrev pub invariant-loop-i : goal.invariant-loop-i
invariant-loop-i l = IsPassed l.packed l.before l.at l.i l.member (l.at + l.i)
