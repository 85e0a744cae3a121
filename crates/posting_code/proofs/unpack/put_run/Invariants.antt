use Rattle.std.proofs.Common.{◌+◌}
use Rattle.posting_code.proofs.Runs.{IsRun}
use Rattle.posting_code.proofs.unpack.put_run.Given as goal

-- the members so far are there
abbrev pub invariant-loop-i : goal.invariant-loop-i
invariant-loop-i l = IsRun l.packed l.before l.at l.fn.into l.into l.place l.i l.member (l.at + l.i)
