use Rattle.posting_code.proofs.Runs.{IsRun}
use Rattle.posting_code.proofs.unpack.put_each.Given as goal

-- the members so far are there
abbrev pub invariant-loop-i : goal.invariant-loop-i
invariant-loop-i l = IsRun l.packed l.fn.before.value l.fn.before.after l.fn.into l.into l.place l.i l.member.value l.member.after
