use Rattle.std.proofs.Common.{◌≡◌, ◌++◌, take}
use Rattle.file_runs.proofs.runs.put_shares.Given as goal

-- the runs so far are put
abbrev pub invariant-loop-run : goal.invariant-loop-run
invariant-loop-run l = l.into.items ≡ l.fn.into.items ++ take l.run-index l.runs
