use Rattle.std.proofs.Common.{◌≡◌, length, take}
use Rattle.file_runs.specs.Records.{files_in}
use Rattle.file_runs.proofs.runs.count_of.Given as goal

-- the files of the runs so far
abbrev pub invariant-loop-run : goal.invariant-loop-run
invariant-loop-run l = l.count ≡ length (files_in (take l.run-index l.runs))
