use Rattle.std.proofs.Common.{◌≡◌, take, filter}
use Rattle.file_runs.proofs.RunLemmas.{survives}
use Rattle.file_runs.proofs.runs.records_without.Given as goal

-- of the files so far, those that survive
abbrev pub invariant-loop-file : goal.invariant-loop-file
invariant-loop-file l = l.left ≡ filter (survives l.id.0) (take l.file-index l.files)
