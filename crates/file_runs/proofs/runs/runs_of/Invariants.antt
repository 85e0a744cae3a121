use Rattle.std.proofs.Common.{◌≡◌, ◌++◌, length}
use Rattle.address_space.specs.Runs.{IsFileRun}
use Rattle.std.specs.List.{AllByRecursion}
use Rattle.file_runs.specs.Records.{IsInhabited, files_in}
use Rattle.file_runs.proofs.runs.runs_of.Given as goal

-- the runs so far, and what is left, are the files
abbrev pub invariant-loop-rest : goal.invariant-loop-rest
invariant-loop-rest l = record {
  whole : files_in l.runs.items ++ l.rest ≡ l.files;
  inhabited : AllByRecursion IsInhabited l.runs.items;
  run : IsFileRun l.rest;
}

abbrev pub decreases-loop-rest : goal.decreases-loop-rest
decreases-loop-rest l = length l.rest
