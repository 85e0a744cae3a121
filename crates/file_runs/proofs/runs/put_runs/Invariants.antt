use Rattle.std.proofs.Common.{◌≡◌, ◌++◌, take}
use Rattle.std.specs.List.{AllByRecursion}
use Rattle.file_runs.specs.Records.{IsInhabited, files_in}
use Rattle.file_runs.proofs.runs.put_runs.Given as goal

-- the files of the runs so far are put
abbrev pub invariant-loop-run : goal.invariant-loop-run
invariant-loop-run l = record {
  files : files_in l.into.items ≡ files_in l.fn.into.items ++ files_in (take l.run-index l.runs);
  inhabited : AllByRecursion IsInhabited l.fn.into.items → AllByRecursion IsInhabited l.into.items;
}
