use Rattle.std.proofs.Common.{◌≡◌, ◌++◌, length, take, drop}
use Rattle.file_runs.specs.Records.{ends_from, files_in}
use Rattle.file_runs.proofs.runs.ends_of.Given as goal

-- the ends of the runs so far, and of those that are left, are all
abbrev pub invariant-loop-run : goal.invariant-loop-run
invariant-loop-run l = record {
  count : l.count ≡ length (files_in (take l.run-index l.runs));
  whole : l.ends.items ++ ends_from l.count (drop l.run-index l.runs) ≡ ends_from 0 l.runs;
}
