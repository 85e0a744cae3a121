use Rattle.std.proofs.Common.{◌≡◌, ◌++◌, take}
use Rattle.file_runs.proofs.runs.put_records.Given as goal

-- the records so far are put
abbrev pub invariant-loop-record : goal.invariant-loop-record
invariant-loop-record l = l.files ≡ l.fn.files ++ take l.record-index l.records
