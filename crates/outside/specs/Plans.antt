-- The calls at which an object in memory is to fail, and how many were made.
use Rattle.std.specs.Prelude.{◌≡◌, ℕ, ◌+◌, ◌-◌, ◌^◌, min, List, Contains}
use Rattle.outside.specs.declared.fail_list.FailList.{FailList}
use Rattle.outside.specs.declared.source.MemSource.{MemSource}
use Rattle.outside.specs.declared.sink.MemSink.{MemSink}
use Rattle.outside.specs.declared.files.MemFiles.{MemFiles}
use Rattle.outside.specs.declared.files.SureFiles.{SureFiles}

-- the calls at which a source in memory is to fail, and how many were made
abbrev pub source_plan : MemSource → FailList
source_plan s = s.calls

-- those of a sink in memory
abbrev pub sink_plan : MemSink → FailList
sink_plan s = s.calls

-- those of files in memory
abbrev pub files_plan : MemFiles → FailList
files_plan f = f.calls

-- the names and contents that were handed over
abbrev pub sure_entries : SureFiles → List (List ℕ × List ℕ)
sure_entries f = f.held.items

-- how many calls were made after one more; the count stays at its type's end
abbrev pub calls_after : FailList → ℕ
calls_after plan = min (plan.calls + 1) (2 ^ 64 - 1)

-- the next call is to fail
abbrev pub IsDue : FailList → Type 0
IsDue plan = Contains plan.fails.items (calls_after plan)

-- one more call was made, and the same ones are to fail
pub record IsOneCallLater (before after : FailList) : Type 0 where
  pub calls : after.calls ≡ calls_after before
  pub fails : after.fails ≡ before.fails
