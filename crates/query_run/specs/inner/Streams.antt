-- How much of a source was read, what ends a run over it, and how that is reported.
use Rattle.std.specs.Prelude.{◌≡◌, ℕ, ◌+◌, ◌≤◌, Bool, true, false, List, [], ◌++◌, length, take, Option, Result, Ok, Err, OnOk, IfSome, IsErrOf, ⊤}
use Rattle.std.specs.Io.KnownBytes.{Consumes}
use Rattle.std.specs.Io.KnownBytes.{IsAtEnd}
use Rattle.script_lang.specs.Lines.{Line, lines}
use Rattle.script_lang.specs.Feeds.{Feed}
use Rattle.script_answers.specs.Answers.{names_kept_of, names_of}
use Rattle.script_answers.specs.Stopped.{Ending, finished, read_failed, too_long, write_failed, files_failed, out_of_memory}
use Rattle.script_answers.specs.inner.Service.{Counts, Serves, Stand}
use Rattle.script_answers.specs.declared.limits.Limits.{Limits}
use Rattle.query_run.specs.Runs.{HandsOverMore, TakesAtMost, within}
use Rattle.query_run.specs.declared.status.Status.{Status}
use Rattle.query_run.specs.declared.status.Status.TheVariants.{Done, DoneWithRefusals, ReadFault, WriteFault, FileFault, NoMemory, ScriptTooLong}
use Rattle.query_run.specs.declared.stream_fault.StreamFault.{StreamFault}
use Rattle.query_run.specs.declared.stream_fault.StreamFault.TheVariants.{Read as StreamRead, TooLong as StreamTooLong, Write as StreamWrite, Files as StreamFiles, NoMemory as StreamNoMemory}

-- a piece of `count` bytes went from a source into a feed
pub record FeedsPiece (count : ℕ) (old new : Feed) (left left' : Option (List ℕ)) : Type 0 where
  pub piece : List ℕ
  pub from : Consumes left left' piece
  pub count_is : length piece ≡ count
  pub most_is : new.most ≡ old.most
  pub lines_are : (later : List ℕ) → lines old.most (new.held ++ later) ≡ lines old.most (old.held ++ piece ++ later)
  pub held_few : length new.held ≤ length old.held + length piece

-- `read` bytes of a script were read and `completed` of its lines completed, and what is held comes before the rest
pub record IsFed (most read completed : ℕ) (held script : List ℕ) : Type 0 where
  pub within : read ≤ length script
  pub few : completed ≤ length (lines most script)
  pub lines_are : (later : List ℕ) → lines most (take read script ++ later) ≡ take completed (lines most script) ++ lines most (held ++ later)

-- how a run over a source ended
abbrev pub fault_ending : StreamFault → Ending
fault_ending StreamRead = read_failed
fault_ending StreamTooLong = too_long
fault_ending StreamWrite = write_failed
fault_ending StreamFiles = files_failed
fault_ending StreamNoMemory = out_of_memory

abbrev pub ending_of : {T : Type 0} → Result T StreamFault → Ending
ending_of (Ok _) = finished
ending_of (Err fault) = fault_ending fault

-- the status of a run over a source that ended so, whose answers have a refusal or none
abbrev pub status_of : {T : Type 0} → Result T StreamFault → Bool → Status
status_of (Ok _) false = Done
status_of (Ok _) true = DoneWithRefusals
status_of (Err StreamRead) _ = ReadFault
status_of (Err StreamTooLong) _ = ScriptTooLong
status_of (Err StreamWrite) _ = WriteFault
status_of (Err StreamFiles) _ = FileFault
status_of (Err StreamNoMemory) _ = NoMemory

-- no file failed, and there was memory
abbrev pub IsSure : {T : Type 0} → Result T StreamFault → Type 0
IsSure (Ok _) = ⊤
IsSure (Err StreamRead) = ⊤
IsSure (Err StreamTooLong) = ⊤
IsSure (Err StreamWrite) = ⊤
IsSure (Err StreamFiles) = ⊥
IsSure (Err StreamNoMemory) = ⊥

-- what was read of a script that may have this many bytes: no more, and of a longer one, one byte more; and its count of faults
pub record HasRead {T : Type 0} (most : ℕ) (left left' : Option (List ℕ)) (before now : ℕ) (result : Result T StreamFault) : Type 0 where
  pub took : ¬ IsErrOf result StreamTooLong → TakesAtMost most left left'
  pub ended : OnOk result (IsAtEnd left')
  pub short : OnOk result (IfSome left (λ script. length script ≤ most))
  pub too_long : IsErrOf result StreamTooLong → HandsOverMore most left left'
  pub faults : Counts before now (IsErrOf result StreamRead)

-- of a script that was too long the lines that were served end within the limit
pub record ServesWithin (limits : Limits) (script : List ℕ) (before after : Stand) (old new : Option (List ℕ)) : Type 0 where
  pub served : List Line
  pub rest : List Line
  pub whole : lines limits.line (within limits.script script) ≡ served ++ rest
  pub later : List Line
  pub first : lines limits.line script ≡ served ++ later
  pub serves : Serves limits served before after old new

-- a script in which no line names a file asks for none, and one that saves none leaves what they hold; each keep succeeded, unless the files
-- failed or there was no memory
pub record LeavesFiles {T : Type 0} (most : ℕ) (left : Option (List ℕ)) (untouched unchanged all_kept : Type 0) (result : Result T StreamFault) : Type 0 where
  pub quiet : IfSome left (λ script. names_of (lines most script) ≡ [] → untouched)
  pub unsaved : IfSome left (λ script. names_kept_of (lines most script) ≡ [] → unchanged)
  pub sure : IsSure result → all_kept

-- this many bytes of a script were read, its lines that are completed were served, and what is held comes before the rest
pub record ReadsOn (limits : Limits) (script : List ℕ) (read : ℕ) (held : List ℕ) (before now : Stand) (old new : Option (List ℕ)) : Type 0 where
  pub fed : IsFed limits.line read now.completed held script
  pub come : Serves limits (take now.completed (lines limits.line script)) before now old new
