-- How a run stands, and what becomes of it while some lines are answered.
use Rattle.std.specs.Prelude.{◌≡◌, ℕ, ◌+◌, ◌≤◌, ◌||◌, Bool, List, [], ◌∷◌, ◌++◌, length, Option, Some, Result, Ok, Err, IsErrOf, OnErr, OnOk, ⊤, if◌then◌else◌}
use Rattle.std.specs.List.{list_any}
use Rattle.std.specs.Io.KnownBytes.{Appends}
use Rattle.gcl_model.specs.Limits.{most_readers}
use Rattle.outside.specs.Causes.{Rose}
use Rattle.outside.specs.Contents.{Contents}
use Rattle.image_file.specs.Images.{CanBeSaved}
use Rattle.live_version.specs.StandsFor.{StandsFor}
use Rattle.collection.specs.Engines.{EngineContent}
use Rattle.collection.specs.declared.engine.Opened.{Opened}
use Rattle.standing_query.specs.Watches.{AreWellFormedWatches, WatchListContent}
use Rattle.query_lanes.specs.Readers.{AreOf}
use Rattle.query_lanes.specs.declared.asks.Ask.{Ask}
use Rattle.script_lang.specs.Lines.{Line, text_of_lines}
use Rattle.script_lang.specs.Answers.{is_refusal}
use Rattle.script_answers.specs.States.{State, Keeps}
use Rattle.script_answers.specs.Answers.{answers, state_after, AllAnswered, AreRead}
use Rattle.script_answers.specs.Stopped.{Ending, HoldsBut, IsStopped, finished, write_failed, files_failed, out_of_memory}
use Rattle.script_answers.specs.inner.Asks.{AreAsked}
use Rattle.script_answers.specs.declared.limits.Limits.{Limits}
use Rattle.script_answers.specs.declared.progress.Progress.{Progress}
use Rattle.script_answers.specs.declared.run_fault.RunFault.{RunFault}
use Rattle.script_answers.specs.declared.run_fault.RunFault.TheVariants.{Write, Files, NoMemory}
pub use Rattle.answer_text.specs.Watching.{watched_of, watching_of}

-- How a run stands: how many lines are completed, what the files hold, the engine, whether a merge is pending, the watches, and whether a
-- refusal is among the answers
pub record Stand : Type 0 where
  pub completed : ℕ
  pub held : Option Contents
  pub engine : EngineContent
  pub pending : Bool
  pub watches : WatchListContent
  pub refused : Bool

-- how a run stands whose files hold this
abbrev pub stand : Option Contents → Opened → Progress → Stand
stand held opened progress = record { completed = opened.lines; held = held; engine = opened.engine; pending = progress.pending; watches = progress.watches; refused = progress.refused }

-- the engine keeps the state, and the files hold what it says
pub record IsAt (held : Option Contents) (engine : EngineContent) (pending : Bool) (state : State) : Type 0 where
  pub files : held ≡ Some state.files
  pub keeps : Keeps engine pending state

-- the same of a run that stands so, and the watches are those of the state
pub record IsAtStand (here : Stand) (state : State) : Type 0 where
  pub files : here.held ≡ Some state.files
  pub keeps : Keeps here.engine here.pending state
  pub watching : watching_of here.watches ≡ state.watches

-- starting at a state, some lines were answered, all answers were written, and the engine and the files keep the state after them
pub record Served (limits : Limits) (state : State) (lines : List Line) (before after : Stand) (old new : Option (List ℕ)) : Type 0 where
  pub answered : AllAnswered limits state lines
  pub at : IsAtStand after (state_after limits state lines)
  pub refused_is : after.refused ≡ (before.refused || list_any is_refusal (answers limits state lines))
  pub written : Appends old new (text_of_lines (answers limits state lines))

-- the same from whatever state the run was at, if what the lines open is read rightly; and each line is completed
pub record Serves (limits : Limits) (lines : List Line) (before after : Stand) (old new : Option (List ℕ)) : Type 0 where
  pub completed : after.completed ≡ before.completed + length lines
  pub served : (state : State) → IsAtStand before state → AreRead limits state lines → Served limits state lines before after old new

-- starting at a state, the first of some lines are completed, and the run ended there
pub record Halted (limits : Limits) (state : State) (lines : List Line) (how : Ending) (kept : Type 0) (before after : Stand) (old new : Option (List ℕ)) : Type 0 where
  pub taken : ℕ
  pub completed : after.completed ≡ before.completed + taken
  pub stopped : IsStopped limits state lines taken after.engine.version how kept after.held old new

-- the same from whatever state the run was at, if what the lines open is read rightly
abbrev pub Halts : Limits → List Line → Ending → Type 0 → Stand → Stand → Option (List ℕ) → Option (List ℕ) → Type 0
Halts limits lines how kept before after old new = (state : State) → IsAtStand before state → AreRead limits state lines → Halted limits state lines how kept before after old new

-- of some lines the first ones were served, the queries of those after them wait for their batch, and the rest is still to come
pub record Goes (limits : Limits) (all rest : List Line) (asks : List Ask) (before after : Stand) (old new : Option (List ℕ)) : Type 0 where
  pub taken : List Line
  pub waiting : List Line
  pub whole : all ≡ taken ++ (waiting ++ rest)
  pub are : AreAsked asks waiting
  pub serves : Serves limits taken before after old new

-- how many merges are pending
abbrev pub merges_pending : Bool → ℕ
merges_pending pending = if pending then 1 else 0

-- an action publishes at most once, counting the merge that it makes pending, and leaves a collection that can be saved
pub record StepsOn (old new : EngineContent) (pending : Bool) : Type 0 where
  pub number : new.version.number + merges_pending pending ≤ old.version.number + 1
  pub savable : CanBeSaved new.version
  pub publisher : new.publisher ≡ old.publisher

-- the change that was to be made is not: the engine and the files are as the state says, except for names that were to be kept
pub record Unmade (names : List (List ℕ)) (kept : Type 0) (state : State) (engine : EngineContent) (held : Option Contents) : Type 0 where
  pub stands : StandsFor engine.version state.collection
  pub files : HoldsBut names state.files held
  pub exact : kept → held ≡ Some state.files

-- what holds of a run between two lines, while some queries wait
pub record IsServing (opened : Opened) (progress : Progress) (waiting : ℕ) : Type 0 where
  pub savable : CanBeSaved opened.engine.version
  pub numbers : opened.engine.version.number + merges_pending progress.pending ≤ opened.lines
  pub asked : progress.asked ≤ opened.lines + waiting
  pub lanes : length opened.readers.items ≤ most_readers
  pub of : AreOf opened.engine.publisher opened.readers.items
  pub watches : AreWellFormedWatches progress.watches.live
  pub numbered : progress.watches.next ≤ opened.lines

-- what a fault that ends a run means
abbrev pub fault_ending : RunFault → Ending
fault_ending Write = write_failed
fault_ending Files = files_failed
fault_ending NoMemory = out_of_memory

abbrev pub ending_of : {T : Type 0} → Result T RunFault → Ending
ending_of (Ok _) = finished
ending_of (Err fault) = fault_ending fault

-- a count of faults has not fallen: it rose if its object is said to have failed, and else it is as it was
pub record Counts (before now : ℕ) (failed : Type 0) : Type 0 where
  pub later : before ≤ now
  pub rose : failed → Rose before now
  pub same : ¬ failed → now ≡ before

-- the count of the sink, and that of the files
abbrev pub CountsSink : {T : Type 0} → ℕ → ℕ → Result T RunFault → Type 0
CountsSink before now result = Counts before now (IsErrOf result Write)

abbrev pub CountsFiles : {T : Type 0} → ℕ → ℕ → Result T RunFault → Type 0
CountsFiles before now result = Counts before now (IsErrOf result Files)

-- no file failed, and there was memory
abbrev pub IsSureOfFiles : {T : Type 0} → Result T RunFault → Type 0
IsSureOfFiles (Ok _) = ⊤
IsSureOfFiles (Err Write) = ⊤
IsSureOfFiles (Err Files) = ⊥
IsSureOfFiles (Err NoMemory) = ⊥

-- Lines that name no file ask for none, and those that save none leave what they hold; each keep succeeded, unless the files failed or there
-- was no memory
pub record KeepsFiles {T : Type 0} (names kept : List (List ℕ)) (untouched unchanged all_kept : Type 0) (result : Result T RunFault) : Type 0 where
  pub quiet : names ≡ [] → untouched
  pub unsaved : kept ≡ [] → unchanged
  pub sure : IsSureOfFiles result → all_kept

-- what a call that asks no file leaves: no fault of theirs, and what was counted meanwhile of the faults of the sink
pub record LeavesSink {T : Type 0} (sink_then sink_now : ℕ) (result : Result T RunFault) : Type 0 where
  pub ours : ¬ IsErrOf result Files
  pub sink : CountsSink sink_then sink_now result

-- what a call leaves of the files, and what was counted meanwhile of the faults of the sink, and of those of the files
pub record Leaves {T : Type 0} (names kept : List (List ℕ)) (untouched unchanged all_kept : Type 0) (sink_then sink_now faults_then faults_now : ℕ) (result : Result T RunFault) : Type 0 where
  pub files : KeepsFiles names kept untouched unchanged all_kept result
  pub sink : CountsSink sink_then sink_now result
  pub faults : CountsFiles faults_then faults_now result

-- A run at a call: its engine and readers, how far it is, the queries that wait for their batch, what the files hold, and what was written
pub record Run : Type 0 where
  pub opened : Opened
  pub progress : Progress
  pub asks : List Ask
  pub held : Option Contents
  pub written : Option (List ℕ)

-- of these
abbrev pub run : Opened → Progress → List Ask → Option Contents → Option (List ℕ) → Run
run opened progress asks held written = record { opened = opened; progress = progress; asks = asks; held = held; written = written }

-- how it stands
abbrev pub stand_of : Run → Stand
stand_of r = stand r.held r.opened r.progress

-- A line came that asks for something: it was served after those that waited, or its query waits with them, and the run goes on. Or the run
-- ended among these lines
pub record Takes {T : Type 0} (limits : Limits) (asks_for : Line → Type 0) (kept : Type 0) (before after : Run) (result : Result T RunFault) : Type 0 where
  pub goes : OnOk result ((waiting rest : List Line) (line : Line) → AreAsked before.asks waiting → asks_for line →
      Goes limits (waiting ++ line ∷ rest) rest after.asks (stand_of before) (stand_of after) before.written after.written)
  pub halts : OnErr result ((waiting rest : List Line) (line : Line) → AreAsked before.asks waiting → asks_for line →
      Halts limits (waiting ++ line ∷ rest) (ending_of result) kept (stand_of before) (stand_of after) before.written after.written)
  pub serving : OnOk result (IsServing after.opened after.progress (length after.asks))
  pub each : OnOk result (after.opened.lines + length after.asks ≡ before.opened.lines + length before.asks + 1)
