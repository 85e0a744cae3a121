-- What a line asks for, once it is read, and what its answer says.
use Rattle.std.specs.Prelude.{◌≡◌, ℕ, ◌+◌, ◌≤◌, ◌<◌, Bool, true, false, List, [], ◌∷◌, length, Option, Some, None, IfSome, ⊤, if◌then◌else◌}
use Rattle.std.specs.Option.{option_map}
use Rattle.gcl_model.specs.Names.{is_name}
use Rattle.live_version.specs.Contents.{VersionContent}
use Rattle.collection.specs.Engines.{EngineContent}
use Rattle.image_file.specs.Images.{CanBeSaved}
use Rattle.gcl_model.specs.Limits.{merge_end, version_end}
use Rattle.standing_query.specs.Watches.{AreWellFormedWatches, WatchListContent}
use Rattle.outside.specs.Contents.{Contents}
use Rattle.script_lang.specs.Lines.{Line}
use Rattle.script_lang.specs.Answers.{merging_line, shards_line}
use Rattle.script_answers.specs.Answers.{Reply, add_reply, answer, asks_query, del_reply, files_lines, names_kept_of_line, names_of_line, open_reply, save_reply, state_merged, telling, unchanged, unwatch_reply, watch_reply, IsRead}
use Rattle.answer_text.specs.Texts.{refusal_lines}
use Rattle.image_read.specs.Answers.{IsReading}
use Rattle.script_answers.specs.States.{State, Keeps}
use Rattle.script_lang.specs.declared.commands.Command.{Command}
use Rattle.script_lang.specs.declared.commands.Command.TheVariants.{Blank, Add as ToAdd, Del, Files as ToList, Merge as ToMerge, Shards, Save as ToSave, Load, Watch as ToWatch, Unwatch as ToUnwatch, Wrong}
use Rattle.script_lang.specs.declared.refusals.Refusal.TheVariants.{Command as NoCommand}
use Rattle.script_answers.specs.inner.Asks.{AsksLine, IsAskOf}
use Rattle.answer_text.specs.Watching.{watching_of}
use Rattle.answer_text.specs.declared.action.Action.{Action}
use Rattle.answer_text.specs.declared.action.Action.TheVariants.{Add, Delete, ListFiles, Merge, CountSlots, Save, Open, Watch, Unwatch, Refuse}
use Rattle.answer_text.specs.declared.answer.Answer.{Answer}
use Rattle.script_answers.specs.declared.task.Task.{Task}
use Rattle.script_answers.specs.declared.task.Task.TheVariants.{Nothing, Ask, Act}
use Rattle.script_answers.specs.declared.limits.Limits.{Limits}
pub use Rattle.answer_text.specs.Given.{answer_lines, edits, is_change, merges}

-- the reply to a line that asks for this, without what an edit changed for the watches
abbrev pub action_reply : Limits → State → Action → Option Reply
action_reply limits state (Add name) = option_map (add_reply limits state name) (state.files name)
action_reply limits state (Delete id) = Some (del_reply state id)
action_reply limits state ListFiles = Some (unchanged state (files_lines state.collection))
action_reply limits state Merge = Some record { lines = merging_line ∷ []; after = state_merged state }
action_reply limits state CountSlots = Some (unchanged state (shards_line (length state.slots) ∷ []))
action_reply limits state (Save name) = Some (save_reply limits state name)
action_reply limits state (Open name) = open_reply limits state name
action_reply limits state (Watch query) = Some (watch_reply state query)
action_reply limits state (Unwatch number) = Some (unwatch_reply state number)
action_reply limits state (Refuse refusal) = Some (unchanged state (refusal_lines refusal))

-- a reply, and what it changed for the watches if an edit was asked for
abbrev pub telling_where : Bool → State → Reply → Reply
telling_where asked state reply = if asked then telling state reply else reply

-- the whole reply to a line that asks for this
abbrev pub told_reply : Limits → State → Action → Option Reply
told_reply limits state action = option_map (telling_where (edits action) state) (action_reply limits state action)

-- the names that it asks the files for
abbrev pub action_names : Action → List (List ℕ)
action_names (Add name) = name ∷ []
action_names (Save name) = name ∷ []
action_names (Open name) = name ∷ []
action_names _ = []

-- the names that it gives another content
abbrev pub action_kept : Action → List (List ℕ)
action_kept (Save name) = name ∷ []
action_kept _ = []

-- what it has as a name is a name
abbrev pub IsNamedAction : Action → Type 0
IsNamedAction (Add name) = is_name name ≡ true
IsNamedAction (Save name) = is_name name ≡ true
IsNamedAction (Open name) = is_name name ≡ true
IsNamedAction _ = ⊤

-- what it opens is read rightly
abbrev pub IsReadByAction : State → Action → Type 0
IsReadByAction state (Open name) = IfSome (state.files name) (λ content. IsReading content (state.images content))
IsReadByAction state _ = ⊤

-- what a command that is no query and not empty asks for
abbrev pub action_of : Command → Option Action
action_of (ToAdd name) = Some (Add name)
action_of (Del id) = Some (Delete id)
action_of ToList = Some ListFiles
action_of ToMerge = Some Merge
action_of Shards = Some CountSlots
action_of (ToSave name) = Some (Save name)
action_of (Load name) = Some (Open name)
action_of (ToWatch query) = Some (Watch query)
action_of (ToUnwatch number) = Some (Unwatch number)
action_of Wrong = Some (Refuse NoCommand)
action_of _ = None

-- what a command asks for
abbrev pub IsTaskFor : Task → Command → Type 0
IsTaskFor Nothing command = command ≡ Blank
IsTaskFor (Ask ask) command = IsAskOf ask command
IsTaskFor (Act action) command = action_of command ≡ Some action

-- a line asks for this, and for no query
pub record IsActionOf (action : Action) (line : Line) : Type 0 where
  pub reply_is : (limits : Limits) (state : State) → answer limits state line ≡ told_reply limits state action
  pub names_are : names_of_line line ≡ action_names action
  pub kept_are : names_kept_of_line line ≡ action_kept action
  pub reads : (state : State) → IsRead state line → IsReadByAction state action
  pub unasked : asks_query line ≡ false

-- an empty line asks for nothing
pub record IsNothing (line : Line) : Type 0 where
  pub reply_is : (limits : Limits) (state : State) → answer limits state line ≡ Some (unchanged state [])
  pub names_are : names_of_line line ≡ []
  pub kept_are : names_kept_of_line line ≡ []

-- what a line asks for
abbrev pub IsTaskOf : Task → Line → Type 0
IsTaskOf Nothing line = IsNothing line
IsTaskOf (Ask ask) line = AsksLine ask line
IsTaskOf (Act action) line = IsActionOf action line

-- what an action has as a name is a name
abbrev pub IsNamedTask : Task → Type 0
IsNamedTask (Act action) = IsNamedAction action
IsNamedTask _ = ⊤

-- the names that a task asks the files for
abbrev pub task_names : Task → List (List ℕ)
task_names (Act action) = action_names action
task_names _ = []

-- the names that it gives another content
abbrev pub task_kept : Task → List (List ℕ)
task_kept (Act action) = action_kept action
task_kept _ = []

-- how many lines are completed by the change that it says
abbrev pub completes : Answer → ℕ
completes given = if is_change given then 1 else 0

-- the engine keeps the state that a reply leaves, and the answer has its lines; if it reports no change, there is none
pub record Follows (reply : Reply) (state : State) (engine : EngineContent) (pending : Bool) (answer : Answer) : Type 0 where
  pub keeps : Keeps engine pending reply.after
  pub lines : reply.lines ≡ answer_lines engine.version answer
  pub still : is_change answer ≡ false → (reply.after.collection ≡ state.collection) × (reply.after.files ≡ state.files)

-- the same, where there is a reply, and the files hold what it leaves
pub record Gives (told : Option Reply) (state : State) (engine : EngineContent) (pending : Bool) (held : Option Contents) (answer : Answer) : Type 0 where
  pub reply : Reply
  pub is : told ≡ Some reply
  pub follows : Follows reply state engine pending answer
  pub files : held ≡ Some reply.after.files

-- A reply to a line that begins or ends a watch: these are the watches after it, the answer has its lines, and it changes nothing else
pub record IsWatchReply (reply : Reply) (state : State) (watches : WatchListContent) (answer : Answer) : Type 0 where
  pub watching : watching_of watches ≡ reply.after.watches
  pub lines : (version : VersionContent) → reply.lines ≡ answer_lines version answer
  pub unchanged : is_change answer ≡ false
  pub collection : reply.after.collection ≡ state.collection
  pub slots : reply.after.slots ≡ state.slots
  pub files : reply.after.files ≡ state.files

-- a line begins one watch at most, of a well formed expression
pub record WatchesOn (old new : WatchListContent) : Type 0 where
  pub well_formed : AreWellFormedWatches old.live → AreWellFormedWatches new.live
  pub next : new.next ≤ old.next + 1

-- what is needed before an action
pub record CanAct (engine : EngineContent) (watches : WatchListContent) : Type 0 where
  pub savable : CanBeSaved engine.version
  pub number : engine.version.number < merge_end
  pub next : watches.next < version_end

-- the same, and the watches are those that the reply leaves
pub record Does (told : Option Reply) (state : State) (engine : EngineContent) (pending : Bool) (held : Option Contents) (watches : WatchListContent) (answer : Answer) : Type 0 where
  pub gives : Gives told state engine pending held answer
  pub watching : watching_of watches ≡ gives.reply.after.watches
