-- What holds if the first of some lines are completed, and no more.
use Rattle.std.specs.Prelude.{◌≡◌, ℕ, ◌+◌, ◌≤◌, List, [], ◌∷◌, length, take, drop, Contains, Option, Some, ◌⊎◌, ⊤, if◌then◌else◌}
use Rattle.std.specs.Io.KnownBytes.{Appends}
use Rattle.outside.specs.Contents.{Contents}
use Rattle.script_lang.specs.Lines.{Line, text_of_lines}
use Rattle.live_version.specs.Contents.{VersionContent}
use Rattle.live_version.specs.StandsFor.{StandsFor}
use Rattle.script_answers.specs.States.{State}
use Rattle.script_answers.specs.Answers.{answers, asks_query, state_after, names_kept_of, names_of}
use Rattle.script_answers.specs.declared.limits.Limits.{Limits}
pub use Rattle.answer_text.specs.Puts.{GetsPart}

-- how a run ended, or a part of it
pub data Ending : Type 0 where
  finished : Ending
  read_failed : Ending
  too_long : Ending
  write_failed : Ending
  files_failed : Ending
  out_of_memory : Ending

-- the sink took all that it was given, and there was memory for all that it was to be given
abbrev pub IsAllWritten : Ending → Type 0
IsAllWritten finished = ⊤
IsAllWritten read_failed = ⊤
IsAllWritten too_long = ⊤
IsAllWritten files_failed = ⊤
IsAllWritten write_failed = ⊥
IsAllWritten out_of_memory = ⊥

-- a file could not be loaded or kept
abbrev pub IsOfFiles : Ending → Type 0
IsOfFiles files_failed = ⊤
IsOfFiles _ = ⊥

-- the files hold this under every name except some
pub record HoldsBut (names : List (List ℕ)) (files : Contents) (held : Option Contents) : Type 0 where
  pub contents : Contents
  pub is : held ≡ Some contents
  pub same : (name : List ℕ) → (contents name ≡ files name) ⊎ Contains names name

-- how many of the lines that are not completed may be answered in part: the first one, if it asks a query
abbrev pub begun : List Line → ℕ
begun [] = 0
begun (line ∷ rest) = if asks_query line then 1 else 0

-- The first lines are completed, and their number is this: the version stands for the collection after them, and the sink got the beginning
-- of the answers to them and to the query that the next line asks, if it asks one. If no write failed and there was memory, it got all
-- answers to them and no more. The files hold what the lines leave, except for the name that the next line saves, and exactly that if each
-- keep succeeded. If the files failed, the next line names one
pub record IsStopped (limits : Limits) (start : State) (script : List Line) (completed : ℕ) (version : VersionContent) (how : Ending) (kept : Type 0) (held : Option Contents)
    (old new : Option (List ℕ)) : Type 0 where
  pub within : completed ≤ length script
  pub stands : StandsFor version (state_after limits start (take completed script)).collection
  pub part : GetsPart old new (text_of_lines (answers limits start (take (completed + begun (drop completed script)) script)))
  pub all : IsAllWritten how → Appends old new (text_of_lines (answers limits start (take completed script)))
  pub files : HoldsBut (names_kept_of (take 1 (drop completed script))) (state_after limits start (take completed script)).files held
  pub exact : kept → held ≡ Some (state_after limits start (take completed script)).files
  pub named : IsOfFiles how → ¬ (names_of (take 1 (drop completed script)) ≡ [])
