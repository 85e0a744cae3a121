-- What a run says of its source, its files and its sink.
use Rattle.std.specs.Prelude.{◌≡◌, Bool, false, ℕ, ◌+◌, ◌≤◌, List, [], length, take, drop, Option, Some, IfSome}
use Rattle.std.specs.Io.KnownBytes.{Appends, Consumes, IsAtEnd}
use Rattle.outside.specs.Contents.{Contents}
use Rattle.script_lang.specs.Lines.{Line, lines, ended, text_of_lines}
use Rattle.collection.specs.Engines.{EngineContent}
use Rattle.script_answers.specs.States.{Images, Keeps, State, greatest_limits, opening}
use Rattle.script_answers.specs.Answers.{answers, state_after, AllAnswered, AreRead, output_by, output, has_refusal_by, names_kept_of, names_of}
use Rattle.script_answers.specs.Stopped.{Ending, GetsPart, HoldsBut, IsAllWritten, IsOfFiles, begun}
use Rattle.script_answers.specs.declared.limits.Limits.{Limits}
use Rattle.gcl_model.specs.Limits.{most_line}
use Rattle.made_corpus.specs.MadeFiles.{made_files}
use Rattle.made_corpus.specs.MadeLines.{made_text}
use Rattle.made_corpus.specs.Summary.{summary}
use Rattle.command_words.specs.declared.options.Made.{Made}
use Rattle.command_words.specs.declared.options.Options.{Options}

-- At the state before the first line and the script: if the words give an address, it is known what the source has left and what the
-- files hold, and of each content that the lines open it is said rightly what it is an image of
abbrev pub WhereTold : Limits → Option ℕ → Option (List ℕ) → Option Contents → (State → List ℕ → Type 0) → Type 0
WhereTold limits first left held P = IfSome first (λ address. IfSome left (λ script. IfSome held (λ contents.
    (images : Images) → AreRead limits (opening address contents images) (lines limits.line script) → P (opening address contents images) script)))

-- every line of the script has an answer, all answers were written, and the files hold what the lines leave; the answers have a refusal
-- line or none
pub record HasAnswered (limits : Limits) (start : State) (script : List ℕ) (refusal : Bool) (held : Option Contents) (old new : Option (List ℕ)) : Type 0 where
  pub all : AllAnswered limits start (lines limits.line script)
  pub written : Appends old new (output_by limits start script)
  pub refusal_is : refusal ≡ has_refusal_by limits start script
  pub files : held ≡ Some (state_after limits start (lines limits.line script)).files

-- the same, the script is within its limit, and it was read to its end
pub record IsAnsweredBy (limits : Limits) (start : State) (script : List ℕ) (refusal : Bool) (left : Option (List ℕ)) (held : Option Contents) (old new : Option (List ℕ)) : Type 0 where
  pub short : length script ≤ limits.script
  pub read : IsAtEnd left
  pub answered : HasAnswered limits start script refusal held old new

-- the same by the limits of a run
abbrev pub IsAnswered : State → List ℕ → Bool → Option (List ℕ) → Option Contents → Option (List ℕ) → Option (List ℕ) → Type 0
IsAnswered = IsAnsweredBy greatest_limits

-- the engine keeps the state after the whole script, and each of its lines is completed
pub record IsLeftBy (limits : Limits) (start : State) (script : List ℕ) (engine : EngineContent) (completed : ℕ) : Type 0 where
  pub keeps : Keeps engine false (state_after limits start (lines limits.line script))
  pub each : completed ≡ length (lines limits.line script)

-- This many lines are completed: the sink got the beginning of the answers to them and to the query that the next line asks, if it asks
-- one, and if no write failed and there was memory, it got all answers to them and no more. The files hold what the lines leave, except for
-- the name that the next line saves, and exactly that if each keep succeeded. If the files failed, the next line names one
pub record StopsAfter (limits : Limits) (start : State) (script : List Line) (completed : ℕ) (how : Ending) (kept : Type 0) (held : Option Contents) (old new : Option (List ℕ)) : Type 0 where
  pub within : completed ≤ length script
  pub part : GetsPart old new (text_of_lines (answers limits start (take (completed + begun (drop completed script)) script)))
  pub all : IsAllWritten how → Appends old new (text_of_lines (answers limits start (take completed script)))
  pub files : HoldsBut (names_kept_of (take 1 (drop completed script))) (state_after limits start (take completed script)).files held
  pub exact : kept → held ≡ Some (state_after limits start (take completed script)).files
  pub named : IsOfFiles how → ¬ (names_of (take 1 (drop completed script)) ≡ [])

-- the source handed over this many bytes
pub record HandsOver (count : ℕ) (old new : Option (List ℕ)) : Type 0 where
  pub taken : List ℕ
  pub from : Consumes old new taken
  pub count_is : length taken ≡ count

-- the source handed over one byte more than this many, and no byte after that
abbrev pub HandsOverMore : ℕ → Option (List ℕ) → Option (List ℕ) → Type 0
HandsOverMore most old new = HandsOver (most + 1) old new

-- the source handed over at most this many bytes
pub record TakesAtMost (most : ℕ) (old new : Option (List ℕ)) : Type 0 where
  pub taken : List ℕ
  pub from : Consumes old new taken
  pub few : length taken ≤ most

-- of a script that is too long, the lines that end within the limit
abbrev pub within : ℕ → List ℕ → List ℕ
within most script = ended (take most script)

-- the state before the first line of a made script: only the made names have bytes
abbrev pub made_opening : ℕ → Made → Images → State
made_opening first made images = opening first (made_files made.start made.count) images

-- At the state before the first line of the made script, if of each content that its lines open it is said rightly what it is an image of:
-- they open none
abbrev pub WhereMade : ℕ → Made → (State → Type 0) → Type 0
WhereMade first made P = (images : Images) → AreRead greatest_limits (made_opening first made images) (lines most_line (made_text made.start made.count)) → P (made_opening first made images)

-- if the words ask for a made corpus
abbrev pub WhereMadeBy : Option Options → (Made → State → Type 0) → Type 0
WhereMadeBy options P = IfSome options (λ (o : Options). IfSome o.made (λ (made : Made). WhereMade o.first made (P made)))

-- what is reported of a made run in place of its output
abbrev pub made_summary : Made → State → List ℕ
made_summary made start = summary made.start made.count (output start (made_text made.start made.count))

-- every line of the made script has an answer, and the summary of the answers was written; they have a refusal line or none
pub record IsSummed (made : Made) (start : State) (refusal : Bool) (old new : Option (List ℕ)) : Type 0 where
  pub all : AllAnswered greatest_limits start (lines most_line (made_text made.start made.count))
  pub written : Appends old new (made_summary made start)
  pub refusal_is : refusal ≡ has_refusal_by greatest_limits start (made_text made.start made.count)

-- every line of the made script has an answer, and what was written so far are the answers; they have a refusal line or none
pub record AreTold (made : Made) (start : State) (refusal : Bool) (written : Option (List ℕ)) : Type 0 where
  pub all : AllAnswered greatest_limits start (lines most_line (made_text made.start made.count))
  pub written_is : written ≡ Some (output start (made_text made.start made.count))
  pub refusal_is : refusal ≡ has_refusal_by greatest_limits start (made_text made.start made.count)
