-- What holds of a run once it has ended, in parts. `run` promises each field of `IsRun`, and the calls below it promise whole parts.
use Rattle.std.specs.Prelude.{◌≡◌, ℕ, ◌≤◌, ◌<◌, ◌⊎◌, false, true, List, [], length, Option, None, Some, IfSome, IsSome, IsSomeAnd, ⊤}
use Rattle.outside.specs.Causes.{Rose}
use Rattle.outside.specs.Contents.{Contents}
use Rattle.script_lang.specs.Lines.{lines}
use Rattle.command_words.specs.Grammar.{options_of}
use Rattle.command_words.specs.declared.options.Options.{Options}
use Rattle.script_answers.specs.States.{greatest_limits}
use Rattle.script_answers.specs.Answers.{names_kept_of, names_of, output_by}
use Rattle.script_answers.specs.Stopped.{GetsPart}
use Rattle.script_answers.specs.declared.limits.Limits.{Limits}
use Rattle.query_run.specs.Runs.{HandsOverMore, IsAnsweredBy, IsSummed, StopsAfter, TakesAtMost, WhereMadeBy, WhereTold, made_summary, within}
use Rattle.query_run.specs.Statuses.{IsCutOff, IsFinished, IsSureOfFiles, ending_of, most_taken}
use Rattle.query_run.specs.Words.{first_of}
use Rattle.query_run.specs.declared.status.Status.{Status}
use Rattle.query_run.specs.declared.status.Status.TheVariants.{Done, DoneWithRefusals, FileFault, NoMemory, ReadFault, ScriptTooLong, Usage, WriteFault}

-- What the source, the files and the sink say of themselves: the bytes that are left, what is held, the bytes that were written; how often
-- each has failed, and how often a keep has returned an error
pub record Objects : Type 0 where
  pub left : Option (List ℕ)
  pub source_faults : ℕ
  pub held : Option Contents
  pub unkept : ℕ
  pub file_faults : ℕ
  pub written : Option (List ℕ)
  pub sink_faults : ℕ

-- the same, from what each of them says
abbrev pub objects : Option (List ℕ) → ℕ → Option Contents → ℕ → ℕ → Option (List ℕ) → ℕ → Objects
objects left source_faults held unkept file_faults written sink_faults = record {
  left = left;
  source_faults = source_faults;
  held = held;
  unkept = unkept;
  file_faults = file_faults;
  written = written;
  sink_faults = sink_faults;
}

-- What the sink got and the files hold, if the first address, the script and what the files hold are known
pub record IsToldRun (limits : Limits) (first : Option ℕ) (old new : Objects) (completed : ℕ) (status : Status) : Type 0 where
  -- every line has an answer that was written, and none of them is a refusal
  pub done : status ≡ Done → WhereTold limits first old.left old.held (λ start script.
      IsAnsweredBy limits start script false new.left new.held old.written new.written)
  -- the same, and one of them is
  pub done_with_refusals : status ≡ DoneWithRefusals → WhereTold limits first old.left old.held (λ start script.
      IsAnsweredBy limits start script true new.left new.held old.written new.written)
  -- whatever the status, this many lines are completed, and their answers and changes are there
  pub stopped : WhereTold limits first old.left old.held (λ start script.
      StopsAfter limits start (lines limits.line script) completed (ending_of status) (new.unkept ≡ old.unkept) new.held old.written new.written)
  -- a keep returned an error only if the status names a fault of a file or is out of memory
  pub sure : IsSureOfFiles status → new.unkept ≡ old.unkept
  -- the sink got the beginning of the output
  pub part : WhereTold limits first old.left old.held (λ start script. GetsPart old.written new.written (output_by limits start script))
  -- and of a script that is too long, of the output of the lines that end within the limit
  pub part_within : status ≡ ScriptTooLong → WhereTold limits first old.left old.held (λ start script.
      GetsPart old.written new.written (output_by limits start (within limits.script script)))

-- how much was read, and which object failed
pub record IsCaused (limits : Limits) (old new : Objects) (status : Status) : Type 0 where
  -- no more bytes are taken than a script may have, and one more if the status says that it is too long
  pub took : TakesAtMost (most_taken limits.script status) old.left new.left
  -- each status of 3 or more except out of memory has its cause
  pub read_fault : status ≡ ReadFault → Rose old.source_faults new.source_faults
  pub write_fault : status ≡ WriteFault → Rose old.sink_faults new.sink_faults
  pub file_fault : status ≡ FileFault → Rose old.file_faults new.file_faults
  pub too_long : status ≡ ScriptTooLong → HandsOverMore limits.script old.left new.left
  -- and each object failed only if the status says so
  pub source_calm : ¬ (status ≡ ReadFault) → new.source_faults ≡ old.source_faults
  pub sink_calm : ¬ (status ≡ WriteFault) → new.sink_faults ≡ old.sink_faults
  pub files_calm : ¬ (status ≡ FileFault) → new.file_faults ≡ old.file_faults

-- what the status is if no object failed: the first is said if `given` holds, and the second if `given_script` does
pub record IsCompleteRun (given given_script : Type 0) (limits : Limits) (old new : Objects) (status : Status) : Type 0 where
  -- of a script within the limit all is answered, or the run is out of memory
  pub complete : given → ¬ Rose old.source_faults new.source_faults → ¬ Rose old.sink_faults new.sink_faults →
      ¬ Rose old.file_faults new.file_faults → IsSomeAnd old.left (λ script. length script ≤ limits.script) → IsFinished status
  -- a longer one is said to be too long, or the run is out of memory
  pub complete_long : given_script → ¬ Rose old.source_faults new.source_faults → ¬ Rose old.sink_faults new.sink_faults →
      ¬ Rose old.file_faults new.file_faults → IsSomeAnd old.left (λ script. limits.script < length script) → IsCutOff status

-- what a script leaves alone
pub record LeavesOthers (limits : Limits) (old new : Objects) (untouched : Type 0) : Type 0 where
  -- if no line names a file none is asked for
  pub unasked : IfSome old.left (λ script. names_of (lines limits.line script) ≡ [] → untouched)
  -- and if no line saves one none changes
  pub unsaved : IfSome old.left (λ script. names_kept_of (lines limits.line script) ≡ [] → new.held ≡ old.held)

-- All that is promised of a run over the script of a source, on an engine that begins at this address. The last says that the files are as
-- they were before
pub record IsScriptRun (limits : Limits) (first : ℕ) (old new : Objects) (completed : ℕ) (status : Status) (same_files : Type 0) : Type 0 where
  -- no words are read
  pub never_usage : ¬ (status ≡ Usage)
  pub told : IsToldRun limits (Some first) old new completed status
  pub caused : IsCaused limits old new status
  pub complete : IsCompleteRun ⊤ ⊤ limits old new status
  pub others : LeavesOthers limits old new same_files

-- what the words have to do with the status
pub record IsOfWords (words : List (List ℕ)) (all_untouched : Type 0) (status : Status) : Type 0 where
  -- it is `Usage` only if they are outside the grammar
  pub usage_only : status ≡ Usage → options_of words ≡ None
  -- then it always is, unless out of memory
  pub usage_always : options_of words ≡ None → (status ≡ Usage) ⊎ (status ≡ NoMemory)
  -- and then no object is touched
  pub untouched : status ≡ Usage → all_untouched

-- what a run over a made corpus does, if the words ask for one
pub record IsMadeRun (words : List (List ℕ)) (old new : Objects) (others_untouched : Type 0) (status : Status) : Type 0 where
  -- every line has an answer and none of them is a refusal, and the sink got their summary
  pub summed : status ≡ Done → WhereMadeBy (options_of words) (λ made start. IsSummed made start false old.written new.written)
  -- the same, and one of them is
  pub summed_with_refusals : status ≡ DoneWithRefusals →
      WhereMadeBy (options_of words) (λ made start. IsSummed made start true old.written new.written)
  -- the sink got the beginning of the summary
  pub part_summed : WhereMadeBy (options_of words) (λ made start. GetsPart old.written new.written (made_summary made start))
  -- if the sink did not fail all is answered, or the run is out of memory
  pub complete_made : IfSome (options_of words) (λ (o : Options). IsSome o.made → ¬ Rose old.sink_faults new.sink_faults → IsFinished status)
  -- no other object is touched
  pub untouched_by_made : IfSome (options_of words) (λ (o : Options). IsSome o.made → others_untouched)

-- All that `run` promises for these words; each of the last three says that an object is as it was before
pub record IsRun (words : List (List ℕ)) (old new : Objects) (completed : ℕ) (status : Status) (same_source same_files same_sink : Type 0) : Type 0 where
  pub words_are : IsOfWords words (same_source × same_files × same_sink) status
  pub told : IsToldRun greatest_limits (first_of words) old new completed status
  pub caused : IsCaused greatest_limits old new status
  pub complete : IsCompleteRun (IsSome (options_of words)) (IsSome (first_of words)) greatest_limits old new status
  pub others : LeavesOthers greatest_limits old new same_files
  pub made : IsMadeRun words old new (same_source × same_files) status
