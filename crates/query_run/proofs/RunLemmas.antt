-- Of a run that did nothing, and of one over a source by limits that are the same.
use Rattle.std.proofs.Common.{◌≡◌, ℕ, List, [], refl, inr, subst, Option, Some, None, IfSome, IsSome}
use Rattle.script_lang.specs.Lines.{lines}
use Rattle.command_words.specs.Grammar.{options_of}
use Rattle.command_words.specs.declared.options.Options.{Options}
use Rattle.script_answers.specs.States.{greatest_limits}
use Rattle.script_answers.specs.Answers.{names_kept_of, names_of, output_by}
use Rattle.script_answers.specs.Stopped.{out_of_memory}
use Rattle.script_answers.specs.declared.limits.Limits.{Limits}
use Rattle.query_run.specs.Promises.{IsCaused, IsRun, IsScriptRun, IsToldRun, LeavesOthers, Objects}
use Rattle.query_run.specs.Words.{first_of}
use Rattle.query_run.specs.declared.status.Status.{Status}
use Rattle.query_run.specs.declared.status.Status.TheVariants.{NoMemory}
use Rattle.query_run.proofs.StreamLemmas.{takes_none}
use Rattle.query_run.proofs.Told.{kept_at, made_at, none_stopped, nothing_of, nothing_of_made}

module _ (limits : Limits) (here : Objects) where
  -- no line is completed, and nothing was written
  pub nothing_told : (first : Option ℕ) → IsToldRun limits first here here 0 NoMemory
  nothing_told first = record {
    done = λ is. absurd (cc is);
    done_with_refusals = λ is. absurd (cc is);
    stopped = none_stopped limits first out_of_memory (λ failed. failed) (here.unkept ≡ here.unkept) here.left here.held here.written;
    sure = λ is. refl;
    part = nothing_of limits first here.left here.held here.written (output_by limits);
    part_within = λ is. absurd (cc is);
  }

  -- nothing was read, and no object failed
  pub nothing_caused : IsCaused limits here here NoMemory
  nothing_caused = record {
    took = takes_none limits.script here.left;
    read_fault = λ is. absurd (cc is);
    write_fault = λ is. absurd (cc is);
    file_fault = λ is. absurd (cc is);
    too_long = λ is. absurd (cc is);
    source_calm = λ no. refl;
    sink_calm = λ no. refl;
    files_calm = λ no. refl;
  }

  -- no file was asked for
  pub nothing_asked : {F : Type 0} (files : F) → LeavesOthers limits here here (files ≡ files)
  nothing_asked files = record {
    unasked = kept_at here.left (λ script. names_of (lines limits.line script) ≡ []) files;
    unsaved = kept_at here.left (λ script. names_kept_of (lines limits.line script) ≡ []) here.held;
  }

  -- there was no memory for an engine
  pub nothing_run : (first : ℕ) {F : Type 0} (files : F) → IsScriptRun limits first here here 0 NoMemory (files ≡ files)
  nothing_run first files = record {
    never_usage = λ is. absurd (cc is);
    told = nothing_told (Some first);
    caused = nothing_caused;
    complete = record { complete = λ given source sink calm short. tt; complete_long = λ given source sink calm longer. tt };
    others = nothing_asked files;
  }

-- whatever the words ask for
same_at : (options : Option Options) {S F : Type 0} (source : S) (files : F) → IfSome options (λ (o : Options). IsSome o.made → (source ≡ source) × (files ≡ files))
same_at None source files = tt
same_at (Some options) source files = λ made. (refl, refl)

-- there was no memory for the words
pub nothing_begun : (words : List (List ℕ)) (here : Objects) {S F K : Type 0} (source : S) (files : F) (sink : K) →
    IsRun words here here 0 NoMemory (source ≡ source) (files ≡ files) (sink ≡ sink)
nothing_begun words here source files sink = record {
  words_are = record { usage_only = λ is. absurd (cc is); usage_always = λ none. inr refl; untouched = λ is. absurd (cc is) };
  told = nothing_told greatest_limits here (first_of words);
  caused = nothing_caused greatest_limits here;
  complete = record { complete = λ given source sink calm short. tt; complete_long = λ given source sink calm longer. tt };
  others = nothing_asked greatest_limits here files;
  made = record {
    summed = λ is. absurd (cc is);
    summed_with_refusals = λ is. absurd (cc is);
    part_summed = nothing_of_made (options_of words) here.written;
    complete_made = made_at (options_of words) _ NoMemory (λ calm. tt);
    untouched_by_made = same_at (options_of words) source files;
  };
}

-- a run by limits, and from an address, that are the same
pub run_by : (limits limits' : Limits) (first first' : ℕ) (old new : Objects) (completed : ℕ) (status : Status) (same_files : Type 0) → limits ≡ limits' → first ≡ first' →
    IsScriptRun limits first old new completed status same_files → IsScriptRun limits' first' old new completed status same_files
run_by limits limits' first first' old new completed status same_files same is h =
    subst (λ (n : ℕ). IsScriptRun limits' n old new completed status same_files) is (subst (λ (l : Limits). IsScriptRun l first old new completed status same_files) same h)
