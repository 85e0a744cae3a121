-- A run: its words, and how it ends.
use Rattle.std.specs.Prelude.{◌≡◌, ℕ, List, [], Option, Some, None, Ok, ⊤}
use Rattle.outside.specs.Contents.{Contents}
use Rattle.query_names.specs.Names.{Defined}
use Rattle.grep_words.specs.Grammar.{task_of}
use Rattle.grep_words.specs.declared.task.SearchWords.{SearchWords}
use Rattle.grep_words.specs.declared.task.Task.TheVariants as task
use Rattle.grep_run.specs.Definitions.{AreOfFile, HasFileStopCause, IsStopOf, define_next, defined_by_all}
use Rattle.grep_run.specs.Searches.{Ends, IsRefusal, number_of}
use Rattle.grep_run.specs.declared.asked.Asked.{Asked}
use Rattle.grep_run.specs.declared.defining.DefineStop.{DefineStop}
use Rattle.grep_run.specs.declared.status.Status.{Status}
use Rattle.grep_run.specs.declared.running.Ended.{Ended}
use Rattle.grep_run.specs.declared.running.Ended.TheVariants.{BadWords, Help, Version, NoDefinitions, BadDefinition, Searched, NoMemory}

-- what is asked of the files is what the words ask for
pub record IsAskedBy (words : SearchWords) (asked : Asked) : Type 0 where
  pub mode_is : asked.mode ≡ words.mode
  pub named_is : asked.named ≡ words.named
  pub numbered_is : asked.numbered ≡ words.numbered
  pub most_is : asked.most ≡ words.most
  pub names_are : asked.names.now ≡ words.names

-- the words' definitions are made, after those of their file
pub record AreDefined (told : Option Contents) (words : SearchWords) (defined : Defined) : Type 0 where
  pub texts : List (List ℕ)
  pub of_file : AreOfFile told words.definitions texts
  pub made : define_next (λ d. defined_by_all d words.defines) (defined_by_all [] texts) ≡ Ok defined

-- one of them is refused, or there is no memory for it
pub record IsUndefined (told : Option Contents) (words : SearchWords) (stop : DefineStop) : Type 0 where
  pub texts : List (List ℕ)
  pub of_file : AreOfFile told words.definitions texts
  pub stopped : IsStopOf (define_next (λ d. defined_by_all d words.defines) (defined_by_all [] texts)) stop

-- the files were searched for the query, with all definitions
pub record IsSearchedBy (told : Option Contents) (words : SearchWords) (status : Status) (old new : Option (List ℕ)) (faults faults' steps steps' : ℕ) : Type 0 where
  pub defined : Defined
  pub are : AreDefined told words defined
  pub asked : Asked
  pub is : IsAskedBy words asked
  pub ends : Ends told asked defined words.query status old new faults faults' steps steps'

-- what holds if a search that the words ask for ends as it does
abbrev pub WordsEnd : Option Contents → SearchWords → Ended → Option (List ℕ) → Option (List ℕ) → ℕ → ℕ → ℕ → ℕ → Type 0
WordsEnd told words BadWords old new f f' s s' = ⊥
WordsEnd told words Help old new f f' s s' = ⊥
WordsEnd told words Version old new f f' s s' = ⊥
WordsEnd told words (NoDefinitions stop) old new f f' s s' = HasFileStopCause told words.definitions f f' stop
WordsEnd told words (BadDefinition stop) old new f f' s s' = IsUndefined told words stop
WordsEnd told words (Searched status) old new f f' s s' = IsSearchedBy told words status old new f f' s s'
WordsEnd told words NoMemory old new f f' s s' = ⊥

-- the words ask for a search, which ends as it does
abbrev pub SearchEnds : Option Contents → List (List ℕ) → Ended → Option (List ℕ) → Option (List ℕ) → ℕ → ℕ → ℕ → ℕ → Type 0
SearchEnds told words ended old new f f' s s' = (search : SearchWords) × (task_of words ≡ Some (task.Search search)) × WordsEnd told search ended old new f f' s s'

-- what holds if a run ends as it does: the words are outside the grammar, ask for help or the version, or ask for a search
abbrev pub RunEnds : Option Contents → List (List ℕ) → Ended → Option (List ℕ) → Option (List ℕ) → ℕ → ℕ → ℕ → ℕ → Type 0
RunEnds told words BadWords old new f f' s s' = task_of words ≡ None
RunEnds told words Help old new f f' s s' = task_of words ≡ Some task.Help
RunEnds told words Version old new f f' s s' = task_of words ≡ Some task.Version
RunEnds told words (NoDefinitions stop) old new f f' s s' = SearchEnds told words (NoDefinitions stop) old new f f' s s'
RunEnds told words (BadDefinition stop) old new f f' s s' = SearchEnds told words (BadDefinition stop) old new f f' s s'
RunEnds told words (Searched status) old new f f' s s' = SearchEnds told words (Searched status) old new f f' s s'
RunEnds told words NoMemory old new f f' s s' = ⊤

-- it ended before it loaded a file
abbrev pub IsBeforeFiles : Ended → Type 0
IsBeforeFiles BadWords = ⊤
IsBeforeFiles Help = ⊤
IsBeforeFiles Version = ⊤
IsBeforeFiles (NoDefinitions stop) = ⊥
IsBeforeFiles (BadDefinition stop) = ⊥
IsBeforeFiles (Searched status) = ⊥
IsBeforeFiles NoMemory = ⊤

-- it ended before anything was written
abbrev pub IsBeforeWriting : Ended → Type 0
IsBeforeWriting BadWords = ⊤
IsBeforeWriting Help = ⊤
IsBeforeWriting Version = ⊤
IsBeforeWriting (NoDefinitions stop) = ⊤
IsBeforeWriting (BadDefinition stop) = ⊤
IsBeforeWriting (Searched status) = IsRefusal status
IsBeforeWriting NoMemory = ⊤

-- the exit status of the program: help and the version are answers
abbrev pub end_number : Ended → ℕ
end_number BadWords = 2
end_number Help = 0
end_number Version = 0
end_number (NoDefinitions stop) = 2
end_number (BadDefinition stop) = 2
end_number (Searched status) = number_of status
end_number NoMemory = 2
