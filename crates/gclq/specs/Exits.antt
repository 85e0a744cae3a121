-- What the exit statuses say.
use Rattle.std.specs.Prelude.{◌≡◌, ℕ, List}
use Rattle.query_run.specs.Promises.{IsRun, Objects}
use Rattle.query_run.specs.Statuses.{number_of}
use Rattle.query_run.specs.declared.status.Status.{Status}
use Rattle.gclq.specs.declared.words.WordFault.{WordFault}
use Rattle.gclq.specs.declared.words.WordFault.TheVariants.{NotText, NoMemory}

-- the exit status if the words were not read
abbrev pub word_status : WordFault → ℕ
word_status NotText = 2
word_status NoMemory = 6

-- The exit status is the number of a status, and all that `run` promises of a run by these words that ended with it holds. No two statuses
-- have one number: so 0 says that every line was answered and no answer is a refusal, and the others what `Status` says of them
pub record Exits (words : List (List ℕ)) (old new : Objects) (code : ℕ) (same_source same_files same_sink : Type 0) : Type 0 where
  pub status : Status
  pub number : code ≡ number_of status
  pub completed : ℕ
  pub run : IsRun words old new completed status same_source same_files same_sink
