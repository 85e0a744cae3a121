-- What the words of the command line ask for.
use Rattle.std.specs.Prelude.{ℕ, ◌&&◌, Bool, true, false, not, nat_le, nat_lt, List, [], ◌∷◌, codes, length, Option, Some, None, option_map, unwrap_or, if◌then◌else◌}
use Rattle.std.specs.Option.{option_and_then}
use Rattle.clap.specs.Words.{Kinds, Text, fault_of, matches_of}
use Rattle.clap.specs.Walk.{Row, all_of, count_of, first_of}
use Rattle.file_answers.specs.declared.mode.Mode.{Mode}
use Rattle.file_answers.specs.declared.mode.Mode.TheVariants.{Lines, Answers, Count, Names, Quiet}
use Rattle.script_lang.specs.Numbers.{number_of}
use Rattle.grep_words.specs.Program.{program}
use Rattle.grep_words.specs.declared.task.SearchWords.{SearchWords}
use Rattle.grep_words.specs.declared.task.Task.{Task}
use Rattle.grep_words.specs.declared.task.Task.TheVariants.{Help, Version, Search}

-- the greatest number of 18 digits: no file has that many answers
abbrev pub most_answers : ℕ
most_answers = 999999999999999999

-- the most definitions that the words may have
abbrev pub most_defines : ℕ
most_defines = 256

-- the most files that are searched concurrently
abbrev pub most_threads : ℕ
most_threads = 16

-- the option comes at least once
abbrev pub is_given : Text → List Row → Bool
is_given name rows = nat_lt 0 (count_of name rows)

-- the values of an option, or the words that are not options
abbrev pub values_in : Text → List Row → List Text
values_in name rows = unwrap_or (all_of name rows) []

-- at most one of `-o`, `-c`, `-l` and `-q` is given; with none of them lines are written
abbrev pub mode_from : Bool → Bool → Bool → Bool → Option Mode
mode_from false false false false = Some Lines
mode_from true false false false = Some Answers
mode_from false true false false = Some Count
mode_from false false true false = Some Names
mode_from false false false true = Some Quiet
mode_from _ _ _ _ = None

abbrev pub mode_in : List Row → Option Mode
mode_in rows = mode_from (is_given (codes "only-answers") rows) (is_given (codes "count") rows) (is_given (codes "files-with-answers") rows) (is_given (codes "quiet") rows)

-- the number of `-m`: all answers if it is not given
abbrev pub most_from : Option Text → Option ℕ
most_from None = Some most_answers
most_from (Some text) = number_of text

-- the number of `-t`, from 1 to 16: 4 if it is not given
abbrev pub threads_from : Option Text → Option ℕ
threads_from None = Some 4
threads_from (Some text) = option_and_then (λ n. if nat_le 1 n && nat_le n most_threads then Some n else None) (number_of text)

-- the files: standard input, named `-`, if there are none
abbrev pub files_from : List Text → List Text
files_from [] = codes "-" ∷ []
files_from (name ∷ names) = name ∷ names

-- the search with this mode and these numbers, definitions and words: the first word is the query
abbrev pub search_with : Mode → ℕ → ℕ → List Row → List Text → List Text → Option SearchWords
search_with mode most threads rows defines [] = None
search_with mode most threads rows defines (query ∷ names) = if nat_le (length defines) most_defines then Some (record {
  mode = mode;
  named = not (is_given (codes "no-filename") rows);
  numbered = not (is_given (codes "no-line-number") rows);
  messages = not (is_given (codes "no-messages") rows);
  most = most;
  threads = threads;
  definitions = first_of (codes "definitions") rows;
  defines = defines;
  query = query;
  names = files_from names;
}) else None

abbrev pub search_in : List Row → Option SearchWords
search_in rows = option_and_then (λ mode. option_and_then (λ most. option_and_then (λ threads.
    search_with mode most threads rows (values_in (codes "define") rows) (values_in (codes "words") rows)) (threads_from (first_of (codes "threads") rows)))
    (most_from (first_of (codes "max-count") rows))) (mode_in rows)

-- `--help` and then `--version` come before all else
abbrev pub task_in : List Row → Option Task
task_in rows = if is_given (codes "help") rows then Some Help else (if is_given (codes "version") rows then Some Version else option_map Search (search_in rows))

-- there is no fault
abbrev pub is_clear : Kinds → Bool
is_clear [] = true
is_clear (k ∷ ks) = false

-- clap finds no fault in the words: each option is one of the program's, and has its value
abbrev pub are_taken : List Text → Bool
are_taken words = is_clear (fault_of program words)

-- what the words ask for, or None if they are outside the grammar
abbrev pub task_of : List Text → Option Task
task_of words = if are_taken words then task_in (matches_of program words) else None
