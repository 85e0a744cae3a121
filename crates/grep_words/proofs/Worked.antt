-- The words, worked out: each is what clap makes of them.
use Rattle.std.proofs.Common.{◌≡◌, [], ◌∷◌, true, false, refl, codes, Some, None}
use Rattle.clap.proofs.OnLiterals.{clap_on_literals}
use Rattle.file_answers.specs.declared.mode.Mode.TheVariants.{Lines, Answers}
use Rattle.grep_words.specs.Grammar.{most_answers, task_of}
use Rattle.grep_words.specs.declared.task.SearchWords.{SearchWords}
use Rattle.grep_words.specs.declared.task.Task.TheVariants.{Help, Search}

-- the search for "to" in the file a, with nothing else said
abbrev plain : SearchWords
plain = record { mode = Lines; named = true; numbered = true; messages = true; most = most_answers; threads = 4; definitions = None; defines = []; query = codes "to"; names = codes "a" ∷ [] }

query_and_file : task_of (codes "to" ∷ codes "a" ∷ []) ≡ Some (Search plain)
unfolding clap_on_literals
query_and_file = refl

-- without a file it is standard input
no_file : task_of (codes "to" ∷ []) ≡ Some (Search (record plain { names = codes "-" ∷ [] }))
unfolding clap_on_literals
no_file = refl

-- letters may be joined, a value may follow its letter, and the order is free
joined : task_of (codes "to" ∷ codes "-ohm1" ∷ codes "a" ∷ []) ≡ Some (Search (record plain { mode = Answers; named = false; most = 1 }))
unfolding clap_on_literals
joined = refl

long_names : task_of (codes "--only-answers" ∷ codes "--max-count=1" ∷ codes "--no-filename" ∷ codes "to" ∷ codes "a" ∷ []) ≡ Some (Search (record plain { mode = Answers; named = false; most = 1 }))
unfolding clap_on_literals
long_names = refl

-- each definition counts, and of any other value the last one
repeated : task_of (codes "-d" ∷ codes "x=1" ∷ codes "-d" ∷ codes "y=2" ∷ codes "-t1" ∷ codes "-t" ∷ codes "2" ∷ codes "to" ∷ codes "a" ∷ []) ≡
    Some (Search (record plain { defines = codes "x=1" ∷ codes "y=2" ∷ []; threads = 2 }))
unfolding clap_on_literals
repeated = refl

-- `--` ends the options
ended : task_of (codes "--" ∷ codes "-c" ∷ codes "a" ∷ []) ≡ Some (Search (record plain { query = codes "-c" }))
unfolding clap_on_literals
ended = refl

help : task_of (codes "--help" ∷ []) ≡ Some Help
unfolding clap_on_literals
help = refl

-- no query, two modes, no number, no such option and a shortened name are outside
nothing : task_of [] ≡ None
unfolding clap_on_literals
nothing = refl

two_modes : task_of (codes "-o" ∷ codes "-c" ∷ codes "to" ∷ []) ≡ None
unfolding clap_on_literals
two_modes = refl

no_number : task_of (codes "-m" ∷ codes "x" ∷ codes "to" ∷ []) ≡ None
unfolding clap_on_literals
no_number = refl

seventeen_threads : task_of (codes "-t" ∷ codes "17" ∷ codes "to" ∷ []) ≡ None
unfolding clap_on_literals
seventeen_threads = refl

unknown : task_of (codes "-x" ∷ codes "to" ∷ []) ≡ None
unfolding clap_on_literals
unknown = refl

shortened : task_of (codes "--cou" ∷ codes "to" ∷ []) ≡ None
unfolding clap_on_literals
shortened = refl

no_value : task_of (codes "to" ∷ codes "-m" ∷ []) ≡ None
unfolding clap_on_literals
no_value = refl
