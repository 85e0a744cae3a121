-- The program's options, as they are given to clap.
use Rattle.std.specs.Prelude.{ℕ, true, codes, Some}
use Rattle.clap.specs.Words.{App, Rule, Text, new_app, new_rule, with_rule}
use Rattle.clap.specs.Simple.{on_top}
use Rattle.clap.specs.declared.builder.action.ArgAction.TheVariants.{Append, Count, Set}

-- an option without a value: how often it comes is counted
abbrev pub flag : Text → Rule
flag name = record (new_rule name) { long = Some name; action = Some Count }

-- an option with a value
abbrev pub valued : Text → Rule
valued name = record (new_rule name) { long = Some name; action = Some Set }

-- with a letter in addition to its name
abbrev pub short : ℕ → Rule → Rule
short letter rule = record rule { short = Some letter }

-- `-d`, `--define`: each value counts
abbrev pub define : Rule
define = short 100 (record (new_rule (codes "define")) { long = Some (codes "define"); action = Some Append })

-- the words that are not options
abbrev pub words : Rule
words = record (new_rule (codes "words")) { action = Some Append }

-- no word is the program's name, none asks for clap's own help, and a repeated option replaces the earlier one
abbrev pub plain : App → App
plain = on_top (λ s. record s { no_binary_name = true; disable_help_flag = true; args_override_self = true })

-- the options that choose what is written
abbrev pub with_modes : App → App
with_modes app = with_rule (with_rule (with_rule (with_rule app
    (short 111 (flag (codes "only-answers")))) (short 99 (flag (codes "count")))) (short 108 (flag (codes "files-with-answers")))) (short 113 (flag (codes "quiet")))

-- those that leave something out
abbrev pub with_flags : App → App
with_flags app = with_rule (with_rule (with_rule app
    (short 104 (flag (codes "no-filename")))) (short 78 (flag (codes "no-line-number")))) (short 115 (flag (codes "no-messages")))

-- those that ask for a text about the program
abbrev pub with_texts : App → App
with_texts app = with_rule (with_rule app (flag (codes "help"))) (flag (codes "version"))

-- those with a value
abbrev pub with_values : App → App
with_values app = with_rule (with_rule (with_rule app
    (short 109 (valued (codes "max-count")))) (short 68 (valued (codes "definitions")))) (short 116 (valued (codes "threads")))

-- definitions, and the words that are not options
abbrev pub with_words : App → App
with_words app = with_rule (with_rule app define) words

-- the command with all options
abbrev pub program : App
program = with_words (with_values (with_texts (with_flags (with_modes (plain (new_app (codes "gclgrep")))))))
