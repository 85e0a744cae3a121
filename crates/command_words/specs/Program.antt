-- The program's command, as clap reads it.
use Rattle.std.specs.Prelude.{◌≡◌, ℕ, true, not, List, codes, bytes_eq, Some}
use Rattle.std.specs.List.{list_all}
use Rattle.clap.specs.Words.{App, Rule, Text, new_app, new_rule, with_rule}
use Rattle.clap.specs.Simple.{on_top}
use Rattle.clap.specs.declared.builder.action.ArgAction.TheVariants.{Set}

-- an option that takes one value
abbrev pub option_rule : Text → Rule
option_rule name = record (new_rule name) { long = Some name; action = Some Set }

-- no word is the program's name, and none asks for help
abbrev pub without_extras : App → App
without_extras = on_top (λ s. record s { no_binary_name = true; disable_help_flag = true })

-- the command with the four options
abbrev pub program : App
program = with_rule (with_rule (with_rule (with_rule (without_extras (new_app (codes "gclq"))) (option_rule (codes "first"))) (option_rule (codes "readers")))
    (option_rule (codes "made"))) (option_rule (codes "count"))

-- no word is `--`, after which clap takes no word as an option
abbrev pub HasNoEnd : List (List ℕ) → Type 0
HasNoEnd words = list_all (λ word. not (bytes_eq word (codes "--"))) words ≡ true
