-- What the words of the command line ask for.
use Rattle.std.specs.Prelude.{ℕ, List, Option, None, Some}
use Rattle.std.specs.Option.{option_and_then}
use Rattle.command_words.specs.Grammar.{options_of}
use Rattle.command_words.specs.declared.options.Made.{Made}
use Rattle.command_words.specs.declared.options.Options.{Options}

-- the first address, if no corpus is to be made
abbrev pub unless_made : Option Made → ℕ → Option ℕ
unless_made None first = Some first
unless_made (Some made) first = None

-- the first address of a run over the script of the source: 0 without the option, and None if the words are outside the grammar or ask
-- for a made corpus
abbrev pub first_of : List (List ℕ) → Option ℕ
first_of words = option_and_then (λ (o : Options). unless_made o.made o.first) (options_of words)
