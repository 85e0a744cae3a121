-- The words of the command line and what they ask for.
use Rattle.std.specs.Prelude.{ℕ, ◌≤◌, List, [], ◌∷◌, codes, Option, None, option_map}
use Rattle.std.specs.Option.{option_and_then}
use Rattle.gcl_model.specs.Limits.{most_made}
use Rattle.script_lang.specs.Numbers.{number_of}
use Rattle.command_words.specs.Grammar.{Given, number_within, pairs_of, value_of}
use Rattle.share_run.specs.declared.options.ShareOptions.{ShareOptions}

-- the most editors that there may be
abbrev pub most_editors : ℕ
most_editors = 16

-- the options of these values
abbrev pub options_from : Option (List ℕ) → Option (List ℕ) → Option (List ℕ) → Option ShareOptions
options_from start count editors =
    option_and_then (λ s. option_and_then (λ c. option_map (λ n. record { start = s; count = c; editors = n }) (option_and_then (number_within 1 most_editors) editors))
    (option_and_then (number_within 0 most_made) count)) (option_and_then number_of start)

-- three options ask for it, `--made`, `--count` and `--editors`: each of these names is among the three, so none comes twice
abbrev pub options_in : List Given → Option ShareOptions
options_in (a ∷ b ∷ c ∷ []) = options_from (value_of (codes "--made") (a ∷ b ∷ c ∷ [])) (value_of (codes "--count") (a ∷ b ∷ c ∷ [])) (value_of (codes "--editors") (a ∷ b ∷ c ∷ []))
options_in _ = None

-- what the words ask for, None if they are outside the grammar: `--editors=3 --made 7 --count 9` asks for 3 editors of 9 files
abbrev pub options_of : List (List ℕ) → Option ShareOptions
options_of words = option_and_then options_in (pairs_of words)

-- the numbers are within the limits
pub record IsWithinLimits (options : ShareOptions) : Type 0 where
  pub count_most : options.count ≤ most_made
  pub editors_least : 1 ≤ options.editors
  pub editors_most : options.editors ≤ most_editors
