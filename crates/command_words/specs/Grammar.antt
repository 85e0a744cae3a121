-- The words of the command line and what they write.
use Rattle.std.specs.Prelude.{ℕ, ◌≤◌, ◌==◌, ◌&&◌, Bool, true, not, nat_le, List, [], ◌∷◌, codes, bytes_eq, Option, Some, None, IfSome, option_map, unwrap_or, find, if◌then◌else◌}
use Rattle.std.specs.Option.{option_and_then}
use Rattle.std.specs.List.{list_any, before_first, after_first}
use Rattle.gcl_model.specs.Limits.{address_end, most_made, most_readers}
use Rattle.script_lang.specs.Numbers.{number_of}
use Rattle.command_words.specs.declared.options.Made.{Made}
use Rattle.command_words.specs.declared.options.Options.{Options}

-- ---- the words as pairs of a name and a value

-- an option as it is given: its name, as "--first", and the text of its value
abbrev pub Given : Type 0
Given = List ℕ × List ℕ

-- `=`
abbrev pub is_equals : ℕ → Bool
is_equals b = b == 61

-- a name and its value in one word, as `--first=7`
abbrev pub is_joined : List ℕ → Bool
is_joined word = list_any is_equals word

-- what comes before the first `=` of the word, and what comes after it: of `--first=7` these are "--first" and "7"
abbrev pub parted : List ℕ → Given
parted word = (before_first is_equals word, after_first is_equals word)

-- the words two by two, except those that are joined: `--first=7 --readers 2` gives ("--first", "7") and ("--readers", "2")
abbrev pub pairs_of : List (List ℕ) → Option (List Given)
pairs_of [] = Some []
pairs_of (word ∷ []) = if is_joined word then Some (parted word ∷ []) else None
pairs_of (word ∷ next ∷ rest) = if is_joined word then option_map (λ pairs. parted word ∷ pairs) (pairs_of (next ∷ rest))
    else option_map (λ pairs. (word, next) ∷ pairs) (pairs_of rest)

-- the names of the options
abbrev pub option_names : List (List ℕ)
option_names = codes "--first" ∷ codes "--readers" ∷ codes "--made" ∷ codes "--count" ∷ []

-- an option has this name
abbrev pub is_option_name : List ℕ → Bool
is_option_name name = list_any (λ known. bytes_eq known name) option_names

-- an option of this name is given
abbrev pub is_given : List ℕ → List Given → Bool
is_given name pairs = list_any (λ given. bytes_eq given.0 name) pairs

-- each name is that of an option, and none comes twice
abbrev pub are_options : List Given → Bool
are_options [] = true
are_options (given ∷ rest) = is_option_name given.0 && not (is_given given.0 rest) && are_options rest

-- ---- the options that the pairs write

-- the text given for an option
abbrev pub value_of : List ℕ → List Given → Option (List ℕ)
value_of name pairs = option_map (λ given. given.1) (find (λ given. bytes_eq given.0 name) pairs)

-- the number that 1 to 18 digits write, if it lies within these bounds: from 1 to 16 "08" is 8, and "17" is none
abbrev pub number_within : ℕ → ℕ → List ℕ → Option ℕ
number_within least most text = option_and_then (λ n. if nat_le least n && nat_le n most then Some n else None) (number_of text)

-- the corpus of a number and a count
abbrev pub made_of : List ℕ → List ℕ → Option Made
made_of start count = option_and_then (λ s. option_map (λ c. record { start = s; count = c }) (number_within 0 most_made count)) (number_of start)

-- `--made` and `--count` come both, or neither does
abbrev pub made_from : Option (List ℕ) → Option (List ℕ) → Option (Option Made)
made_from None None = Some None
made_from (Some start) (Some count) = option_map (λ made. Some made) (made_of start count)
made_from _ _ = None

-- the options of these values: the first address is 0 and there are 4 readers if nothing is given for them
abbrev pub options_from : Option (List ℕ) → Option (List ℕ) → Option (List ℕ) → Option (List ℕ) → Option Options
options_from first readers start count =
    option_and_then (λ f. option_and_then (λ r. option_map (λ m. record { first = f; readers = r; made = m }) (made_from start count))
    (number_within 1 most_readers (unwrap_or readers (codes "4")))) (number_within 0 address_end (unwrap_or first (codes "0")))

-- the options that the pairs write
abbrev pub options_in : List Given → Option Options
options_in pairs = if are_options pairs then options_from (value_of (codes "--first") pairs) (value_of (codes "--readers") pairs)
    (value_of (codes "--made") pairs) (value_of (codes "--count") pairs) else None

-- the options that the words write, none if they are outside the grammar
abbrev pub options_of : List (List ℕ) → Option Options
options_of words = option_and_then options_in (pairs_of words)

-- the numbers of options lie within the limits
pub record IsWithinLimits (options : Options) : Type 0 where
  pub first_most : options.first ≤ address_end
  pub readers_least : 1 ≤ options.readers
  pub readers_most : options.readers ≤ most_readers
  pub count_most : IfSome options.made (λ made. made.count ≤ most_made)
