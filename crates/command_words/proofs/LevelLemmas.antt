-- What clap's parse of the program's command comes to.
use Rattle.std.proofs.Common.{◌≡◌, ◌∙◌, ◌∷◌, ◌&&◌, Bool, true, false, List, [], map, Option, Some, None, IsNone, is_some, inl, inr, option_and_then, refl, sym, ap, subst, codes, bytes_eq, not, drop, true≢false, fold}
use Rattle.std.proofs.lemmas.Bool.{and_parts}
use Rattle.clap.specs.Faults.{check_fault, default_fault, defaults_fault, entered_fault, fault_of, is_simple_and_free}
use Rattle.clap.specs.Kinds.{HasKind, IsAmong, Kinds, or_else}
use Rattle.clap.specs.Values.{kind_of}
use Rattle.clap.specs.Matches.{first_value}
use Rattle.clap.proofs.WalkLemmas.{first_value-rows}
use Rattle.clap.specs.declared.error.Error.{Error}
use Rattle.clap.specs.declared.error.kind.ErrorKind.TheVariants.{OutOfMemory}
use Rattle.clap.specs.declared.parser.matches.Found.{Found}
use Rattle.clap.specs.Simple.{built, entered, is_simple, matches_of}
use Rattle.clap.specs.Walk.{Row, Text, finished, first_of, has_row, idle, nothing_held, rows_of, stop_after, walk, with_default}
use Rattle.command_words.specs.declared.options.Options.{Options}
use Rattle.command_words.specs.Grammar.{Given, are_options, is_given, is_option_name, options_from, options_in, options_of, pairs_of, value_of}
use Rattle.command_words.specs.Program.{HasNoEnd, program}
use Rattle.command_words.proofs.PairLemmas.{each_name}
use Rattle.command_words.proofs.ProgramLemmas.{rule, shape, shape-IsProgram}
use Rattle.command_words.proofs.TurnLemmas.{HasFault, faults, hold, last_rows, row, stand}
use Rattle.command_words.proofs.ReadLemmas.{Reads, reads_from, refused, taken}

-- ---- defaults and the last checks

-- an option without a default leaves the rows
no_default : (name : Text) (rows : List Row) → with_default rows (rule name) ≡ rows
no_default name rows = go (has_row name rows) refl
  where
    go : (b : Bool) → has_row name rows ≡ b → with_default rows (rule name) ≡ rows
    go true is = rw is refl
    go false is = rw is refl

no_defaults : (names : List Text) (rows : List Row) → fold with_default rows (map rule names) ≡ rows
no_defaults [] rows = refl
no_defaults (name ∷ names) rows = ap (λ r. fold with_default r (map rule names)) (no_default name rows) ∙ no_defaults names rows

-- and nothing of it can fail
default_passes : (name : Text) (rows : List Row) → default_fault rows (rule name) ≡ []
default_passes name rows = go (has_row name rows) refl
  where
    go : (b : Bool) → has_row name rows ≡ b → default_fault rows (rule name) ≡ []
    go true is = rw is refl
    go false is = rw is refl

defaults_pass : (names : List Text) (rows : List Row) → defaults_fault rows (map rule names) ≡ []
unfolding defaults_fault
defaults_pass [] rows = refl
defaults_pass (name ∷ names) rows =
    ap (λ k. or_else k (defaults_fault (with_default rows (rule name)) (map rule names))) (default_passes name rows) ∙ defaults_pass names (with_default rows (rule name))

-- nothing is required at the end
checks_pass : (rows : List Row) (b : Bool) → check_fault shape rows b ≡ []
checks_pass rows true = refl
checks_pass rows false = refl

-- there is no subcommand to fail
enters_none : (stop : Option (Text × List Text)) → entered_fault (built program) stop ≡ []
enters_none None = refl
enters_none (Some p) = refl

-- the ids of the four options
ids : List Text
ids = codes "first" ∷ codes "readers" ∷ codes "made" ∷ codes "count" ∷ []

-- if those steps pass, only the words and what is pending at their end can fail
ends : (walk below settle defaults check : Kinds) → below ≡ [] → defaults ≡ [] → check ≡ []
    → or_else walk (or_else below (or_else settle (or_else defaults check))) ≡ or_else walk settle
ends walk below settle defaults check no_below no_defaults no_check = rw (no_below, no_defaults, no_check) (ap (or_else walk) (go settle))
  where
    go : (k : Kinds) → or_else k [] ≡ k
    go [] = refl
    go (k ∷ ks) = refl

-- ---- the parse

-- the faults of a parse are those of its words
fault_is : (words : List Text) → fault_of program words ≡ faults shape (stand idle (hold [] None)) words
unfolding ids
fault_is words =
    ends _ _ _ _ _ (enters_none (stop_after shape.rules [] words)) (defaults_pass ids (last_rows shape (stand idle (hold [] None)) words))
    (checks_pass (finished shape.rules (walk shape.rules [] nothing_held words).held) (is_some (entered (built program) (stop_after shape.rules [] words))))

-- the matches are the rows at their end
matches_are : (words : List Text) → matches_of program words ≡ last_rows shape (stand idle (hold [] None)) words
unfolding ids
matches_are words = no_defaults ids (last_rows shape (stand idle (hold [] None)) words)

-- a parse takes the words as the grammar says, or both refuse them
pub parse_reads : (words : List Text) → HasNoEnd words → Reads [] words (fault_of program words) (matches_of program words)
parse_reads words plain =
    subst (λ (r : List Row). Reads [] words (fault_of program words) r) (sym (matches_are words))
    (subst (λ (k : Kinds). Reads [] words k (last_rows shape (stand idle (hold [] None)) words)) (sym (fault_is words))
    ((reads_from shape shape-IsProgram words plain).unwaited [] [] None (record { options = refl; clear = refl; ends = refl })))

-- ---- what the parse gives

-- the value of an option's row is the text given for it
value_row : (name : Text) (pairs : List Given) → are_options pairs ≡ true → first_of name (map row pairs) ≡ value_of (45 ∷ 45 ∷ name) pairs
value_row name [] options = refl
value_row name (given ∷ rest) options = go (bytes_eq given.0 (45 ∷ 45 ∷ name)) refl (value_row name rest (and_parts _ _ options).1)
  where
    same : bytes_eq (drop 2 given.0) name ≡ bytes_eq given.0 (45 ∷ 45 ∷ name)
    same = each_name (λ full. bytes_eq (drop 2 full) name ≡ bytes_eq full (45 ∷ 45 ∷ name)) refl refl refl refl given.0
        (and_parts (is_option_name given.0) (not (is_given given.0 rest)) (and_parts (is_option_name given.0 && not (is_given given.0 rest)) (are_options rest) options).0).0

    go : (b : Bool) → bytes_eq given.0 (45 ∷ 45 ∷ name) ≡ b → first_of name (map row rest) ≡ value_of (45 ∷ 45 ∷ name) rest
        → first_of name (map row (given ∷ rest)) ≡ value_of (45 ∷ 45 ∷ name) (given ∷ rest)
    go true this below = rw (same, this) refl
    go false this below = rw (same, this) below

-- the options of what clap found in the rows
abbrev pub options_found : List Row → Option Options
options_found rows = options_from (first_of (codes "first") rows) (first_of (codes "readers") rows) (first_of (codes "made") rows) (first_of (codes "count") rows)

-- if no step fails, the rows give the options
pub found_options : (words : List Text) → HasNoEnd words → fault_of program words ≡ [] → options_found (matches_of program words) ≡ options_of words
found_options words plain clear = go (parse_reads words plain)
  where
    values : (pairs : List Given) → are_options pairs ≡ true → options_found (map row pairs) ≡ options_in pairs
    values pairs options = rw (
      value_row (codes "first") pairs options,
      value_row (codes "readers") pairs options,
      value_row (codes "made") pairs options,
      value_row (codes "count") pairs options,
      options,
    ) refl

    go : Reads [] words (fault_of program words) (matches_of program words) → options_found (matches_of program words) ≡ options_of words
    go (taken reads) = ap options_found reads.ends ∙ values reads.pairs reads.options ∙ sym (ap (option_and_then options_in) reads.parts)
    go (refused reads) = absurd (reads.fault clear)

-- if one fails, the words are outside the grammar
pub fault_outside : (words : List Text) → HasNoEnd words → HasFault (fault_of program words) → options_of words ≡ None
fault_outside words plain fault = go (parse_reads words plain)
  where
    none : ((pairs : List Given) → pairs_of words ≡ Some pairs → options_in pairs ≡ None) → (o : Option (List Given)) → pairs_of words ≡ o → option_and_then options_in o ≡ None
    none bad None is = refl
    none bad (Some pairs) is = bad pairs is

    go : Reads [] words (fault_of program words) (matches_of program words) → options_of words ≡ None
    go (taken reads) = absurd (fault reads.clear)
    go (refused reads) = none reads.none (pairs_of words) refl

-- ---- the same, of the matches of a parse

-- clap gives the matches of such a command, and its faults
pub is_simple_program : is_simple program ≡ true
is_simple_program = refl

-- and no argument has a rule on another
pub is_free_program : is_simple_and_free program ≡ true
is_free_program = refl

-- the values that are found give the options
pub matches_options : (found : Found) (words : List Text) → rows_of found ≡ matches_of program words → HasNoEnd words → fault_of program words ≡ []
    → options_from (first_value found (codes "first")) (first_value found (codes "readers")) (first_value found (codes "made")) (first_value found (codes "count")) ≡ options_of words
matches_options found words rows plain clear =
    rw (first_value-rows found (codes "first"), first_value-rows found (codes "readers"), first_value-rows found (codes "made"), first_value-rows found (codes "count"))
    (ap options_found rows ∙ found_options words plain clear)

-- none is one thing
pub is_none : {X : Type 0} (o : Option X) → IsNone o → o ≡ None
is_none None none = refl
is_none (Some x) none = absurd (true≢false none)

-- an error that is not out of memory is a step that failed
pub error_outside : (kinds : Kinds) (words : List Text) (e : Error) → HasNoEnd words → kinds ≡ fault_of program words → HasKind kinds e → ¬ (kind_of e ≡ OutOfMemory)
    → options_of words ≡ None
error_outside kinds words e plain is (inl memory) other = absurd (other memory)
error_outside kinds words e plain is (inr among) other = fault_outside words plain (λ clear. subst (IsAmong (kind_of e)) (is ∙ clear) among)
