-- What clap reads of the program's command.
use Rattle.std.proofs.Common.{◌≡◌, ◌∷◌, ℕ, true, false, drop, Some, None, refl, codes, bytes_eq}
use Rattle.std.proofs.lemmas.Bool.{or_parts}
use Rattle.clap.specs.Simple.{Shape, built, filled}
use Rattle.clap.specs.Walk.{Rule, Text, arg_by_id, arg_by_index, arg_by_long, arg_by_short}
use Rattle.command_words.specs.Grammar.{is_option_name}
use Rattle.command_words.specs.Program.{option_rule, program}
use Rattle.command_words.proofs.PairLemmas.{each_name}

-- an option of the command once it is built
abbrev pub rule : Text → Rule
rule name = filled (option_rule name)

-- the command once it is built
abbrev pub shape : Shape
shape = (built program).top

-- what the walk over the words asks of the command: an argument is found by the name of an option, and by nothing else
pub record IsProgram (s : Shape) : Type 0 where
  pub by_long : (name : Text) → is_option_name (45 ∷ 45 ∷ name) ≡ true → arg_by_long s.rules name ≡ Some (rule name)
  pub by_no_long : (name : Text) → is_option_name (45 ∷ 45 ∷ name) ≡ false → arg_by_long s.rules name ≡ None
  pub by_id : (name : Text) → is_option_name (45 ∷ 45 ∷ name) ≡ true → arg_by_id s.rules name ≡ Some (rule name)
  pub by_short : (x : ℕ) → arg_by_short s.rules x ≡ None
  pub by_index : arg_by_index s.rules 1 ≡ None
  pub again : s.args_override_self ≡ false

-- a name of no option finds no argument
pub shape-by_no_long : (name : Text) → is_option_name (45 ∷ 45 ∷ name) ≡ false → arg_by_long shape.rules name ≡ None
shape-by_no_long name unknown =
    let first = or_parts (bytes_eq (codes "first") name) _ unknown in
    let readers = or_parts (bytes_eq (codes "readers") name) _ first.1 in
    let made = or_parts (bytes_eq (codes "made") name) _ readers.1 in
    let count = or_parts (bytes_eq (codes "count") name) _ made.1 in
    rw (first.0, readers.0, made.0, count.0) refl

-- the command is such a one
pub shape-IsProgram : IsProgram shape
shape-IsProgram = record {
  by_long = λ name. each_name (λ full. arg_by_long shape.rules (drop 2 full) ≡ Some (rule (drop 2 full))) refl refl refl refl (45 ∷ 45 ∷ name);
  by_no_long = shape-by_no_long;
  by_id = λ name. each_name (λ full. arg_by_id shape.rules (drop 2 full) ≡ Some (rule (drop 2 full))) refl refl refl refl (45 ∷ 45 ∷ name);
  by_short = λ x. refl;
  by_index = refl;
  again = refl;
}
