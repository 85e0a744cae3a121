-- A command that takes a name carries one.
use Rattle.std.proofs.Common.{◌≡◌, ℕ, Bool, true, false, List, Some, None, unwrap_or, cond, refl}
use Rattle.std.specs.Option.{option_map}
use Rattle.gcl_model.specs.Names.{is_name}
use Rattle.script_lang.specs.Commands.{IsNamed, named}
use Rattle.script_lang.specs.declared.commands.Command.{Command}
use Rattle.script_lang.specs.declared.commands.Command.TheVariants.{Wrong}

-- if a name makes a command that carries it, and anything else none
pub named_carries : (make : List ℕ → Command) → ((name : List ℕ) → is_name name ≡ true → IsNamed (make name)) → (argument : List ℕ) → IsNamed (named make argument)
named_carries make carries argument = by_test (is_name argument) refl
  where
    by_test : (b : Bool) → is_name argument ≡ b → IsNamed (unwrap_or (option_map make (cond b (Some argument) None)) Wrong)
    by_test true is = carries argument is
    by_test false is = tt
