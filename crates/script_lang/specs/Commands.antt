-- The command of a line.
use Rattle.std.specs.Prelude.{ℕ, ◌≡◌, true, ⊤, ◌==◌, List, [], ◌∷◌, length, codes, bytes_eq, unwrap_or, Option, None, Some, if◌then◌else◌}
use Rattle.std.specs.Option.{option_map}
use Rattle.std.specs.List.{before_first}
use Rattle.gcl_model.specs.Names.{is_name}
use Rattle.gcl_model.specs.Tokens.{is_blank}
use Rattle.script_lang.specs.Blanks.{behind_word}
use Rattle.script_lang.specs.Numbers.{number_of}
use Rattle.script_lang.specs.declared.commands.Command.{Command}
use Rattle.script_lang.specs.declared.commands.Command.TheVariants.{Blank, Add, Del, Find, Count, Top, Files, Merge, Shards, Save, Load, Watch, Unwatch, Wrong}

-- what a command carries as a name is a name
abbrev pub IsNamed : Command → Type 0
IsNamed (Add name) = is_name name ≡ true
IsNamed (Save name) = is_name name ≡ true
IsNamed (Load name) = is_name name ≡ true
IsNamed _ = ⊤

-- the argument if it is a name
abbrev pub name_of : List ℕ → Option (List ℕ)
name_of argument = if is_name argument then Some argument else None

-- the argument is a name
abbrev pub named : (List ℕ → Command) → List ℕ → Command
named make argument = unwrap_or (option_map make (name_of argument)) Wrong

-- the argument is a number
abbrev pub numbered : (ℕ → Command) → List ℕ → Command
numbered make argument = unwrap_or (option_map make (number_of argument)) Wrong

-- the argument is a number up to a blank or the end, and then a query
abbrev pub top_of : List ℕ → Command
top_of argument = unwrap_or (option_map (λ n. Top n (behind_word argument)) (number_of (before_first is_blank argument))) Wrong

-- there is no argument
abbrev pub alone : Command → List ℕ → Command
alone command argument = if length argument == 0 then command else Wrong

-- each command word, with the command that it makes of its argument
abbrev pub table : List (List ℕ × (List ℕ → Command))
table =
    (codes "add", named Add) ∷
    (codes "del", numbered Del) ∷
    (codes "find", Find) ∷
    (codes "count", Count) ∷
    (codes "top", top_of) ∷
    (codes "files", alone Files) ∷
    (codes "merge", alone Merge) ∷
    (codes "shards", alone Shards) ∷
    (codes "save", named Save) ∷
    (codes "open", named Load) ∷
    (codes "watch", Watch) ∷
    (codes "unwatch", numbered Unwatch) ∷ []

-- by the entry of the word, or Wrong if it has none
abbrev pub by_table : List (List ℕ × (List ℕ → Command)) → List ℕ → List ℕ → Command
by_table [] word argument = Wrong
by_table (entry ∷ entries) word argument = if bytes_eq word entry.0 then entry.1 argument else by_table entries word argument

-- an empty line is blank; of any other the first word gives the command, and the rest is its argument
abbrev pub command_of : List ℕ → Command
command_of line = if length line == 0 then Blank else by_table table (before_first is_blank line) (behind_word line)
