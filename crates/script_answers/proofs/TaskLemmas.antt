-- What a line asks for, by its command.
use Rattle.std.proofs.Common.{◌≡◌, ℕ, Bool, false, List, [], IfSome, refl, sym, ap, ◌∙◌, subst}
use Rattle.std.specs.Prelude.{if◌then◌else◌}
use Rattle.script_answers.proofs.Prelude.{action_kept, action_names, action_of, command_asking, is_query, names_asked, names_kept, names_kept_of_line, names_of_line, reply, task_kept, task_names, told_reply, Action, Ask, AsksLine, IsAskOf, IsReadBy, IsReadByAction, IsReadUnless, IsTaskFor, IsTaskOf, Limits, Line, State}
use Rattle.script_lang.specs.Commands.{command_of}
use Rattle.script_lang.specs.declared.commands.Command.{Command}
use Rattle.script_lang.specs.declared.commands.Command.TheVariants.{Blank, Add, Del, Find, Count, Top, Files, Merge, Shards, Save, Load, Watch, Unwatch, Wrong}
use Rattle.query_lanes.specs.declared.asks.Asked.{Asked}
use Rattle.query_lanes.specs.declared.asks.Asked.TheVariants.{All, First, Number}
use Rattle.script_answers.specs.declared.task.Task.{Task}
use Rattle.script_answers.specs.declared.task.Task.TheVariants.{Nothing, Ask as Asks, Act}

-- a command does this, and asks no query
record Acts (command : Command) (action : Action) : Type 0 where
  same : (limits : Limits) (state : State) → reply limits state command ≡ told_reply limits state action
  names : names_asked command ≡ action_names action
  kept : names_kept command ≡ action_kept action
  reads : (state : State) → IsReadBy state command → IsReadByAction state action
  unasked : is_query command ≡ false

acts : (command : Command) → IfSome (action_of command) (Acts command)
acts (Add name) = record { same = λ limits state. refl; names = refl; kept = refl; reads = λ state read. read; unasked = refl }
acts (Del id) = record { same = λ limits state. refl; names = refl; kept = refl; reads = λ state read. read; unasked = refl }
acts Files = record { same = λ limits state. refl; names = refl; kept = refl; reads = λ state read. read; unasked = refl }
acts Merge = record { same = λ limits state. refl; names = refl; kept = refl; reads = λ state read. read; unasked = refl }
acts Shards = record { same = λ limits state. refl; names = refl; kept = refl; reads = λ state read. read; unasked = refl }
acts (Save name) = record { same = λ limits state. refl; names = refl; kept = refl; reads = λ state read. read; unasked = refl }
acts (Load name) = record { same = λ limits state. refl; names = refl; kept = refl; reads = λ state read. read; unasked = refl }
acts (Watch query) = record { same = λ limits state. refl; names = refl; kept = refl; reads = λ state read. read; unasked = refl }
acts (Unwatch number) = record { same = λ limits state. refl; names = refl; kept = refl; reads = λ state read. read; unasked = refl }
acts Wrong = record { same = λ limits state. refl; names = refl; kept = refl; reads = λ state read. read; unasked = refl }
acts Blank = tt
acts (Find query) = tt
acts (Count query) = tt
acts (Top most query) = tt

module _ (line : Line) (short : line.long ≡ false) where
  -- what is computed of the command of a line that is not long
  asked : {T : Type 0} (long : T) (f : Command → T) (command : Command) → command_of line.bytes ≡ command → (if line.long then long else f (command_of line.bytes)) ≡ f command
  asked long f command is = ap (λ (b : Bool). if b then long else f (command_of line.bytes)) short ∙ ap f is

  -- it asks for what its command asks for
  pub task_of_line : (task : Task) (command : Command) → command_of line.bytes ≡ command → IsTaskFor task command → IsTaskOf task line
  task_of_line Nothing command is blank = record {
    reply_is = λ limits state. asked _ (reply limits state) Blank (is ∙ blank);
    names_are = asked [] names_asked Blank (is ∙ blank);
    kept_are = asked [] names_kept Blank (is ∙ blank);
  }
  task_of_line (Asks ask) command is asks = record { short = short; asks = subst (IsAskOf ask) (sym is) asks }
  task_of_line (Act action) command is does =
      let facts : Acts command action = subst (λ o. IfSome o (Acts command)) does (acts command) in
      record {
        reply_is = λ limits state. asked _ (reply limits state) command is ∙ facts.same limits state;
        names_are = asked [] names_asked command is ∙ facts.names;
        kept_are = asked [] names_kept command is ∙ facts.kept;
        reads = λ state read. facts.reads state (subst (IsReadBy state) is (subst (λ (long : Bool). IsReadUnless long state line.bytes) short read));
        unasked = asked false is_query command is ∙ facts.unasked;
      }

-- what is computed of a command that asks a query
pub of_query : {T : Type 0} (long : T) (f : Command → T) (ask : Ask) (line : Line) → (asks : AsksLine ask line) → (if line.long then long else f (command_of line.bytes)) ≡ f (command_asking ask.asked asks.asks.query)
of_query long f ask line asks = asked line asks.short long f (command_asking ask.asked asks.asks.query) asks.asks.command_is

-- what holds of each command that asks a query
pub of_asking : (P : Command → Type 0) (asked : Asked) (query : List ℕ) → P (Find query) → ((most : ℕ) → P (Top most query)) → P (Count query) → P (command_asking asked query)
of_asking P All query all first number = all
of_asking P (First most) query all first number = first most
of_asking P Number query all first number = number

-- the names of a line are those of its task
pub task_names_are : (task : Task) (line : Line) → IsTaskOf task line → names_of_line line ≡ task_names task
task_names_are Nothing line is = is.names_are
task_names_are (Asks ask) line is = of_query [] names_asked ask line is ∙ of_asking (λ command. names_asked command ≡ []) ask.asked is.asks.query refl (λ most. refl) refl
task_names_are (Act action) line is = is.names_are

pub task_kept_are : (task : Task) (line : Line) → IsTaskOf task line → names_kept_of_line line ≡ task_kept task
task_kept_are Nothing line is = is.kept_are
task_kept_are (Asks ask) line is = of_query [] names_kept ask line is ∙ of_asking (λ command. names_kept command ≡ []) ask.asked is.asks.query refl (λ most. refl) refl
task_kept_are (Act action) line is = is.kept_are
