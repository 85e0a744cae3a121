-- Queries of a batch, and the lines that answer them.
use Rattle.std.specs.Prelude.{◌≡◌, ℕ, Bool, false, List, flat_map}
use Rattle.std.specs.List.{list_any, AllZip}
use Rattle.gcl_model.specs.Texts.{Text}
use Rattle.script_lang.specs.Lines.{Line, text_of_lines}
use Rattle.script_lang.specs.Answers.{is_refusal}
use Rattle.script_lang.specs.Commands.{command_of}
use Rattle.script_lang.specs.declared.commands.Command.{Command}
use Rattle.script_lang.specs.declared.commands.Command.TheVariants.{Find, Count, Top}
use Rattle.query_lanes.specs.Answers.{answer_in}
use Rattle.query_lanes.specs.declared.asks.Asked.{Asked}
use Rattle.query_lanes.specs.declared.asks.Asked.TheVariants.{All, First, Number}
use Rattle.query_lanes.specs.declared.asks.Ask.{Ask}
use Rattle.script_answers.specs.Answers.{query_lines}
pub use Rattle.answer_text.specs.Texts.{found_lines}

-- the lines that answer a query over a text
abbrev pub ask_lines : Text → Ask → List (List ℕ)
ask_lines text ask = found_lines (answer_in text ask)

-- the text that answers some queries
abbrev pub asks_text : Text → List Ask → List ℕ
asks_text text asks = text_of_lines (flat_map (ask_lines text) asks)

-- whether one of some queries is refused
abbrev pub asks_refuse : Text → List Ask → Bool
asks_refuse text asks = list_any is_refusal (flat_map (ask_lines text) asks)

-- the command that asks this of a query
abbrev pub command_asking : Asked → List ℕ → Command
command_asking All query = Find query
command_asking (First most) query = Top most query
command_asking Number query = Count query

-- a query of a batch is the one of this command: over each text it has the lines that answer its bytes
pub record IsAskOf (ask : Ask) (command : Command) : Type 0 where
  pub query : List ℕ
  pub command_is : command ≡ command_asking ask.asked query
  pub lines_are : (text : Text) → ask_lines text ask ≡ query_lines ask.asked text query

-- it is the query of this line
pub record AsksLine (ask : Ask) (line : Line) : Type 0 where
  pub short : line.long ≡ false
  pub asks : IsAskOf ask (command_of line.bytes)

-- each query is that of the line at its place, and they are equally many
abbrev pub AreAsked : List Ask → List Line → Type 0
AreAsked asks lines = AllZip AsksLine asks lines
