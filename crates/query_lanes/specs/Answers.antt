-- The answer to a query over a text.
use Rattle.std.specs.Prelude.{List, length, take, Result, Ok, Err}
use Rattle.std.specs.Global.{Global}
use Rattle.std.specs.declared.sync.Arc.{Arc}
use Rattle.gcl_model.specs.Extents.{Extent}
use Rattle.gcl_model.specs.Texts.{Text}
use Rattle.gcl_model.specs.FormOf.{form_of}
use Rattle.gcl_model.specs.Wide.{wide}
use Rattle.gcl_model.specs.declared.expr.Expr.{Expr}
use Rattle.gcl_parser.specs.declared.fault.QueryFault.{QueryFault}
use Rattle.query_lanes.specs.declared.asks.Asked.{Asked}
use Rattle.query_lanes.specs.declared.asks.Asked.TheVariants.{All, First, Number}
use Rattle.query_lanes.specs.declared.asks.Ask.{Ask}
use Rattle.query_lanes.specs.declared.asks.Found.{Found}
use Rattle.query_lanes.specs.declared.asks.Found.TheVariants.{List as Members, Total, Refused}

-- what is found in a list: all of it, its first members up to a number, or how many it has. In (1, 1), (5, 5) a query for the first
-- member finds (1, 1)
abbrev pub found_in : Asked → List Extent → Found
found_in All list = Members list
found_in (First most) list = Members (take most list)
found_in Number list = Total (length list)

-- what is found in the wide list of an expression, or the fault for which there is none
abbrev pub answer_by : Asked → Text → Result (Arc Expr Global) QueryFault → Found
answer_by asked text (Ok expr) = found_in asked (wide text (form_of expr.value))
answer_by asked text (Err fault) = Refused fault

-- the answer to a query over a text: over "to be or not to be" at address 0, to `count "to"` it is the number 2
abbrev pub answer_in : Text → Ask → Found
answer_in text ask = answer_by ask.asked text ask.query
