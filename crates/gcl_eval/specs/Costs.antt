-- How many look-ups the accesses of a chain may make, each by itself.
use Rattle.std.specs.Prelude.{ℕ, ◌+◌, ◌-◌, ◌*◌}
use Rattle.gcl_model.specs.Texts.{Text}
use Rattle.gcl_model.specs.Forms.{Form, both, one, seq, containing}
use Rattle.gcl_model.specs.Cost.{cost, costs}
use Rattle.gcl_eval.specs.declared.direction.Access.{Access}
use Rattle.gcl_eval.specs.declared.direction.Access.TheVariants.{FirstStart, FirstEnd, LastEnd, LastStart}

-- how many look-ups an access may make that asks each operand of a chain at most `rounds` times: in two rounds "to" ^ "be"
-- takes 4, if a look-up is one step; other nodes take their cost
abbrev pub cost_in : (rounds : ℕ) → Text → ℕ → Form → ℕ
cost_in rounds text most (both forms) = rounds * costs text most forms
cost_in rounds text most (one forms) = rounds * costs text most forms
cost_in rounds text most (seq forms) = rounds * costs text most forms
cost_in rounds text most form = cost text most form

-- how many look-ups `first_start` and `last_end` may make, which take two rounds of a chain: for "to" ^ "be" 4, while its cost is 8
abbrev pub near_cost : Text → ℕ → Form → ℕ
near_cost = cost_in 2

-- how many rounds an access of a chain takes at most: `first_end` finds where to go on in two, and the next member in two more
abbrev pub rounds : Access → ℕ
rounds FirstStart = 2
rounds FirstEnd = 4
rounds LastEnd = 2
rounds LastStart = 4

-- how many look-ups a containment may make to begin further on, so that these and an access of its first operand are no more than an access
-- of each operand: of ("to".."be") > "not", if a look-up is one step, 5 by starts, since that access takes 4 of 8, and else none
abbrev pub ahead_cost : Access → Text → ℕ → Form → ℕ
ahead_cost FirstStart text most (containing a b) = (cost text most a - near_cost text most a) + cost text most b
ahead_cost access text most form = 0
