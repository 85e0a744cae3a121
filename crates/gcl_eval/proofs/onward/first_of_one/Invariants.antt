use Rattle.std.proofs.Common.{◌≡◌, ℕ, ◌+◌, ◌<◌, ◌≤◌, None, IfSome, drop}
use Rattle.gcl_model.specs.Limits.{address_end}
use Rattle.gcl_model.specs.WellFormed.{AreWellFormed}
use Rattle.gcl_eval.specs.Operands.{operand_forms, operand_lists, operand_costs}
use Rattle.gcl_combine.specs.Directions.{best}
use Rattle.gcl_eval.specs.KnownAnswers.{AreKnown}
use Rattle.gcl_model.specs.declared.direction.Direction.TheVariants.{Forward}
use Rattle.gcl_eval.proofs.onward.first_of_one.Given as goal

-- what is left, from the best so far, gives the same; and it costs no more than was allowed
abbrev pub invariant-loop-number : goal.invariant-loop-number
invariant-loop-number g l =
    let text = g.C.CountedLeaves.text l.source in
    let bound = g.C.CountedLeaves.most l.source in
    let rest = drop l.number l.operands in
    record {
      operands : AreWellFormed (operand_forms rest);
      answer : best Forward (operand_lists text rest) l.k l.best ≡ best Forward (operand_lists text l.operands) l.k None;
      within : IfSome l.best (λ a. a.end < address_end);
      known : AreKnown (operand_lists text l.operands) l.known;
      counted : g.C.CountedLeaves.count l.fn.counter ≤ g.C.CountedLeaves.count l.counter;
      cost : g.C.CountedLeaves.count l.counter + operand_costs text bound rest ≤ g.C.CountedLeaves.count l.fn.counter + operand_costs text bound l.operands;
      capped : (cap : ℕ) → g.C.CountedLeaves.Caps l.source cap → g.C.CountedLeaves.count l.fn.counter ≤ cap → g.C.CountedLeaves.count l.counter ≤ cap;
    }
