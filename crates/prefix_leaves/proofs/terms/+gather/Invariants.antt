use Rattle.std.proofs.Common.{◌≡◌, true}
use Rattle.std.specs.List.{list_all}
use Rattle.gcl_model.specs.Wide.{is_prefix_term}
use Rattle.prefix_leaves.proofs.terms.+gather.Given as goal

-- what was gathered so far are prefix terms
abbrev pub invariant-gather_each-loop-operand : goal.invariant-gather_each-loop-operand
invariant-gather_each-loop-operand l = list_all is_prefix_term l.tokens ≡ true
