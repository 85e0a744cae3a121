use Rattle.std.proofs.Common.{◌≡◌, ◌+◌, ◌*◌, ◌≤◌, max, map, take}
use denote.Param.Weighed.{most}
use Rattle.gcl_model.specs.declared.expr.Expr.{size-Expr}
use Rattle.gcl_model.specs.FormOf.{form_of, forms_from}
use Rattle.wide_terms.specs.Expansion.{expansion, sums_of_prefixes}
use Rattle.wide_terms.proofs.expanding.+expand.Given as goal

-- the operands so far are expanded, and what that took is within their sum
abbrev pub invariant-expanded_each-loop-operand : goal.invariant-expanded_each-loop-operand
invariant-expanded_each-loop-operand g l = record {
  value : map form_of l.exprs.items ≡ map (expansion (g.T.WordTable.text l.table)) (map form_of (take l.operand-index l.operands));
  counted : g.T.WordTable.count l.fn.counter ≤ g.T.WordTable.count l.counter;
  cost : g.T.WordTable.count l.counter ≤ g.T.WordTable.count l.fn.counter + sums_of_prefixes (g.T.WordTable.most l.table) (forms_from (map form_of (take l.operand-index l.operands)));
}

-- an operand is smaller than the expression
abbrev pub decreases-expanded : goal.decreases-expanded
decreases-expanded g l = 2 * size-Expr l.expr.now

abbrev pub decreases-expanded_each : goal.decreases-expanded_each
decreases-expanded_each g l = 2 * most size-Expr l.operands.now + 1

abbrev pub decreases-expanded_pair : goal.decreases-expanded_pair
decreases-expanded_pair g l = 2 * max (size-Expr l.first.now) (size-Expr l.second.now) + 1
