use Rattle.std.proofs.Common.{◌≡◌, ◌+◌, ◌*◌, ◌++◌, max, drop, map}
use denote.Param.Weighed.{most}
use Rattle.gcl_model.specs.declared.expr.Expr.{size-Expr}
use Rattle.gcl_model.specs.FormOf.{form_of, forms_from}
use Rattle.gcl_model.specs.WellFormed.{AreWellFormed}
use Rattle.gcl_model.specs.Meaning.{operands}
use Rattle.plain_text.proofs.slow.+slow.Given as goal

-- the lists so far, and those of the rest
abbrev pub invariant-operand_lists-loop-expr : goal.invariant-operand_lists-loop-expr
invariant-operand_lists-loop-expr l =
    let rest = forms_from (map form_of (drop l.expr-index l.exprs)) in
    record {
      formed : AreWellFormed rest;
      lists : l.lists.items ++ operands l.text rest ≡ operands l.text (forms_from (map form_of l.exprs));
    }

-- an operand is smaller than the expression
abbrev pub decreases-slow_list : goal.decreases-slow_list
decreases-slow_list l = 2 * size-Expr l.expr.now

abbrev pub decreases-operand_lists : goal.decreases-operand_lists
decreases-operand_lists l = 2 * most size-Expr l.exprs.now + 1

abbrev pub decreases-slow_containment : goal.decreases-slow_containment
decreases-slow_containment l = 2 * max (size-Expr l.first.now) (size-Expr l.second.now) + 1
