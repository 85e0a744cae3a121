use Rattle.std.proofs.Common.{◌≡◌, ◌+◌, ◌*◌, ◌≤◌, length, map, drop}
use denote.Param.Weighed.{most}
use Rattle.gcl_locality.specs.Windows.{all_told_from, all_told_upto}
use Rattle.gcl_model.specs.declared.expr.Expr.{size-Expr}
use Rattle.gcl_model.specs.FormOf.{form_of, forms_from}
use Rattle.live_version.specs.Contents.{version_text}
use Rattle.near_search.specs.Costs.{surround_costs}
use Rattle.near_search.proofs.around.+told.Given as goal

-- the addresses so far are those of the last operands
abbrev pub invariant-all_told-loop-left : goal.invariant-all_told-loop-left
invariant-all_told-loop-left g l =
    record {
      few : l.left ≤ length l.exprs;
      low : l.all.low ≡ all_told_from (version_text l.version) l.inner.low l.inner.high (forms_from (map form_of (drop l.left l.exprs)));
      high : l.all.high ≡ all_told_upto (version_text l.version) l.inner.low l.inner.high (forms_from (map form_of (drop l.left l.exprs)));
      cost : l.steps ≤ l.fn.steps + surround_costs l.version (forms_from (map form_of (drop l.left l.exprs)));
    }

abbrev pub decreases-all_told-loop-left : goal.decreases-all_told-loop-left
decreases-all_told-loop-left g l = l.left

-- an operand is smaller than the expression
abbrev pub decreases-told : goal.decreases-told
decreases-told g l = 2 * size-Expr l.expr.now

abbrev pub decreases-all_told : goal.decreases-all_told
decreases-all_told g l = 2 * most size-Expr l.exprs.now + 1
