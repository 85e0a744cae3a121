use Rattle.std.proofs.Common.{◌≡◌, ◌+◌, ◌*◌, ◌≤◌, length, map, drop}
use denote.Param.Weighed.{most}
use Rattle.gcl_locality.specs.Windows.{all_reach_from, all_reach_upto}
use Rattle.gcl_model.specs.declared.expr.Expr.{size-Expr}
use Rattle.gcl_model.specs.FormOf.{form_of, forms_from}
use Rattle.gcl_model.specs.Limits.{address_end}
use Rattle.live_version.specs.Contents.{version_text}
use Rattle.near_search.specs.Costs.{reach_costs}
use Rattle.near_search.proofs.around.+reach.Given as goal

-- the addresses so far are those of the last operands
abbrev pub invariant-all_reach-loop-left : goal.invariant-all_reach-loop-left
invariant-all_reach-loop-left g l =
    record {
      few : l.left ≤ length l.exprs;
      low : l.all.low ≡ all_reach_from (version_text l.version) l.inner.low (forms_from (map form_of (drop l.left l.exprs)));
      high : l.all.high ≡ all_reach_upto (version_text l.version) l.inner.high (forms_from (map form_of (drop l.left l.exprs)));
      low_within : l.all.low ≤ l.inner.low;
      high_within : l.all.high ≤ address_end;
      cost : l.steps ≤ l.fn.steps + reach_costs l.version (forms_from (map form_of (drop l.left l.exprs)));
    }

abbrev pub decreases-all_reach-loop-left : goal.decreases-all_reach-loop-left
decreases-all_reach-loop-left g l = l.left

-- an operand is smaller than the expression
abbrev pub decreases-reach : goal.decreases-reach
decreases-reach g l = 2 * size-Expr l.expr.now

abbrev pub decreases-all_reach : goal.decreases-all_reach
decreases-all_reach g l = 2 * most size-Expr l.exprs.now + 1
