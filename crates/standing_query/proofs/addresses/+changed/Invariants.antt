use Rattle.std.proofs.Common.{◌≡◌, ◌+◌, ◌*◌, ◌<◌, ◌≤◌, length, map, drop}
use denote.Param.Weighed.{most}
use Rattle.gcl_locality.specs.Changed.{greatest_changed, least_changed}
use Rattle.gcl_model.specs.declared.expr.Expr.{size-Expr}
use Rattle.gcl_model.specs.FormOf.{form_of, forms_from}
use Rattle.gcl_model.specs.Limits.{address_end}
use Rattle.live_version.specs.Contents.{version_text}
use Rattle.standing_query.specs.Edits.{finding_costs}
use Rattle.standing_query.proofs.addresses.+changed.Given as goal

-- the addresses so far are those of the last operands
abbrev pub invariant-all_changed-loop-left : goal.invariant-all_changed-loop-left
invariant-all_changed-loop-left g l =
    record {
      few : l.left ≤ length l.exprs;
      low : l.all.low ≡ least_changed (version_text l.old) (version_text l.new) l.edited.first (forms_from (map form_of (drop l.left l.exprs)));
      high : l.all.high ≡ greatest_changed (version_text l.old) (version_text l.new) l.edited.last (forms_from (map form_of (drop l.left l.exprs)));
      low_within : l.all.low < address_end;
      high_within : l.all.high < address_end;
      cost : l.steps ≤ l.fn.steps + finding_costs l.old l.new (forms_from (map form_of (drop l.left l.exprs)));
    }

abbrev pub decreases-all_changed-loop-left : goal.decreases-all_changed-loop-left
decreases-all_changed-loop-left g l = l.left

-- an operand is smaller than the expression
abbrev pub decreases-changed_addresses : goal.decreases-changed_addresses
decreases-changed_addresses g l = 2 * size-Expr l.expr.now

abbrev pub decreases-all_changed : goal.decreases-all_changed
decreases-all_changed g l = 2 * most size-Expr l.exprs.now + 1
