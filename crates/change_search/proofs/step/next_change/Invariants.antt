use Rattle.std.proofs.Common.{◌≡◌, ◌+◌, ◌≤◌, length}
use Rattle.standing_query.specs.Changes.{changes}
use Rattle.change_search.specs.inner.Sides.{IsSide, look_ups, to_come}
use Rattle.change_search.proofs.step.next_change.Given as goal

-- what was skipped is no change, and is paid
abbrev pub invariant-loop-change : goal.invariant-loop-change
invariant-loop-change g l = record {
  old : IsSide l.before;
  new : IsSide l.after;
  same : changes (to_come l.before) (to_come l.after) ≡ changes (to_come l.fn.before) (to_come l.fn.after);
  cost : l.steps + (look_ups l.before + look_ups l.after) ≤ l.fn.steps + (look_ups l.fn.before + look_ups l.fn.after);
}

abbrev pub decreases-loop-change : goal.decreases-loop-change
decreases-loop-change g l = length (to_come l.before) + length (to_come l.after)
