use Rattle.std.proofs.Common.{◌≡◌, ◌+◌, ◌≤◌, length}
use Rattle.gcl_model.specs.Extents.{IsRising}
use Rattle.standing_query.specs.Changes.{changes}
use Rattle.standing_query.proofs.merge.next_change.Given as goal

-- what changes between the members that are left is what changed between all
abbrev pub invariant-loop : goal.invariant-loop
invariant-loop g l =
    record {
      old_rises : IsRising l.old.left;
      new_rises : IsRising l.new.left;
      same : changes l.fn.old.left l.fn.new.left ≡ changes l.old.left l.new.left;
      cost : l.steps + (l.old.look_ups + l.new.look_ups) ≤ l.fn.steps + (l.fn.old.look_ups + l.fn.new.look_ups);
    }

abbrev pub decreases-loop : goal.decreases-loop
decreases-loop g l = length l.old.left
