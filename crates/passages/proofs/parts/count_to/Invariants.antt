use Rattle.std.proofs.Common.{◌-◌, ◌≤◌}
use Rattle.passages.specs.Order.{IsNumbered}
use Rattle.passages.proofs.parts.count_to.Given as goal

abbrev pub invariant-loop-place : goal.invariant-loop-place
invariant-loop-place l = record { numbered : IsNumbered l.bytes l.place; before : l.place.at ≤ l.to }

abbrev pub decreases-loop-place : goal.decreases-loop-place
decreases-loop-place l = l.to - l.place.at
