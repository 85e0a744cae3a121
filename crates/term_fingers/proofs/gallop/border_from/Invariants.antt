use Rattle.std.proofs.Common.{◌≡◌, ◌-◌, ◌<◌, ◌≤◌, true}
use Rattle.term_fingers.proofs.gallop.border_from.Given as goal

-- the border is not before `low`
abbrev pub invariant-loop-step : goal.invariant-loop-step
invariant-loop-step g l = record {
  within : l.low ≤ l.len;
  before : 0 < l.low → g.T.Test.passes l.test (l.low - 1) ≡ true;
}

abbrev pub decreases-loop-step : goal.decreases-loop-step
decreases-loop-step g l = l.len - l.low
