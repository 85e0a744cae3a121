use Rattle.std.proofs.Common.{◌≡◌, ◌-◌, ◌<◌, ◌≤◌, true, false}
use Rattle.term_fingers.proofs.gallop.border_between.Given as goal

-- the border lies between
abbrev pub invariant-loop-low : goal.invariant-loop-low
invariant-loop-low g l = record {
  ordered : l.low ≤ l.high;
  within : l.high ≤ g.T.Test.places l.test;
  before : 0 < l.low → g.T.Test.passes l.test (l.low - 1) ≡ true;
  after : l.high < g.T.Test.places l.test → g.T.Test.passes l.test l.high ≡ false;
}

abbrev pub decreases-loop-low : goal.decreases-loop-low
decreases-loop-low g l = l.high - l.low
