use Rattle.std.proofs.Common.{◌≡◌, ◌<◌, ◌≤◌, false}
use Rattle.term_fingers.proofs.gallop.border_upto.Given as goal

-- the border is not after `high`
abbrev pub invariant-loop-step : goal.invariant-loop-step
invariant-loop-step g l = record {
  within : l.high ≤ g.T.Test.places l.test;
  after : l.high < g.T.Test.places l.test → g.T.Test.passes l.test l.high ≡ false;
}

abbrev pub decreases-loop-step : goal.decreases-loop-step
decreases-loop-step g l = l.high
