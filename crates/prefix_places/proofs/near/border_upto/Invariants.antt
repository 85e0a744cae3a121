use Rattle.std.proofs.Common.{◌<◌, ◌≤◌, length, get_or}
use Rattle.prefix_places.proofs.near.border_upto.Given as goal

-- the border is not after `high`
abbrev pub invariant-loop-step : goal.invariant-loop-step
invariant-loop-step l = record {
  within : l.high ≤ length l.numbers;
  after : l.high < length l.numbers → l.k ≤ get_or l.numbers l.high 0;
}

abbrev pub decreases-loop-step : goal.decreases-loop-step
decreases-loop-step l = l.high
