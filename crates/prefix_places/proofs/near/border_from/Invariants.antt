use Rattle.std.proofs.Common.{◌-◌, ◌<◌, ◌≤◌, length, get_or}
use Rattle.prefix_places.proofs.near.border_from.Given as goal

-- the border is not before `low`
abbrev pub invariant-loop-step : goal.invariant-loop-step
invariant-loop-step l = record {
  within : l.low ≤ length l.numbers;
  before : 0 < l.low → get_or l.numbers (l.low - 1) 0 < l.k;
}

abbrev pub decreases-loop-step : goal.decreases-loop-step
decreases-loop-step l = length l.numbers - l.low
