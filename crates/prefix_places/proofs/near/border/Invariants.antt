use Rattle.std.proofs.Common.{◌-◌, ◌<◌, ◌≤◌, length, get_or}
use Rattle.prefix_places.proofs.near.border.Given as goal

-- the border lies between
abbrev pub invariant-loop-low : goal.invariant-loop-low
invariant-loop-low l = record {
  ordered : l.low ≤ l.high;
  upto : l.high ≤ l.upto;
  before : 0 < l.low → get_or l.numbers (l.low - 1) 0 < l.k;
  after : l.high < length l.numbers → l.k ≤ get_or l.numbers l.high 0;
}

abbrev pub decreases-loop-low : goal.decreases-loop-low
decreases-loop-low l = l.high - l.low
