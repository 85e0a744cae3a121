use Rattle.std.proofs.Common.{◌-◌, ◌<◌, ◌≤◌, length, get_or}
use Rattle.term_fingers.proofs.pairs.place_from.Given as goal

-- the members before `at` are below k
abbrev pub invariant-loop-at : goal.invariant-loop-at
invariant-loop-at l = record {
  within : l.at ≤ length l.members;
  before : 0 < l.at → get_or l.members (l.at - 1) 0 < l.k;
}

abbrev pub decreases-loop-at : goal.decreases-loop-at
decreases-loop-at l = length l.members - l.at
