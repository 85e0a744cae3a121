use Rattle.std.proofs.Common.{◌-◌, ◌≡◌, ◌<◌, ◌≤◌, true, false}
use Rattle.posting_access.proofs.Digits.{IsHalved}
use Rattle.posting_access.proofs.halving.border.Given as goal

-- the border lies between, and each probe halved what lies there
abbrev pub invariant-loop-low : goal.invariant-loop-low
invariant-loop-low g l =
    let test = g.T.Test in
    record {
      from : l.from ≤ l.low;
      ordered : l.low ≤ l.high;
      upto : l.high ≤ l.upto;
      before : 0 < l.low → test.passes l.test (l.low - 1) ≡ true;
      after : l.high < test.places l.test → test.passes l.test l.high ≡ false;
      halved : IsHalved (l.upto - l.from) (l.high - l.low) l.fn.probes l.probes;
    }

abbrev pub decreases-loop-low : goal.decreases-loop-low
decreases-loop-low g l = l.high - l.low
