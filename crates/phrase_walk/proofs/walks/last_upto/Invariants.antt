use Rattle.std.proofs.Common.{ℕ, ◌+◌, ◌-◌, ◌*◌, ◌<◌, ◌≤◌, length}
use Rattle.phrase_walk.proofs.Steps.{NoneBehind, IsAskedBackward}
use Rattle.phrase_walk.proofs.walks.last_upto.Given as goal

-- no row starts after here up to k, and the tokens were asked in a ring, the last one first
abbrev pub invariant-loop-agreed : goal.invariant-loop-agreed
invariant-loop-agreed g l =
    let text = g.C.CountedLeaves.text l.source in
    let most = g.C.CountedLeaves.most l.source in
    record {
      asked : IsAskedBackward text l.tokens l.turn l.agreed l.start most (g.C.CountedLeaves.count l.fn.counter) (g.C.CountedLeaves.count l.counter);
      behind : NoneBehind text l.tokens l.k l.start;
      upto : l.start ≤ l.k;
      within : l.start ≤ l.room;
      turn : l.turn < length l.tokens;
      agreed : l.agreed ≤ length l.tokens;
      counted : g.C.CountedLeaves.count l.fn.counter ≤ g.C.CountedLeaves.count l.counter;
      capped : (cap : ℕ) → g.C.CountedLeaves.Caps l.source cap → g.C.CountedLeaves.count l.fn.counter ≤ cap → g.C.CountedLeaves.count l.counter ≤ cap;
    }

abbrev pub decreases-loop-agreed : goal.decreases-loop-agreed
decreases-loop-agreed g l = l.start * (l.len + 1) + (l.len - l.agreed)
