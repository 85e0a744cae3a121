use Rattle.std.proofs.Common.{ℕ, ◌+◌, ◌-◌, ◌*◌, ◌<◌, ◌≤◌, IsTrue, length}
use Rattle.phrase_walk.specs.Starts.{IsInPlace}
use Rattle.phrase_walk.proofs.Steps.{NoneBefore, IsAskedForward}
use Rattle.phrase_walk.proofs.walks.first_from.Given as goal

-- no row starts at or after k and before here, the tokens were asked in a ring, and if the one at this turn is called in place, it is
abbrev pub invariant-loop-agreed : goal.invariant-loop-agreed
invariant-loop-agreed g l =
    let text = g.C.CountedLeaves.text l.source in
    let most = g.C.CountedLeaves.most l.source in
    record {
      asked : IsAskedForward text l.tokens l.k l.turn l.agreed l.start most (g.C.CountedLeaves.count l.fn.counter) (g.C.CountedLeaves.count l.counter);
      before : NoneBefore text l.tokens l.k l.start;
      from : l.k ≤ l.start;
      below : l.start < text.next;
      turn : l.turn < length l.tokens;
      agreed : l.agreed ≤ length l.tokens;
      stands : IsTrue l.stands → IsInPlace text l.tokens l.start l.turn;
      counted : g.C.CountedLeaves.count l.fn.counter ≤ g.C.CountedLeaves.count l.counter;
      capped : (cap : ℕ) → g.C.CountedLeaves.Caps l.source cap → g.C.CountedLeaves.count l.fn.counter ≤ cap → g.C.CountedLeaves.count l.counter ≤ cap;
    }

abbrev pub decreases-loop-agreed : goal.decreases-loop-agreed
decreases-loop-agreed g l = ((g.C.CountedLeaves.text l.source).next - l.start) * (l.len + 1) + (l.len - l.agreed)
