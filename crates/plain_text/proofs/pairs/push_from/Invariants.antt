use Rattle.std.proofs.Common.{◌≡◌, ◌++◌}
use Rattle.plain_text.proofs.Rows.{row}
use Rattle.plain_text.proofs.pairs.push_from.Given as goal

-- those so far, and the rest of the row
abbrev pub invariant-loop-end : goal.invariant-loop-end
invariant-loop-end g l = l.list ++ row (g.T.PairTest.test l.test) l.start l.end l.next ≡ l.fn.list ++ row (g.T.PairTest.test l.test) l.start l.start l.next
