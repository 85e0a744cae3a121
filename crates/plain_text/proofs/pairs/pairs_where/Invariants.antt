use Rattle.std.proofs.Common.{◌≡◌, ◌++◌}
use Rattle.plain_text.proofs.Rows.{rows}
use Rattle.plain_text.proofs.pairs.pairs_where.Given as goal

-- those so far, and the rows that are left
abbrev pub invariant-loop-start : goal.invariant-loop-start
invariant-loop-start g l = l.list ++ rows (g.T.PairTest.test l.test) l.start l.span.next ≡ rows (g.T.PairTest.test l.test) l.span.first l.span.next
