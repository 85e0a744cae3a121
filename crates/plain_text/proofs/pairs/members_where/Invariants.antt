use Rattle.std.proofs.Common.{◌≡◌, filter, take}
use Rattle.plain_text.proofs.pairs.members_where.Given as goal

-- those so far that pass
abbrev pub invariant-loop-member : goal.invariant-loop-member
invariant-loop-member g l = l.list ≡ filter (g.T.PairTest.test l.test) (take l.member-index l.members)
