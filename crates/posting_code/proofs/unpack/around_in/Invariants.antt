use Rattle.posting_code.proofs.Around.{IsAround}
use Rattle.posting_code.proofs.unpack.around_in.Given as goal

-- the answers are those about the members that are left, else the one below so far
abbrev pub invariant-loop-member : goal.invariant-loop-member
invariant-loop-member l = IsAround l.packed l.first l.at l.behind l.k l.member.value l.member.after l.left l.below

abbrev pub decreases-loop-member : goal.decreases-loop-member
decreases-loop-member l = l.left
