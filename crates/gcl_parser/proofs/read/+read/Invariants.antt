use Rattle.std.proofs.Common.{◌+◌, ◌-◌, ◌*◌, length}
use Rattle.gcl_parser.specs.Reading.{rank}
use Rattle.gcl_parser.proofs.Growing.{Chained, QuerySoFar}
use Rattle.gcl_parser.proofs.read.+read.Given as goal

-- the bytes that are left, and then how deep the part is in the grammar
abbrev pub decreases-bracketed : goal.decreases-bracketed
decreases-bracketed l = (length l.text.now - l.at) * 9 + 8

abbrev pub decreases-query : goal.decreases-query
decreases-query l = (length l.text.now - l.at) * 9 + 7

abbrev pub decreases-right_side : goal.decreases-right_side
decreases-right_side l = (length l.text.now - l.at) * 9 + 8

abbrev pub decreases-chain : goal.decreases-chain
decreases-chain l = (length l.text.now - l.at) * 9 + 2 * rank l.joint

abbrev pub decreases-member : goal.decreases-member
decreases-member l = (length l.text.now - l.at) * 9 + 2 * rank l.joint - 1

abbrev pub decreases-operand : goal.decreases-operand
decreases-operand l = (length l.text.now - l.at) * 9

-- the chain so far, with a joint after it
abbrev pub invariant-chain-loop-members : goal.invariant-chain-loop-members
invariant-chain-loop-members l = Chained l.joint l.text l.at l.next l.members.items

abbrev pub decreases-chain-loop-members : goal.decreases-chain-loop-members
decreases-chain-loop-members l = length l.text - l.next

-- the query so far
abbrev pub invariant-query-loop-containment : goal.invariant-query-loop-containment
invariant-query-loop-containment l = QuerySoFar l.text l.at l.whole

abbrev pub decreases-query-loop-containment : goal.decreases-query-loop-containment
decreases-query-loop-containment l = length l.text - l.whole.end
