use Rattle.std.proofs.Common.{◌-◌, ◌^◌, ◌<◌, ◌≤◌, length, get_or, arith}
use Rattle.posting_code.proofs.Rising.{rise_index}
use Rattle.term_fingers.proofs.Beside.{below_place}
use Rattle.term_fingers.proofs.Nearest.{climbs}
use Rattle.term_fingers.proofs.pairs.address_at.Goals as goal

pub overflow_add-result : goal.overflow_add-result
overflow_add-result c =
    let below : get_or c.args.members.now (c.args.at - 1) 0 < 2 ^ 56 = (rise_index 0 (2 ^ 56) c.args.members.now (c.args.at - 1) c.requires.rising (omega (arith, c.requires.some, c.if-at-members.true))).1 in
    omega (arith, below)

pub returns-else-at-members-clause-before : goal.returns-else-at-members-clause-before
returns-else-at-members-clause-before c = λ x within less. below_place c.args.members.now c.args.at x c.requires.rising within less

pub returns-else-at-members-clause-upto : goal.returns-else-at-members-clause-upto
returns-else-at-members-clause-upto c =
    let members = c.args.members.now in
    let inside : c.args.at ≤ length members - 1 = omega (arith, c.requires.within, c.if-at-members.false) in
    let up : get_or members c.args.at 0 ≤ get_or members (length members - 1) 0 = climbs 0 (2 ^ 56) members c.args.at (length members - 1) c.requires.rising inside (omega (arith, c.requires.some)) in
    omega (arith, up)
