use Rattle.std.proofs.Common.{arith}
use Rattle.posting_code.proofs.Around.{around_leaps, around_goes, around_met}
use Rattle.posting_code.proofs.unpack.around_in.Goals as goal

pub loop-member-init : goal.loop-member-init
loop-member-init c =
    let stop = c.leap_below-stop.ensures in
    around_leaps _ _ _ _ _ _ _ _ c.requires.can c.requires.enough stop.few stop.rest stop.can stop.below

pub loop-member-preserved : goal.loop-member-preserved
loop-member-preserved c =
    around_goes _ _ _ _ _ _ _ _ _ _ _ c.loop-member.invariant (omega arith) (omega arith) c.next_member-member.ensures.next c.next_member-member.ensures.can

pub returns-clause-below : goal.returns-clause-below
returns-clause-below c = (around_met _ _ _ _ _ _ _ _ _ c.loop-member.invariant (omega arith)).0
