use Rattle.term_fingers.proofs.Nearest.{below_border}
use Rattle.term_fingers.proofs.members.count_far_below.Goals as goal

pub returns : goal.returns
returns c =
    let e = c.border_near.ensures in
    below_border c.args.members.now c.border_near.result c.args.k e.within e.before e.after
