use Rattle.std.proofs.Common.{◌+◌, ap}
use Rattle.term_fingers.proofs.Nearest.{below_one}
use Rattle.term_fingers.proofs.members.below_in_four.Goals as goal

pub returns : goal.returns
returns c =
    let at = c.quarter-at.result in
    below_one c.args.members.now c.args.k at (at + c.one_below.result) c.quarter-at.ensures.within c.quarter-at.ensures.ends (ap (λ n. at + n) c.one_below.ensures)
