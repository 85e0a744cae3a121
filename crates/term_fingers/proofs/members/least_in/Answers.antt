use Rattle.std.proofs.Common.{sym, ◌∙◌, arith}
use Rattle.std.proofs.lemmas.Option.{slice_get-get_or, slice_get_past}
use Rattle.term_fingers.proofs.Nearest.{least_below}
use Rattle.term_fingers.proofs.members.least_in.Goals as goal

pub returns-then-at-members : goal.returns-then-at-members
returns-then-at-members c =
    let below = c.count_below-at.ensures in
    sym (least_below c.args.members.now c.count_below-at.result c.args.k c.requires below ∙ slice_get_past c.args.members.now c.count_below-at.result (omega (arith, c.if-at-members.true)))

pub returns : goal.returns
returns c =
    let below = c.count_below-at.ensures in
    sym (least_below c.args.members.now c.count_below-at.result c.args.k c.requires below ∙ slice_get-get_or c.args.members.now c.count_below-at.result 0 (omega (arith, below.within, c.if-at-members.false)))
