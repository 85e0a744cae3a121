use Rattle.std.proofs.Common.{◌<◌, length, subst, arith}
use Rattle.std.specs.Option.{IfSome}
use Rattle.term_fingers.specs.Lists.{IsAtHand}
use Rattle.term_fingers.proofs.AtHand.{within_list}
use Rattle.term_fingers.proofs.finger.Finger.nearest_within.Goals as goal

pub returns : goal.returns
returns g c =
    let list = c.args.list.now in
    let postings = list.postings in
    let some : 0 < length postings = omega (arith, c.len.ensures.value, c.if-len-eq0.false) in
    subst (λ ps. IfSome c.nearest.result (IsAtHand c.args.direction ps c.args.k)) list.is
    (within_list postings c.args.k c.last.result c.args.direction c.nearest.result some (omega (arith, c.first.ensures some, c.if-k-first.false)) c.last.ensures (omega (arith, c.if-last-k.false)) c.nearest.ensures)
