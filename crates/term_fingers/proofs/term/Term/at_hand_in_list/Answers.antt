use Rattle.std.proofs.Common.{subst}
use Rattle.std.specs.Option.{IfSome}
use Rattle.term_fingers.specs.Lists.{IsAtHand, list_of}
use Rattle.term_fingers.proofs.AtHand.{version_tells}
use Rattle.term_fingers.proofs.term.Term.at_hand_in_list.Goals as goal

pub returns : goal.returns
returns g c =
    let v = g.J.Naming.version in
    let term = c.args.self.now in
    let slot = c.slot-slot.result in
    let list = c.in_ok-list.list in
    version_tells v slot list.place term.bytes.now term.places c.args.direction c.args.k c.nearest_within.result c.requires term.found
    c.in_ok-list.ensures.place (c.is_undeleted.ensures c.if-not-is_undeleted.false)
    (subst (λ n. IfSome c.nearest_within.result (IsAtHand c.args.direction (list_of v.slots n list.place) c.args.k)) c.in_ok-list.ensures.slot c.nearest_within.ensures)
