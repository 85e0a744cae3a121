use Rattle.std.proofs.Common.{◌≡◌, Some, slice_get, sym, ap, ◌∙◌, subst}
use Rattle.term_fingers.specs.Lists.{HasNoDead}
use Rattle.term_fingers.proofs.AtHand.{version_tells}
use Rattle.term_fingers.proofs.term.Term.at_hand_in_block.Goals as goal

pub returns : goal.returns
returns g c =
    let v = g.J.Naming.version in
    let term = c.args.self.now in
    let finger = c.args.finger.now in
    let undeleted : HasNoDead v.slots finger.slot = subst (HasNoDead v.slots) c.slot-slot.ensures (c.is_undeleted.ensures c.if-not-is_undeleted.false) in
    let here : slice_get term.places finger.slot ≡ Some (Some finger.place) =
    ap (slice_get term.places) (sym c.slot-slot.ensures) ∙ c.has_place.ensures c.if-not-has_place.false ∙ ap (λ n. Some (Some n)) c.place.ensures in
    version_tells v finger.slot finger.place term.bytes.now term.places c.args.direction c.args.k c.at_hand.result c.requires term.found here undeleted c.at_hand.ensures.answer
