use Rattle.std.proofs.Common.{◌<◌, length, take, arith}
use Rattle.std.proofs.lemmas.List.{length-take}
use Rattle.term_fingers.specs.Lists.{list_of}
use Rattle.term_fingers.proofs.AtHand.{at_hand}
use Rattle.term_fingers.proofs.Beside.{list_rises, members_rise}
use Rattle.term_fingers.proofs.finger.Finger.at_hand.Goals as goal

pub nearest_in-found-requires : goal.nearest_in-found-requires
nearest_in-found-requires g c =
    let finger = c.args.self.now in
    members_rise g.J.Naming.version finger.slot finger.place finger.block finger.count finger.members c.requires finger.is

pub returns-clause-answer : goal.returns-clause-answer
returns-clause-answer g c =
    let v = g.J.Naming.version in
    let finger = c.args.self.now in
    let part = take finger.count finger.members in
    let reach = c.reach_around.ensures c.if-not-reach_around.false in
    let some : 0 < length part = reach.0 in
    let held : 0 < finger.count = omega (arith, some, length-take finger.count finger.members) in
    at_hand (list_of v.slots finger.slot finger.place) part finger.block c.args.k c.args.direction c.nearest_in-found.result.0 (list_rises v finger.slot finger.place c.requires) (finger.is held) some reach.1 reach.2
    c.nearest_in-found.ensures
