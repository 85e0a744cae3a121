use Rattle.gcl_model.specs.Texts.{places}
use Rattle.live_version.specs.Contents.{live_of}
use Rattle.term_fingers.proofs.AtHand.{told_lies, version_tells}
use Rattle.term_fingers.proofs.elements.nearest_by.Goals as goal

pub returns-clause-answer : goal.returns-clause-answer
returns-clause-answer g c =
    let term = c.args.term.now in
    let finger = c.args.finger.now in
    version_tells g.J.Naming.version finger.slot finger.place term.bytes.now term.places c.args.direction c.args.k c.at_hand.result c.requires.version term.found c.requires.place.here c.requires.place.undeleted
    c.at_hand.ensures.answer

pub returns-clause-side : goal.returns-clause-side
returns-clause-side g c =
    told_lies c.args.direction (places (live_of g.J.Naming.version.slots) c.args.term.now.bytes.now) c.args.k c.at_hand.result (returns-clause-answer g c)
