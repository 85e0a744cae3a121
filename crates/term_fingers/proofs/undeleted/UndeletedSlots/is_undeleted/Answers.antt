use Rattle.std.proofs.Common.{false}
use Rattle.term_fingers.proofs.AtHand.{undeleted_known}
use Rattle.term_fingers.proofs.undeleted.UndeletedSlots.is_undeleted.Goals as goal

pub returns : goal.returns
returns g c = undeleted_known g.J.Naming.version.slots c.args.number c.args.self.now.undeleted false c.args.self.now.known
