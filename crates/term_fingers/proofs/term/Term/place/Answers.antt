use Rattle.std.proofs.Common.{None}
use Rattle.term_fingers.proofs.Places.{place_known}
use Rattle.term_fingers.proofs.term.Term.place.Goals as goal

pub returns : goal.returns
returns g c = place_known g.J.Naming.version.slots c.args.number c.args.self.now.bytes.now c.args.shard.now c.args.self.now.places None c.requires c.args.self.now.found
