use Rattle.gcl_model.proofs.Pairs.{no_pair_yet}
use Rattle.live_version.specs.Contents.{live_of}
use Rattle.term_fingers.proofs.term.Term.earliest_pair.Goals as goal

pub returns-in_default-clause-none : goal.returns-in_default-clause-none
returns-in_default-clause-none g c = no_pair_yet (live_of g.J.Naming.version.slots) c.args.self.now.bytes.now c.args.other.now.bytes.now c.args.k

pub returns-in_default-try_borrow_mut-clause-none : goal.returns-in_default-try_borrow_mut-clause-none
returns-in_default-try_borrow_mut-clause-none g c = no_pair_yet (live_of g.J.Naming.version.slots) c.args.self.now.bytes.now c.args.other.now.bytes.now c.args.k
