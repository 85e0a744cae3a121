use Rattle.gcl_model.proofs.Pairs.{no_pair_yet}
use Rattle.live_version.specs.Contents.{live_of}
use Rattle.term_fingers.proofs.fingers.FingersLeaves.earliest_pair.Goals as goal

pub returns-in_default-clause-none : goal.returns-in_default-clause-none
returns-in_default-clause-none g c = no_pair_yet (live_of c.args.self.now.slots) c.args.first.now c.args.second.now c.args.k

pub returns-in_default-find-clause-none : goal.returns-in_default-find-clause-none
returns-in_default-find-clause-none g c = no_pair_yet (live_of c.args.self.now.slots) c.args.first.now c.args.second.now c.args.k
