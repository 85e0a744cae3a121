use Rattle.gcl_model.proofs.Pairs.{no_pair_yet}
use Rattle.gcl_model.proofs.leaves.Leaves.earliest_pair.Goals as goal

pub returns-clause-none : goal.returns-clause-none
returns-clause-none g c = no_pair_yet (g.Self.Leaves.text c.args.self.now).words c.args.first.now c.args.second.now c.args.k
