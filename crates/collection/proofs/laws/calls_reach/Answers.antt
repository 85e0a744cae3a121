use Rattle.collection.proofs.CallLemmas.{calls_reach}
use Rattle.collection.proofs.laws.calls_reach.Goals as goal

pub returns : goal.returns
returns c = calls_reach
