use Rattle.prefix_leaves.proofs.Renamed.{apart_decides}
use Rattle.prefix_leaves.proofs.laws.names_that_are_apart_decide.Goals as goal

pub returns : goal.returns
returns c = apart_decides
