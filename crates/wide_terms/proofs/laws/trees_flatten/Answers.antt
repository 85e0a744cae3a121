use Rattle.wide_terms.proofs.Flattening.{tree_flattens}
use Rattle.wide_terms.proofs.laws.trees_flatten.Goals as goal

pub returns : goal.returns
returns c = tree_flattens
