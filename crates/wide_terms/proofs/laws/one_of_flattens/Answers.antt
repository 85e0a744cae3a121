use Rattle.wide_terms.proofs.Flattening.{one_flattens}
use Rattle.wide_terms.proofs.laws.one_of_flattens.Goals as goal

pub returns : goal.returns
returns c = one_flattens
