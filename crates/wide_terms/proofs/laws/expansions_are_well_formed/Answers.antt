use Rattle.wide_terms.proofs.Shaping.{expansion_formed}
use Rattle.wide_terms.proofs.laws.expansions_are_well_formed.Goals as goal

pub returns : goal.returns
returns c = expansion_formed
