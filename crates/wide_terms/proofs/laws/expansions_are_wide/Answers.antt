use Rattle.wide_terms.proofs.Spreading.{expansion_is_wide}
use Rattle.wide_terms.proofs.laws.expansions_are_wide.Goals as goal

pub returns : goal.returns
returns c = expansion_is_wide
