use Rattle.wide_terms.proofs.Shaping.{others_stay}
use Rattle.wide_terms.proofs.laws.others_stay.Goals as goal

pub returns : goal.returns
returns c = others_stay
