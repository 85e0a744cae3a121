use Rattle.standing_query.proofs.ExactLemmas.{changes_exact}
use Rattle.standing_query.proofs.laws.changes_are_exact.Goals as goal

pub returns : goal.returns
returns c = λ old new r s. changes_exact old new r s
