use Rattle.posting_access.proofs.Digits.{few_digits}
use Rattle.measure.proofs.lists.LeastFromQuestion.ask.Goals as goal

pub returns-clause-cost : goal.returns-clause-cost
returns-clause-cost g c = few_digits _ _ _ c.at_or_after.ensures.probes
