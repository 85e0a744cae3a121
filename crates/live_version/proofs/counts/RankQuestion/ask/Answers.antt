use Rattle.posting_access.proofs.Digits.{few_digits}
use Rattle.live_version.proofs.counts.RankQuestion.ask.Goals as goal

pub returns-clause-cost : goal.returns-clause-cost
returns-clause-cost g c = few_digits _ _ _ c.rank.ensures.probes
