use Rattle.posting_access.proofs.Digits.{few_digits}
use Rattle.posting_tests.proofs.nearest.RankQuestion.ask.Goals as goal

pub returns : goal.returns
returns g c = record { answer = tt; cost = few_digits _ _ _ c.rank.ensures.probes }
