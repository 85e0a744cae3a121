use Rattle.posting_access.proofs.Digits.{few_digits}
use Rattle.posting_tests.proofs.nearest.NearestQuestion.ask.Goals as goal

pub returns-in-AtOrAfter : goal.returns-in-AtOrAfter
returns-in-AtOrAfter g c = record { answer = tt; cost = few_digits _ _ _ c.at_or_after.ensures.probes }

pub returns-in-AtOrBefore : goal.returns-in-AtOrBefore
returns-in-AtOrBefore g c = record { answer = tt; cost = few_digits _ _ _ c.at_or_before.ensures.probes }
