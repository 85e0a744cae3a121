use Rattle.std.proofs.lemmas.Result.{IfOk-weaker}
use Rattle.gcl_eval.proofs.ElementLemmas.{for_each}
use Rattle.gcl_eval.proofs.elements.element_at_hand.Goals as goal

pub returns-clause-element : goal.returns-clause-element
returns-clause-element g c =
    IfOk-weaker c.element_access.result _ _ (λ found at. for_each found (record { first = c.in-Some._tokens.0.now; second = c.in-Some._tokens.1.now; is = rw c.in-Some.is at c.element_tokens.ensures })) c.element_access.ensures.answer
