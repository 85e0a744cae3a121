use Rattle.std.proofs.lemmas.Result.{IfOk-weaker}
use Rattle.gcl_model.specs.FormOf.{form_of}
use Rattle.gcl_eval.proofs.ElementLemmas.{from_at_hand, up_to_at_hand, at_hand_within}
use Rattle.gcl_eval.proofs.elements.element_access.Goals as goal

pub returns-in-FirstStart-clause-answer : goal.returns-in-FirstStart-clause-answer
returns-in-FirstStart-clause-answer g c =
    IfOk-weaker c.element_from.result _ _ (λ found at. from_at_hand c.args.expr.now (g.C.CountedLeaves.text c.args.source.now) c.span-span.ensures.sound c.in-Some.first.now c.in-Some.second.now c.as_slice.result.now c.as_slice-in-FirstStart.result.now c.args.k (rw c.in-Some.is at c.element_tokens.ensures) c.as_slice.ensures c.as_slice-in-FirstStart.ensures c.args.wanted c.in-FirstStart.is found at) c.element_from.ensures.answer

pub returns-in-FirstStart-clause-within : goal.returns-in-FirstStart-clause-within
returns-in-FirstStart-clause-within g c =
    IfOk-weaker c.element_from.result _ _ (λ found at. at_hand_within c.args.wanted (g.C.CountedLeaves.text c.args.source.now) (form_of c.args.expr.now) c.args.k found c.span-span.ensures.sound at) (returns-in-FirstStart-clause-answer g c)

pub returns-in-FirstEnd-clause-answer : goal.returns-in-FirstEnd-clause-answer
returns-in-FirstEnd-clause-answer g c =
    IfOk-weaker c.element_up_to.result _ _ (λ found at. up_to_at_hand c.args.expr.now (g.C.CountedLeaves.text c.args.source.now) c.span-span.ensures.sound c.in-Some.first.now c.in-Some.second.now c.as_slice-in-FirstEnd.result.now c.as_slice-in-FirstEnd-2.result.now c.args.k (rw c.in-Some.is at c.element_tokens.ensures) c.as_slice-in-FirstEnd.ensures c.as_slice-in-FirstEnd-2.ensures c.args.wanted c.in-FirstEnd.is found at) c.element_up_to.ensures.answer

pub returns-in-FirstEnd-clause-within : goal.returns-in-FirstEnd-clause-within
returns-in-FirstEnd-clause-within g c =
    IfOk-weaker c.element_up_to.result _ _ (λ found at. at_hand_within c.args.wanted (g.C.CountedLeaves.text c.args.source.now) (form_of c.args.expr.now) c.args.k found c.span-span.ensures.sound at) (returns-in-FirstEnd-clause-answer g c)
