use Rattle.std.proofs.lemmas.Result.{IfOk-weaker}
use Rattle.gcl_model.specs.FormOf.{form_of}
use Rattle.gcl_eval.specs.declared.direction.Access.TheVariants.{FirstEnd}
use Rattle.std.proofs.Common.{refl}
use Rattle.gcl_eval.proofs.ElementLemmas.{up_to_at_hand, at_hand_within}
use Rattle.gcl_eval.proofs.elements.element_up_to.Goals as goal

pub returns-clause-answer : goal.returns-clause-answer
returns-clause-answer g c =
    IfOk-weaker c.three_look_ups.result _ _ (λ found at. up_to_at_hand c.args.expr.now (g.C.CountedLeaves.text c.args.source.now) c.three_look_ups.ensures.sound c.in-Some-element_tokens.first.now c.in-Some-element_tokens.second.now c.as_slice.result.now c.as_slice-2.result.now c.args.k (rw c.in-Some-element_tokens.is at c.element_tokens.ensures) c.as_slice.ensures c.as_slice-2.ensures FirstEnd refl found at) c.three_look_ups.ensures.answer

pub returns-clause-within : goal.returns-clause-within
returns-clause-within g c =
    IfOk-weaker c.three_look_ups.result _ _ (λ found at. at_hand_within FirstEnd (g.C.CountedLeaves.text c.args.source.now) (form_of c.args.expr.now) c.args.k found c.three_look_ups.ensures.sound at) (returns-clause-answer g c)
