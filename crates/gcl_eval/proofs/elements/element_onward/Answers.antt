use Rattle.std.proofs.lemmas.Result.{IfOk-weaker}
use Rattle.gcl_model.proofs.Meanings.{concordance_rises}
use Rattle.gcl_model.specs.FormOf.{form_of}
use Rattle.gcl_model.specs.Meaning.{concordance}
use Rattle.gcl_eval.proofs.ElementLemmas.{each_none_onward, for_each, each_onward, onward_at_hand}
use Rattle.gcl_eval.proofs.elements.element_onward.Goals as goal

pub returns-in-Some-2-clause-onward : goal.returns-in-Some-2-clause-onward
returns-in-Some-2-clause-onward g c =
    let text = g.C.CountedLeaves.text c.args.source.now in
    onward_at_hand (concordance text (form_of c.args.expr.now)) (concordance_rises text (form_of c.args.expr.now)) c.args.from c.args.k c.in-Some-2.element (rw c.in-Some-2.is at c.in_ok-element.ensures.answer)

pub returns-clause-end : goal.returns-clause-end
returns-clause-end g c =
    IfOk-weaker c.onward_by_look_ups.result _ _ (λ found at. each_none_onward c.args.expr.now (g.C.CountedLeaves.text c.args.source.now) c.onward_by_look_ups.ensures.sound c.in-Some.first.now c.in-Some.second.now c.as_slice.result.now c.as_slice-2.result.now c.args.from c.args.k (rw c.in-Some.is at c.element_tokens.ensures) c.as_slice.ensures c.as_slice-2.ensures found at) c.onward_by_look_ups.ensures.end

pub returns-clause-onward : goal.returns-clause-onward
returns-clause-onward g c =
    IfOk-weaker c.onward_by_look_ups.result _ _ (λ found at. each_onward c.args.expr.now (g.C.CountedLeaves.text c.args.source.now) c.onward_by_look_ups.ensures.sound c.in-Some.first.now c.in-Some.second.now c.as_slice.result.now c.as_slice-2.result.now c.args.from c.args.k (rw c.in-Some.is at c.element_tokens.ensures) c.as_slice.ensures c.as_slice-2.ensures found at) c.onward_by_look_ups.ensures.onward

pub returns-clause-element : goal.returns-clause-element
returns-clause-element g c = IfOk-weaker c.onward_by_look_ups.result _ _ (λ found at. for_each found (record { first = c.in-Some.first.now; second = c.in-Some.second.now; is = (rw c.in-Some.is at c.element_tokens.ensures) })) c.onward_by_look_ups.ensures.onward

pub returns-in-Some-2-clause-element : goal.returns-in-Some-2-clause-element
returns-in-Some-2-clause-element g c = record { first = c.in-Some.first.now; second = c.in-Some.second.now; is = (rw c.in-Some.is at c.element_tokens.ensures) }
