use Rattle.std.proofs.Common.{sym, subst, ap, ◌∙◌}
use Rattle.gcl_model.specs.FormOf.{form_of, containment_form}
use Rattle.gcl_model.specs.Meaning.{concordance}
use Rattle.gcl_eval.specs.Members.{AreApart}
use Rattle.gcl_eval.proofs.Overlaps.{containment_apart, tokens_of}
use Rattle.gcl_eval.proofs.apart.are_kept_apart.Goals as goal

pub returns : goal.returns
returns c = λ is text sound.
    let containment = c.operands-containment.result.0 in
    let second = form_of c.operands-containment.result.2.now in
    let found = tokens_of (λ p. p.0.now) (λ p. p.1.now) c.element_tokens.result (form_of c.operands-containment.result.1.now) (sym c.is_some.ensures ∙ is) c.element_tokens.ensures in
    subst (λ f. AreApart (concordance text f)) (sym (c.operands-containment.ensures.form ∙ ap (λ a. containment_form containment a second) found.2))
    (containment_apart text found.0 found.1 sound containment second)
