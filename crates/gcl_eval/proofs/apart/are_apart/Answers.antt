use Rattle.std.proofs.Common.{sym, subst, ◌∙◌}
use Rattle.gcl_model.specs.FormOf.{form_of}
use Rattle.gcl_model.specs.Meaning.{concordance}
use Rattle.gcl_eval.specs.Members.{AreApart}
use Rattle.gcl_eval.proofs.Overlaps.{elements_are_apart, tokens_of}
use Rattle.gcl_eval.proofs.apart.are_apart.Goals as goal

pub returns-in_default : goal.returns-in_default
returns-in_default c = λ is text sound.
    let found = tokens_of (λ p. p.0.now) (λ p. p.1.now) c.element_tokens.result (form_of c.args.expr.now) (sym c.is_some.ensures ∙ is) c.element_tokens.ensures in
    subst (λ f. AreApart (concordance text f)) (sym found.2) (elements_are_apart text found.0 found.1 sound)
