use Rattle.std.proofs.Common.{◌≤◌, ◌∙◌, ap, sym, subst, max}
use Rattle.gcl_locality.specs.Windows.{end_or}
use Rattle.gcl_model.specs.FormOf.{form_of}
use Rattle.gcl_model.specs.Limits.{address_end}
use Rattle.live_version.specs.Contents.{version_text}
use Rattle.near_search.proofs.AroundLemmas.{end_within}
use Rattle.near_search.proofs.around.around.Goals as goal

pub returns-clause-high_within : goal.returns-clause-high_within
returns-clause-high_within g c =
    let text = version_text c.args.version.now in
    let form = form_of c.args.expr.now in
    let sound = c.span-span.ensures.sound in
    subst (λ p. p ≤ address_end) (sym (c.end_behind.ensures
    ∙ ap (λ n. max c.args.inner.high (end_or n c.first_start-behind.result)) c.span-span.ensures.next
    ∙ ap (λ o. max c.args.inner.high (end_or text.next o)) c.first_start-behind.ensures.answer))
    (end_within text form c.args.inner.high sound.in_range c.requires.high_below)
