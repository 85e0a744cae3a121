use Rattle.std.proofs.Common.{◌<◌, ◌∙◌, ap, sym, subst}
use Rattle.gcl_locality.specs.Changed.{later_end}
use Rattle.gcl_model.specs.FormOf.{form_of}
use Rattle.gcl_model.specs.Limits.{address_end}
use Rattle.live_version.specs.Contents.{version_text}
use Rattle.standing_query.proofs.WalkLemmas.{on_to_within}
use Rattle.standing_query.proofs.addresses.Addresses.reached.Goals as goal

pub returns-clause-high_within : goal.returns-clause-high_within
returns-clause-high_within g c below =
    let text = version_text c.args.version.now in
    let form = form_of c.args.expr.now in
    subst (λ p. p < address_end) (sym (c.later_end.ensures ∙ ap (λ o. later_end c.args.self.high o) c.last_start-last.ensures.answer))
    (on_to_within text form c.span-span.ensures.sound c.args.self.high c.args.others.high below)
