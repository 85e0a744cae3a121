use Rattle.std.proofs.Common.{◌∙◌, ap₂, refl}
use Rattle.clap.specs.Words.{with_rule}
use Rattle.grep_words.proofs.command.with_values.Goals as goal

pub returns : goal.returns
returns c =
    let a1 = c.in_ok-arg.ensures.shape c.valued.ensures.local ∙ ap₂ with_rule refl c.valued.ensures.rule in
    let a2 = c.in_ok-arg-2.ensures.shape c.valued-2.ensures.local ∙ ap₂ with_rule a1 c.valued-2.ensures.rule in
    c.in_ok-command.ensures.shape c.valued-3.ensures.local ∙ ap₂ with_rule a2 c.valued-3.ensures.rule
