use Rattle.std.proofs.Common.{◌∙◌, ap₂, refl}
use Rattle.clap.specs.Words.{with_rule}
use Rattle.grep_words.proofs.command.with_words.Goals as goal

pub returns : goal.returns
returns c =
    let a1 = c.in_ok-arg.ensures.shape c.define.ensures.local ∙ ap₂ with_rule refl c.define.ensures.rule in
    c.in_ok-command.ensures.shape c.words.ensures.local ∙ ap₂ with_rule a1 c.words.ensures.rule
