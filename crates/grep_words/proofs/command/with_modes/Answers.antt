use Rattle.std.proofs.Common.{◌∙◌, ap₂, refl}
use Rattle.clap.specs.Words.{with_rule}
use Rattle.grep_words.proofs.command.with_modes.Goals as goal

pub returns : goal.returns
returns c =
    let a1 = c.in_ok-arg.ensures.shape c.short_flag.ensures.local ∙ ap₂ with_rule refl c.short_flag.ensures.rule in
    let a2 = c.in_ok-arg-2.ensures.shape c.short_flag-2.ensures.local ∙ ap₂ with_rule a1 c.short_flag-2.ensures.rule in
    let a3 = c.in_ok-arg-3.ensures.shape c.short_flag-3.ensures.local ∙ ap₂ with_rule a2 c.short_flag-3.ensures.rule in
    c.in_ok-command.ensures.shape c.short_flag-4.ensures.local ∙ ap₂ with_rule a3 c.short_flag-4.ensures.rule
