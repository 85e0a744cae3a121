use Rattle.std.proofs.Common.{◌∙◌, codes, ap}
use Rattle.std.proofs.lemmas.Result.{IfOk-weaker}
use Rattle.clap.specs.Words.{App, with_rule}
use Rattle.command_words.specs.Program.{option_rule}
use Rattle.command_words.proofs.command.command.Goals as goal

pub returns : goal.returns
returns c =
    let first = c.in_ok-command.ensures ∙ ap (λ (a : App). with_rule a (option_rule (codes "first"))) c.plain.ensures in
    let readers = c.in_ok-command-2.ensures ∙ ap (λ (a : App). with_rule a (option_rule (codes "readers"))) first in
    let made = c.in_ok-command-3.ensures ∙ ap (λ (a : App). with_rule a (option_rule (codes "made"))) readers in
    IfOk-weaker c.with_option-4.result _ _ (λ longer is. is ∙ ap (λ (a : App). with_rule a (option_rule (codes "count"))) made) c.with_option-4.ensures
