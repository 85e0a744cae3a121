use Rattle.std.proofs.Common.{◌∙◌, true, ap}
use Rattle.clap.specs.Simple.{app_of_fields}
use Rattle.clap.specs.declared.builder.command.Command.{Command}
use Rattle.clap.specs.declared.builder.command.Command.TheOpen.{Command-F}
use Rattle.grep_words.specs.Program.{plain}
use Rattle.grep_words.proofs.command.bare.Goals as goal

pub returns : goal.returns
returns c =
    ap app_of_fields c.args_override_self.ensures
    ∙ ap (λ (f : Command-F Command). app_of_fields (record f { args_override_self = true })) c.disable_help_flag.ensures
    ∙ ap (λ (f : Command-F Command). app_of_fields (record f { disable_help_flag = true; args_override_self = true })) c.no_binary_name.ensures
    ∙ ap plain c.new.ensures.app
