use Rattle.std.proofs.Common.{◌∙◌, true, ap}
use Rattle.clap.specs.Simple.{app_of_fields}
use Rattle.clap.specs.declared.builder.command.Command.{Command}
use Rattle.clap.specs.declared.builder.command.Command.TheOpen.{Command-F}
use Rattle.command_words.specs.Program.{without_extras}
use Rattle.command_words.proofs.command.plain.Goals as goal

pub returns : goal.returns
returns c =
    ap app_of_fields c.disable_help_flag.ensures ∙ ap (λ (f : Command-F Command). app_of_fields (record f { disable_help_flag = true })) c.no_binary_name.ensures
    ∙ ap without_extras c.new.ensures.app
