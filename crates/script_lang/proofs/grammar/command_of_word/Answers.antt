use Rattle.std.proofs.Common.{rules, ◌≡◌}
use Rattle.script_lang.specs.Commands.{named}
use Rattle.script_lang.specs.declared.commands.Command.TheVariants.{Add}
use Rattle.script_lang.proofs.CommandLemmas.{named_carries}
use Rattle.script_lang.proofs.grammar.command_of_word.Goals as goal

pub returns-in_ok-name_of-clause-named : goal.returns-in_ok-name_of-clause-named
returns-in_ok-name_of-clause-named c =
    let is : c.map_or.result ≡ named Add c.args.argument.now = search rules in
    rw is (named_carries Add (λ name is_one. is_one) c.args.argument.now)
