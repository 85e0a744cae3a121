use Rattle.std.proofs.Common.{◌∙◌}
use Rattle.command_words.specs.Grammar.{options_from}
use Rattle.command_words.proofs.reader.options_of_matches.Goals as goal

pub returns : goal.returns
returns c = c.options_from.ensures.value ∙ (λ i. options_from (c.get_str.ensures i) (c.get_str-2.ensures i) (c.get_str-3.ensures i) (c.get_str-4.ensures i))
