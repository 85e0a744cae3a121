use Rattle.std.proofs.Common.{rules}
use Rattle.command_words.proofs.TextLemmas.{end_outside, no_text_outside}
use Rattle.command_words.proofs.reader.text_of.Goals.{in_default-via-in-Ok+else-ne, in_default-via-in_default}
use Rattle.command_words.proofs.reader.text_of.Goals as goal

pub returns-in_default-clause-none : goal.returns-in_default-clause-none
returns-in_default-clause-none c none words i below at = elim c.in_default.branch [
  | in_default-via-in-Ok+else-ne w ↦ end_outside words i c.args.word.now below at (search rules)
  | in_default-via-in_default w ↦ no_text_outside words i c.args.word.now below at (search rules)
]
