use Rattle.std.proofs.Common.{sym, ◌∙◌, ap, length}
use Rattle.word_tokens.proofs.FrontLemmas.{name_at-letter}
use Rattle.word_tokens.proofs.lexeme.name_len.Goals as goal

pub returns : goal.returns
returns c = c.name_run.ensures ∙ ap length (sym (name_at-letter c.args.text.now (sym c.if-not-is_ascii_alphabetic.ensures.value)))
