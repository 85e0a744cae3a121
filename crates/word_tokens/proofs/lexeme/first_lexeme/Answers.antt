use Rattle.std.proofs.Common.{sym, arith}
use Rattle.word_tokens.proofs.FrontLemmas.{part_of-word}
use Rattle.word_tokens.proofs.lexeme.first_lexeme.Goals as goal

pub returns-then-word-gt0 : goal.returns-then-word-gt0
returns-then-word-gt0 c = sym (part_of-word c.args.text.now c.word_len-word.result c.word_len-word.ensures (omega arith))
