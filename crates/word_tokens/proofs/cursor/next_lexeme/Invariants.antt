use Rattle.std.proofs.Common.{◌≡◌, length}
use Rattle.gcl_model.specs.Tokens.{tokens_of}
use Rattle.word_tokens.proofs.cursor.next_lexeme.Given as goal

-- what was passed gave no token
abbrev pub invariant-loop-rest : goal.invariant-loop-rest
invariant-loop-rest l = tokens_of l.rest ≡ tokens_of l.bytes

abbrev pub decreases-loop-rest : goal.decreases-loop-rest
decreases-loop-rest l = length l.rest
