use Rattle.std.proofs.Common.{◌≡◌, length}
use Rattle.gcl_model.specs.Tokens.{tokens_of}
use Rattle.gcl_parser.specs.QueryTokens.{is_one_word}
use Rattle.gcl_parser.proofs.word.is_one_word.Given as goal

-- what was passed gave no token
abbrev pub invariant-loop-rest : goal.invariant-loop-rest
invariant-loop-rest l = is_one_word (tokens_of l.rest) ≡ is_one_word (tokens_of l.text)

abbrev pub decreases-loop-rest : goal.decreases-loop-rest
decreases-loop-rest l = length l.rest
