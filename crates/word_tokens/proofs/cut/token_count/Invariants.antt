use Rattle.std.proofs.Common.{◌≡◌, ◌+◌, ◌≤◌, length}
use Rattle.gcl_model.specs.Tokens.{tokens_of}
use Rattle.word_tokens.proofs.cut.token_count.Given as goal

abbrev pub invariant-loop-rest : goal.invariant-loop-rest
invariant-loop-rest l = (l.count + length (tokens_of l.rest) ≡ length (tokens_of l.bytes)) × (l.count + length l.rest ≤ length l.bytes)

abbrev pub decreases-loop-rest : goal.decreases-loop-rest
decreases-loop-rest l = length l.rest
