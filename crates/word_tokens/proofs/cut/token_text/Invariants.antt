use Rattle.std.proofs.Common.{◌≡◌, ◌++◌, length}
use Rattle.std.specs.List.{concat}
use Rattle.gcl_model.specs.Tokens.{tokens_of}
use Rattle.word_tokens.specs.Joined.{ends_from}
use Rattle.word_tokens.proofs.cut.token_text.Given as goal

-- with the tokens of the rest after them, these are all tokens
abbrev pub invariant-loop-rest : goal.invariant-loop-rest
invariant-loop-rest l =
    (l.joined.items ++ concat (tokens_of l.rest) ≡ concat (tokens_of l.bytes)) × (l.ends.items ++ ends_from (length l.joined.items) (tokens_of l.rest) ≡ ends_from 0 (tokens_of l.bytes))

abbrev pub decreases-loop-rest : goal.decreases-loop-rest
decreases-loop-rest l = length l.rest
