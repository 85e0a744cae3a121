use Rattle.word_tokens.proofs.TokenLemmas.{tokens_are_tokens}
use Rattle.word_tokens.proofs.laws.tokens_are_tokens.Goals as goal

pub returns : goal.returns
returns c = tokens_are_tokens
