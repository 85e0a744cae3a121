use Rattle.gcl_model.specs.Tokens.{tokens_of}
use Rattle.word_tokens.proofs.TokenLemmas.{tokens_are_tokens}
use Rattle.shard_build.proofs.AheadLemmas.{is_ahead}
use Rattle.shard_build.proofs.ahead.index_text.Goals as goal

pub invariant_of-result : goal.invariant_of-result
invariant_of-result c = (is_ahead c.in_ok-shard.shard (tokens_of c.args.bytes.now) c.in_ok-shard.ensures.words c.in_ok-shard.ensures.range c.requires (tokens_are_tokens c.args.bytes.now)).1

pub returns : goal.returns
returns c = (is_ahead c.in_ok-shard.shard (tokens_of c.args.bytes.now) c.in_ok-shard.ensures.words c.in_ok-shard.ensures.range c.requires (tokens_are_tokens c.args.bytes.now)).0
