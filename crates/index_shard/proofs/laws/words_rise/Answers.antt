use Rattle.index_shard.proofs.ShardWords.{shard_words_rise}
use Rattle.index_shard.proofs.laws.words_rise.Goals as goal

pub returns : goal.returns
returns c = shard_words_rise
