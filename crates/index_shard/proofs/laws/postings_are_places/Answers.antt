use Rattle.index_shard.proofs.ShardWords.{places_are_postings}
use Rattle.index_shard.proofs.laws.postings_are_places.Goals as goal

pub returns : goal.returns
returns c = places_are_postings
