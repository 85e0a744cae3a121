-- Laws of shards.
use Rattle.std.specs.Prelude.{◌≡◌, ℕ, ◌+◌, List}
use Rattle.gcl_model.specs.Texts.{places, AreRisingBelow}
use Rattle.index_shard.specs.Tables.{ShardContent, IsShard, postings_of, words_of}

-- the postings of a term are the places of its word
abbrev pub PostingsArePlaces : Type 0
PostingsArePlaces = (shard : ShardContent) (term : List ℕ) → IsShard shard → places (words_of shard) term ≡ postings_of shard.table term

-- the words are at rising addresses of the range
abbrev pub WordsRise : Type 0
WordsRise = (shard : ShardContent) → IsShard shard → AreRisingBelow (shard.range.last + 1) shard.range.first (words_of shard)
