-- Shards at addresses that are greater by a number.
use Rattle.std.specs.Prelude.{ℕ, ◌+◌, ◌^◌, ◌<◌, List, length, map}
use Rattle.gcl_model.specs.Slots.{SlotRange}
use Rattle.gcl_model.specs.Texts.{Word}
use Rattle.posting_code.specs.Moved.{moved}
use Rattle.posting_code.specs.Packed.{last_of}
use Rattle.index_shard.specs.Tables.{ShardContent, TermEntry}

-- the same words at addresses that are greater by a number: moved by 10, "to" at 1 is "to" at 11
abbrev pub moved_words : ℕ → List Word → List Word
moved_words by words = map (λ (w : Word). record w { address = w.address + by }) words

-- a term with its addresses moved up
abbrev pub moved_term : ℕ → TermEntry → TermEntry
moved_term by entry = record entry { addresses = moved by entry.addresses }

abbrev pub moved_range : ℕ → SlotRange → SlotRange
moved_range by range = record { first = range.first + by; last = range.last + by }

-- the range and all terms moved up
abbrev pub moved_shard : ℕ → ShardContent → ShardContent
moved_shard by shard = record { range = moved_range by shard.range; table = map (moved_term by) shard.table }

-- the addresses are some, and stay below the end when they are moved up
pub record CanMove (by : ℕ) (entry : TermEntry) : Type 0 where
  pub some : 0 < length entry.addresses
  pub below : last_of entry.addresses + by < 2 ^ 56
