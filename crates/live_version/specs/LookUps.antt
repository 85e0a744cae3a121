-- How many look-ups a search may make, and the words that it is about.
use Rattle.std.specs.Prelude.{◌≡◌, ℕ, ◌+◌, Bool, not, List, length, Some, slice_get}
use Rattle.gcl_model.specs.Slots.{SlotRange}
use Rattle.index_shard.specs.Tables.{ShardContent}
use Rattle.delete_mask.specs.Masks.{is_dead}
use Rattle.live_version.specs.Contents.{SlotContent, dead_of}

-- whether the address is in none of the dead ranges: with 2 to 4 dead, 5 is alive, and 4 is not
abbrev pub is_alive : List SlotRange → ℕ → Bool
is_alive mask p = not (is_dead mask p)

-- one for each slot, and one more for each dead range: 5 for two slots with three dead ranges
abbrev pub look_ups : List SlotContent → ℕ
look_ups slots = length slots + length (dead_of slots)

-- the index of each slot is known by the slot's number, counted from 0
abbrev pub AreKnown : (ℕ → ShardContent → Type 0) → List SlotContent → Type 0
AreKnown knows slots = (number : ℕ) (slot : SlotContent) → slice_get slots number ≡ Some slot → knows number slot.shard
