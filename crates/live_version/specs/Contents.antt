-- What a slot and a version are, and the words and files that they have.
use Rattle.std.specs.Prelude.{◌≡◌, ℕ, ◌+◌, ◌<◌, ◌≤◌, Bool, true, false, not, ◌&&◌, nat_le, nat_lt, List, length, map, filter, flat_map}
use Rattle.gcl_model.specs.Limits.{address_end, most_slots}
use Rattle.std.specs.List.{AllByRecursion, list_any}
use Rattle.gcl_model.specs.Slots.{SlotRange, AreRangesWithin}
use Rattle.gcl_model.specs.Texts.{Word, Text}
use Rattle.address_space.specs.Runs.{FileEntry, IsFileRun}
use Rattle.index_shard.specs.Tables.{ShardContent, IsShard, words_of}
use Rattle.delete_mask.specs.Masks.{is_dead}

-- a range of addresses, its index, its dead ranges, and its surviving files
pub record SlotContent : Type 0 where
  pub range : SlotRange
  pub shard : ShardContent
  pub mask : List SlotRange
  pub files : List FileEntry

-- what contracts see of a slot
abbrev pub slot_content : SlotRange → ShardContent → List SlotRange → List FileEntry → SlotContent
slot_content range shard mask files = record { range = range; shard = shard; mask = mask; files = files }

-- the words of a slot whose addresses are not dead, in rising address
abbrev pub live_words : SlotContent → List Word
live_words slot = filter (λ w. not (is_dead slot.mask w.address)) (words_of slot.shard)

-- whether the address is one of the file's
abbrev pub is_of_file : ℕ → FileEntry → Bool
is_of_file p file = nat_le file.base p && nat_lt p (file.base + file.len)

-- whether the address is one of these files'
abbrev pub is_of_files : List FileEntry → ℕ → Bool
is_of_files files p = list_any (is_of_file p) files

-- the file lies inside the range
abbrev pub LiesIn : SlotRange → FileEntry → Type 0
LiesIn range file = (range.first ≤ file.base) × (file.base + file.len ≤ range.last + 1)

-- the index is about the range, the files and the dead ranges lie in it, no file's address is dead, and each word that is not dead is a file's
pub record IsSlot (slot : SlotContent) : Type 0 where
  pub shard : IsShard slot.shard
  pub indexed : slot.shard.range ≡ slot.range
  pub files : AllByRecursion (LiesIn slot.range) slot.files
  pub dead : AreRangesWithin slot.range.first (slot.range.last + 1) slot.mask
  pub alive : (p : ℕ) → is_of_files slot.files p ≡ true → is_dead slot.mask p ≡ false
  pub owned : AllByRecursion (λ w. is_of_files slot.files w.address ≡ true) (live_words slot)

-- the numbers of a version, and its slots in rising address
pub record VersionContent : Type 0 where
  pub number : ℕ
  pub edition : ℕ
  pub first : ℕ
  pub next : ℕ
  pub next_id : ℕ
  pub dels : ℕ
  pub slots : List SlotContent

-- what contracts see of a version
abbrev pub version_content : ℕ → ℕ → ℕ → ℕ → ℕ → ℕ → List SlotContent → VersionContent
version_content number edition first next next_id dels slots =
    record { number = number; edition = edition; first = first; next = next; next_id = next_id; dels = dels; slots = slots }

-- the ranges of slots, in their order
abbrev pub ranges_of : List SlotContent → List SlotRange
ranges_of slots = map (λ slot. slot.range) slots

-- the surviving files, in rising id
abbrev pub files_of : List SlotContent → List FileEntry
files_of slots = flat_map (λ slot. slot.files) slots

-- all dead ranges
abbrev pub dead_of : List SlotContent → List SlotRange
dead_of slots = flat_map (λ slot. slot.mask) slots

-- the words of all slots whose addresses are not dead, in rising address
abbrev pub live_of : List SlotContent → List Word
live_of slots = flat_map live_words slots

-- the text that look-ups in a version are about
abbrev pub version_text : VersionContent → Text
version_text v = record { first = v.first; next = v.next; words = live_of v.slots }

-- the slots' ranges rise inside the addresses given so far, ids rise from slot to slot, and there are no more dead ranges than deletions.
-- An id is that of a surviving file, or of a deleted one, or was never a file's here
pub record IsVersion (v : VersionContent) : Type 0 where
  pub numbered : v.edition ≤ v.number
  pub ordered : v.first ≤ v.next
  pub in_range : v.next ≤ address_end
  pub few : length v.slots ≤ most_slots
  pub apart : AreRangesWithin v.first v.next (ranges_of v.slots)
  pub slots : AllByRecursion IsSlot v.slots
  pub run : IsFileRun (files_of v.slots)
  pub ids : AllByRecursion (λ file. file.id < v.next_id) (files_of v.slots)
  pub used : length (files_of v.slots) + v.dels ≤ v.next_id
  pub dead : length (dead_of v.slots) ≤ v.dels
