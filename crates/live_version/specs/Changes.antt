-- What each change makes of a version.
use Rattle.std.specs.Prelude.{◌≡◌, ℕ, ◌+◌, ◌≤◌, not, ◌||◌, ◌==◌, List, [], ◌∷◌, ◌++◌, length, map, filter, find, take, drop, Option, None, Some}
use Rattle.std.specs.Option.{option_to_list}
use Rattle.gcl_model.specs.Slots.{SlotRange, spanned, slots_after_add, tail_count}
use Rattle.gcl_model.specs.Collections.{width_of, with_boundaries, words_from}
use Rattle.address_space.specs.Runs.{FileEntry, range_of}
use Rattle.index_shard.specs.Tables.{ShardContent, words_of}
use Rattle.delete_mask.specs.Masks.{is_dead, with_range}
use Rattle.live_version.specs.Contents.{SlotContent, VersionContent, is_of_file, files_of, live_of, ranges_of, dead_of}

-- no file was added yet
abbrev pub empty_version : ℕ → VersionContent
empty_version first = record { number = 0; edition = 0; first = first; next = first; next_id = 0; dels = 0; slots = [] }

-- a version that was just opened, with at most one slot
abbrev pub opened : ℕ → ℕ → ℕ → Option SlotContent → VersionContent
opened first next next_id slot = record { number = 0; edition = 0; first = first; next = next; next_id = next_id; dels = 0; slots = option_to_list slot }

-- the index has the tokens of the file, between those of its boundary, starting at its base
pub record HasTokens (file : FileEntry) (shard : ShardContent) (tokens : List (List ℕ)) : Type 0 where
  pub len : file.len ≡ width_of tokens
  pub words : words_of shard ≡ words_from file.base (with_boundaries tokens)

-- the slot of one file, of which nothing is dead
abbrev pub slot_of_file : FileEntry → ShardContent → SlotContent
slot_of_file file shard = record { range = range_of file; shard = shard; mask = []; files = file ∷ [] }

-- after a file was added: one slot more
abbrev pub version_with_file : VersionContent → FileEntry → ShardContent → VersionContent
version_with_file v file shard =
    record v { number = v.number + 1; edition = v.edition + 1; next = v.next + file.len; next_id = v.next_id + 1; slots = v.slots ++ slot_of_file file shard ∷ [] }

-- the surviving file with this id
abbrev pub file_with_id : ℕ → List FileEntry → Option FileEntry
file_with_id id files = find (λ file. file.id == id) files

-- a slot after a file was deleted, if it has it: the file's addresses alone are dead too, and its record is gone
abbrev pub slot_without : SlotContent → Option FileEntry → SlotContent
slot_without slot None = slot
slot_without slot (Some file) = record slot { mask = with_range (range_of file) slot.mask; files = filter (λ other. not (other.id == file.id)) slot.files }

-- after the file with this id was deleted: every slot stays, with its range and its index
abbrev pub version_without_file : VersionContent → ℕ → VersionContent
version_without_file v id =
    record v { number = v.number + 1; edition = v.edition + 1; dels = v.dels + 1; slots = map (λ slot. slot_without slot (file_with_id id slot.files)) v.slots }

-- `count` slots starting at a place
abbrev pub slots_at : ℕ → ℕ → List SlotContent → List SlotContent
slots_at at count slots = take count (drop at slots)

-- with one slot, or none, in place of `count` slots starting at a place: the edition stays
abbrev pub version_with_slot : VersionContent → ℕ → ℕ → Option SlotContent → VersionContent
version_with_slot v at count slot = record v { number = v.number + 1; slots = take at v.slots ++ option_to_list slot ++ drop (at + count) v.slots }

-- from the first address of the first slot to the last address of the last one: none if there is no slot
abbrev pub whole_range : List SlotRange → Option SlotRange
whole_range [] = None
whole_range (range ∷ ranges) = Some (spanned range ranges)

-- the range lies inside another one, if there is one: otherwise it lies nowhere
abbrev pub LiesInside : SlotRange → Option SlotRange → Type 0
LiesInside range None = ⊥
LiesInside range (Some whole) = (whole.first ≤ range.first) × (range.last ≤ whole.last)

-- no live word and no file came or went
pub record IsSameLive (before after : List SlotContent) : Type 0 where
  pub words : live_of after ≡ live_of before
  pub files : files_of after ≡ files_of before

-- an address is dead in the second slots exactly if it is in the first or is one of the file with this id
abbrev pub KillsFile : List SlotContent → ℕ → List SlotContent → Type 0
KillsFile before id after =
    (file : FileEntry) → file_with_id id (files_of before) ≡ Some file → (p : ℕ) → is_dead (dead_of after) p ≡ (is_of_file p file || is_dead (dead_of before) p)

-- if an added range is not merged with any before it, the ranges are those that the rule of adding leaves
abbrev pub AreSettledAlone : List SlotRange → SlotRange → List SlotRange → Type 0
AreSettledAlone before added after = tail_count after ≡ 1 → after ≡ slots_after_add before added

-- so are the ranges afterwards, if the slot replaces the last ones, which the rule of adding merges into one, and spans them
abbrev pub JoinsTail : List SlotContent → ℕ → ℕ → Option SlotContent → List SlotContent → Type 0
JoinsTail before at count slot after =
    (ranges : List SlotRange) (added : SlotRange) (joint : SlotContent) → ranges_of before ≡ ranges ++ added ∷ [] → slot ≡ Some joint → count ≡ tail_count (ranges_of before) → at + count ≡ length before
    → whole_range (ranges_of (slots_at at count before)) ≡ Some joint.range → ranges_of after ≡ slots_after_add ranges added
