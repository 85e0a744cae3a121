-- What each call of an engine makes of the version that was published last.
use Rattle.std.specs.Prelude.{◌≡◌, ℕ, ◌+◌, ◌-◌, true, List, [], ◌∷◌, ◌++◌, map, length, take, drop}
use Rattle.gcl_model.specs.Collections.{Collection, CanAdd, IsSound, with_file, without_file, has_file, width_of}
use Rattle.gcl_model.specs.Slots.{slot_range, slots_after_add, slots_after_merge, slots_after_open}
use Rattle.live_version.specs.Changes.{KillsFile}
use Rattle.live_version.specs.Contents.{SlotContent, VersionContent, ranges_of, dead_of}
use Rattle.live_version.specs.StandsFor.{StandsFor, Keeps}
use Rattle.manifest_publish.specs.Accounts.{ReceiptContent}
use Rattle.collection.specs.Engines.{EngineContent, IsPublication}
use Rattle.collection.specs.declared.engine.Added.{Added}

-- the second slots are some of the first ones, from the front and unchanged, and after them one slot without dead addresses
pub record EndsInOneSlot (before after : List SlotContent) : Type 0 where
  pub slot : SlotContent
  pub alive : slot.mask ≡ []
  pub slots : after ≡ take (length after - 1) before ++ slot ∷ []

-- one more file: the collection is the one after that step, and the last slots are merged as far as the rule of adding goes
pub record AddsFileTo (v w : VersionContent) (name : List ℕ) (tokens : List (List ℕ)) : Type 0 where
  pub stands : (c : Collection) → StandsFor v c → CanAdd c name tokens × StandsFor w (with_file c name tokens)
  pub ranges : ranges_of w.slots ≡ slots_after_add (ranges_of v.slots) (slot_range v.next (v.next + width_of tokens - 1))
  pub slots : EndsInOneSlot v.slots w.slots
  pub number : w.number ≡ v.number + 1
  pub edition : w.edition ≡ v.edition + 1

-- one surviving file fewer: each slot keeps its range and its index, and only the addresses of the file are dead besides
pub record DeletesFileFrom (v w : VersionContent) (id : ℕ) : Type 0 where
  pub stands : (c : Collection) → StandsFor v c → (has_file c id ≡ true) × StandsFor w (without_file c id)
  pub ranges : ranges_of w.slots ≡ ranges_of v.slots
  pub shards : map (λ slot. slot.shard) w.slots ≡ map (λ slot. slot.shard) v.slots
  pub dead : KillsFile v.slots id w.slots
  pub number : w.number ≡ v.number + 1
  pub edition : w.edition ≡ v.edition + 1

-- the same collection in one slot, or in none if no file survives, without dead addresses
pub record MergesSlotsOf (v w : VersionContent) : Type 0 where
  pub stands : Keeps v w
  pub ranges : (c : Collection) → StandsFor v c → ranges_of w.slots ≡ slots_after_merge (ranges_of v.slots) c.files
  pub alive : dead_of w.slots ≡ []
  pub number : w.number ≡ v.number + 1
  pub edition : w.edition ≡ v.edition

-- a version of which nothing was deleted, that stands for a sound collection, in the slot that the rule of openings gives
pub record IsOpened (opened : VersionContent) : Type 0 where
  pub fresh : opened.dels ≡ 0
  pub collection : Collection
  pub sound : IsSound collection
  pub stands : StandsFor opened collection
  pub ranges : ranges_of opened.slots ≡ slots_after_open collection.files

-- the opened version in place of one that never had a file
pub record Adopts (v opened w : VersionContent) : Type 0 where
  pub empty : v.next_id ≡ 0
  pub stands : Keeps opened w
  pub slots : w.slots ≡ opened.slots
  pub number : w.number ≡ v.number + 1
  pub edition : w.edition ≡ v.edition + 1

-- the same collection, with the slot in place of the first `count` ones
pub record PutsSlotFirst (v w : VersionContent) (count : ℕ) (slot : SlotContent) : Type 0 where
  pub stands : Keeps v w
  pub slots : w.slots ≡ slot ∷ drop count v.slots
  pub number : w.number ≡ v.number + 1
  pub edition : w.edition ≡ v.edition

-- an accepted add: the file got the next id and the next addresses
pub record IsAdd (old new : EngineContent) (name : List ℕ) (tokens : List (List ℕ)) (added : Added) : Type 0 where
  pub change : AddsFileTo old.version new.version name tokens
  pub id : added.id.0 ≡ old.version.next_id
  pub first : added.first ≡ old.version.next
  pub last : added.last + 1 ≡ old.version.next + width_of tokens
  pub published : IsPublication old new added.receipt

-- an accepted deletion
pub record IsDelete (old new : EngineContent) (id : ℕ) (receipt : ReceiptContent) : Type 0 where
  pub change : DeletesFileFrom old.version new.version id
  pub published : IsPublication old new receipt

-- a merge of all slots
pub record IsMerge (old new : EngineContent) (receipt : ReceiptContent) : Type 0 where
  pub change : MergesSlotsOf old.version new.version
  pub published : IsPublication old new receipt

-- an accepted opening
pub record IsAdoption (old : EngineContent) (opened : VersionContent) (new : EngineContent) (receipt : ReceiptContent) : Type 0 where
  pub change : Adopts old.version opened new.version
  pub published : IsPublication old new receipt

-- a slot was put in place of the first `count` ones
pub record IsFrontMerge (old new : EngineContent) (count : ℕ) (slot : SlotContent) (receipt : ReceiptContent) : Type 0 where
  pub change : PutsSlotFirst old.version new.version count slot
  pub published : IsPublication old new receipt
