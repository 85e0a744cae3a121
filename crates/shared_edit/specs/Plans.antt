-- Plans of merges, and when their slots are still there.
use Rattle.std.specs.Prelude.{◌≡◌, ℕ, ◌≤◌, List, [], ◌∷◌, length, map, take, Some}
use Rattle.logbook.specs.Pages.{Book}
use Rattle.live_version.specs.Changes.{IsSameLive, slots_at, whole_range}
use Rattle.live_version.specs.Contents.{SlotContent, VersionContent, IsVersion, ranges_of}
use Rattle.manifest_publish.specs.Accounts.{EndsWith}
use Rattle.manifest_publish.specs.Histories.{IsLatest}
use Rattle.shared_edit.specs.declared.plan.SlotName.{SlotName}

-- a slot's first and last address and the number of its surviving files
abbrev pub name_of : SlotContent → SlotName
name_of slot = record { first = slot.range.first; last = slot.range.last; files = length slot.files }

-- the names of slots
abbrev pub names_of : List SlotContent → List SlotName
names_of slots = map name_of slots

-- whose plan it is, the history up to the version that it was made from, the names of the slots that it merges, and the slot in their place
pub record PlanContent : Type 0 where
  pub publisher : Book
  pub list : List VersionContent
  pub names : List SlotName
  pub slot : SlotContent

-- what contracts see of a plan
abbrev pub plan_content : Book → List VersionContent → List SlotName → SlotContent → PlanContent
plan_content publisher list names slot = record { publisher = publisher; list = list; names = names; slot = slot }

-- the slot has the words and files of the first `count` slots and spans them, and nothing of it is dead
pub record MergesFirst (slots : List SlotContent) (count : ℕ) (slot : SlotContent) : Type 0 where
  pub two : 2 ≤ count
  pub within : count ≤ length slots
  pub alive : slot.mask ≡ []
  pub same : IsSameLive (slots_at 0 count slots) (slot ∷ [])
  pub range : whole_range (ranges_of (slots_at 0 count slots)) ≡ Some slot.range

-- the names are those of the first slots of the list's last version, and the slot is their merge
pub record IsPlan (p : PlanContent) : Type 0 where
  pub version : VersionContent
  pub is_version : IsVersion version
  pub ends : EndsWith p.list version
  pub names : p.names ≡ take (length p.names) (names_of version.slots)
  pub merges : MergesFirst version.slots (length p.names) p.slot

-- the list's last version has `count` slots or more
pub record HasSlots (list : List VersionContent) (count : ℕ) : Type 0 where
  pub version : VersionContent
  pub latest : IsLatest list version
  pub within : count ≤ length version.slots
