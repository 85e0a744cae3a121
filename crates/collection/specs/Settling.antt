-- The two steps in which an add makes a version.
use Rattle.std.specs.Prelude.{◌≡◌, ◌+◌, [], ◌∷◌, ◌++◌}
use Rattle.gcl_model.specs.Slots.{SlotRange, slots_after_add}
use Rattle.live_version.specs.Changes.{AreSettledAlone}
use Rattle.live_version.specs.Contents.{SlotContent, VersionContent, ranges_of}
use Rattle.live_version.specs.StandsFor.{Keeps}
use Rattle.collection.specs.Changes.{EndsInOneSlot}

-- one more slot, without dead addresses
pub record Grows (v grown : VersionContent) : Type 0 where
  pub slot : SlotContent
  pub slots : grown.slots ≡ v.slots ++ slot ∷ []
  pub alive : slot.mask ≡ []
  pub alone : AreSettledAlone (ranges_of v.slots) slot.range (ranges_of grown.slots)
  pub number : grown.number ≡ v.number + 1
  pub edition : grown.edition ≡ v.edition + 1

-- the last slots of a version that grew are merged as far as the rule of adding goes
pub record Settles (v grown w : VersionContent) : Type 0 where
  pub stands : Keeps grown w
  pub ranges : (range : SlotRange) → ranges_of grown.slots ≡ ranges_of v.slots ++ range ∷ [] → ranges_of w.slots ≡ slots_after_add (ranges_of v.slots) range
  pub slots : EndsInOneSlot v.slots w.slots
  pub number : w.number ≡ v.number + 1
  pub edition : w.edition ≡ v.edition + 1
