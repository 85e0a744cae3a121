-- Lists of calls, and what they leave.
use Rattle.std.specs.Prelude.{◌≡◌, ℕ, ◌+◌, ◌-◌, List, [], ◌∷◌}
use Rattle.gcl_model.specs.Collections.{Collection, width_of, with_file, without_file}
use Rattle.gcl_model.specs.Slots.{SlotRange, slot_range, slots_after_add, slots_after_merge, slots_after_open}
use Rattle.live_version.specs.Contents.{VersionContent, ranges_of}
use Rattle.live_version.specs.StandsFor.{StandsFor}
use Rattle.collection.specs.Changes.{AddsFileTo, Adopts, DeletesFileFrom, IsOpened, MergesSlotsOf}

-- an accepted call: an add of a name and tokens, a deletion of an id, a merge, or the opening of a version
pub data Call : Type 0 where
  adding : List ℕ → List (List ℕ) → Call
  deleting : ℕ → Call
  merging : Call
  adopting : (opened : VersionContent) → IsOpened opened → Call

-- what a call makes of the collection: a merge changes nothing
abbrev pub collection_after : Call → Collection → Collection
collection_after (adding name tokens) c = with_file c name tokens
collection_after (deleting id) c = without_file c id
collection_after merging c = c
collection_after (adopting opened is) c = is.collection

-- what a call makes of the ranges of the slots
abbrev pub ranges_after : Call → Collection → List SlotRange → List SlotRange
ranges_after (adding name tokens) c ranges = slots_after_add ranges (slot_range c.next (c.next + width_of tokens - 1))
ranges_after (deleting id) c ranges = ranges
ranges_after merging c ranges = slots_after_merge ranges c.files
ranges_after (adopting opened is) c ranges = slots_after_open is.collection.files

-- the collection after all of the calls
abbrev pub collection_after_all : List Call → Collection → Collection
collection_after_all [] c = c
collection_after_all (call ∷ calls) c = collection_after_all calls (collection_after call c)

-- the ranges after all of the calls
abbrev pub ranges_after_all : List Call → Collection → List SlotRange → List SlotRange
ranges_after_all [] c ranges = ranges
ranges_after_all (call ∷ calls) c ranges = ranges_after_all calls (collection_after call c) (ranges_after call c ranges)

-- the second version is the one after the call
abbrev pub IsAfter : Call → VersionContent → VersionContent → Type 0
IsAfter (adding name tokens) v w = AddsFileTo v w name tokens
IsAfter (deleting id) v w = DeletesFileFrom v w id
IsAfter merging v w = MergesSlotsOf v w
IsAfter (adopting opened is) v w = Adopts v opened w

-- the second version is the one after all of the calls
abbrev pub IsAfterAll : List Call → VersionContent → VersionContent → Type 0
IsAfterAll [] v w = w ≡ v
IsAfterAll (call ∷ calls) v w = (between : VersionContent) × IsAfter call v between × IsAfterAll calls between w

-- what is known of a version after calls: it stands for the collection that they give, in the slots that the rules give
pub record IsReached (calls : List Call) (v w : VersionContent) (c : Collection) : Type 0 where
  pub stands : StandsFor w (collection_after_all calls c)
  pub ranges : ranges_of w.slots ≡ ranges_after_all calls c (ranges_of v.slots)

-- after any list of calls the collection is the one that its adds, deletions and openings give, and the ranges are those of the rules
abbrev pub CallsReach : Type 0
CallsReach = (calls : List Call) (v w : VersionContent) (c : Collection) → IsAfterAll calls v w → StandsFor v c → IsReached calls v w c
