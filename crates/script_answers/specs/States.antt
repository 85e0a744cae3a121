-- The state of a script, and how an engine keeps it.
use Rattle.std.specs.Prelude.{◌≡◌, ℕ, ◌≤◌, Bool, List, [], Option, if◌then◌else◌}
use Rattle.outside.specs.Contents.{Contents}
use Rattle.gcl_model.specs.Limits.{most_line, most_file, most_script, most_image, most_batch}
use Rattle.gcl_model.specs.Collections.{File, Collection, empty_from}
use Rattle.gcl_model.specs.Slots.{SlotRange, slots_after_merge}
use Rattle.live_version.specs.Contents.{ranges_of}
use Rattle.live_version.specs.Changes.{empty_version}
use Rattle.live_version.specs.StandsFor.{StandsFor}
use Rattle.collection.specs.Engines.{EngineContent}
use Rattle.script_answers.specs.declared.limits.Limits.{Limits}
pub use Rattle.answer_text.specs.Watching.{Watched, Watches}

-- for each content the collection that it is said to be an image of, or None if it is said to be an image of none
abbrev pub Images : Type 0
Images = List ℕ → Option Collection

-- What the lines so far leave: the collection, the address ranges of the slots of its index, what the files hold by name, and the live
-- watches with the number of the next one. What each content is an image of stays the same throughout
pub record State : Type 0 where
  pub collection : Collection
  pub slots : List SlotRange
  pub files : Contents
  pub watches : Watches
  pub images : Images

-- before the first line: no file was added, there is no slot, and nothing is watched
abbrev pub opening : ℕ → Contents → Images → State
opening first contents images = record { collection = empty_from first; slots = []; files = contents; watches = record { live = []; next = 0 }; images = images }

-- the limits of a run
abbrev pub greatest_limits : Limits
greatest_limits = record { line = most_line; file = most_file; script = most_script; image = most_image; batch = most_batch }

-- a limit is at least 1, and at most that of a run
abbrev pub IsLimit : ℕ → ℕ → Type 0
IsLimit most limit = (1 ≤ limit) × (limit ≤ most)

-- each limit is
abbrev pub AreLimits : Limits → Type 0
AreLimits limits =
    IsLimit most_line limits.line × (IsLimit most_file limits.file × (IsLimit most_script limits.script × (IsLimit most_image limits.image × IsLimit most_batch limits.batch)))

-- the ranges once a pending merge was made
abbrev pub slots_soon : Bool → List SlotRange → List File → List SlotRange
slots_soon pending ranges files = if pending then slots_after_merge ranges files else ranges

-- The engine's version stands for the collection of the state, and its slots have the ranges of the state, or will have them once a
-- pending merge is made
pub record Keeps (engine : EngineContent) (pending : Bool) (state : State) : Type 0 where
  pub stands : StandsFor engine.version state.collection
  pub slots : state.slots ≡ slots_soon pending (ranges_of engine.version.slots) state.collection.files

-- as an engine is opened: nothing was added yet, and no line is completed
pub record IsFresh (engine : EngineContent) (lines : ℕ) : Type 0 where
  pub version : engine.version ≡ empty_version engine.version.first
  pub none : lines ≡ 0
