-- What settling a plan does to the engine and the reader.
use Rattle.std.specs.Prelude.{◌≡◌, ◌≢◌, ℕ, ◌<◌, List, [], ◌∷◌, ◌++◌, ◌⊎◌, length, take, slice_get, Some}
use Rattle.live_version.specs.Contents.{SlotContent, VersionContent}
use Rattle.manifest_publish.specs.Accounts.{Account, ReaderContent, ReceiptContent, VouchesFor, MayEnter, with_pass, reached}
use Rattle.collection.specs.Changes.{IsFrontMerge}
use Rattle.collection.specs.Engines.{EngineContent, published}
use Rattle.shared_edit.specs.declared.faults.StaleSlot.{StaleSlot}
use Rattle.shared_edit.specs.declared.plan.SlotName.{SlotName}
use Rattle.shared_edit.specs.Plans.{PlanContent, MergesFirst, names_of}

-- the reader after it learnt the receipt of this history
abbrev pub learnt : ReaderContent → List VersionContent → ReaderContent
learnt r history = record r { told = r.told ++ history ∷ [] }

-- the reader learnt the receipt of this history and tried to enter
abbrev pub HasEntered : ReaderContent → List VersionContent → ReaderContent → Type 0
HasEntered before history after =
    (after ≡ learnt before history) ⊎ ((found : Account) × MayEnter (learnt before history) found × ((after ≡ with_pass found.publisher found.history) ⊎ (after ≡ reached (learnt before history) found)))

-- a plan of that reader can't be used: entering gave no pass, or one whose version is above the engine's
abbrev pub IsUnusable : EngineContent → ReaderContent → Type 0
IsUnusable e r = (r.told ≢ []) ⊎ (length e.history < length r.seen)

-- the reader has seen exactly the engine's history, and has learnt no receipt since
pub record HasSeenAll (e : EngineContent) (r : ReaderContent) : Type 0 where
  pub seen : r.seen ≡ e.history
  pub told : r.told ≡ []

-- the slots begin with slots of these names
abbrev pub AreInPlace : List SlotName → List SlotContent → Type 0
AreInPlace names slots = take (length names) (names_of slots) ≡ names

-- the name is the first of the names that the slots do not have in its place
pub record IsFirstStale (names : List SlotName) (slots : List SlotContent) (at : ℕ) (name : SlotName) : Type 0 where
  pub named : slice_get names at ≡ Some name
  pub gone : slice_get (names_of slots) at ≢ Some name
  pub before : take at (names_of slots) ≡ take at names

-- the plan's slot took the place of the slots that it names
pub record TakesPlan (old new : EngineContent) (reader : ReaderContent) (plan : PlanContent) (receipt : ReceiptContent) : Type 0 where
  pub seen : HasSeenAll old reader
  pub in_place : AreInPlace plan.names old.version.slots
  pub merge : IsFrontMerge old new (length plan.names) plan.slot receipt

-- the engine's own first two slots became one
pub record MergesOwn (old new : EngineContent) (receipt : ReceiptContent) : Type 0 where
  pub slot : SlotContent
  pub merges : MergesFirst old.version.slots 2 slot
  pub merge : IsFrontMerge old new 2 slot receipt

-- there are fewer than two slots, and nothing was published
pub record HasNoTwo (old new : EngineContent) (receipt : ReceiptContent) : Type 0 where
  pub few : length old.version.slots < 2
  pub same : new ≡ old
  pub vouched : VouchesFor receipt (published old)

-- the plan was not used, and the engine merged by itself, if it could
pub record GoesByItself (old new : EngineContent) (reader : ReaderContent) (receipt : ReceiptContent) : Type 0 where
  pub unusable : IsUnusable old reader
  pub own : MergesOwn old new receipt ⊎ HasNoTwo old new receipt

-- a slot that the plan names is not in its place, as the engine's pass shows
pub record IsStaleFor (e : EngineContent) (reader : ReaderContent) (plan : PlanContent) (stale : StaleSlot) : Type 0 where
  pub seen_all : HasSeenAll e reader
  pub first : IsFirstStale plan.names e.version.slots stale.at stale.name
  pub shown : stale.seen ≡ published e
