-- What a receipt or a pass shows about a shared call.
use Rattle.std.specs.Prelude.{◌≡◌, ℕ, ◌+◌, ◌<◌, ◌≤◌, List, [], ◌∷◌, ◌++◌, ◌⊎◌, ◌≢◌, length, drop, slice_get, None, Some}
use mathlib.Core.List.{IsPrefix}
use Rattle.gcl_model.specs.Collections.{Collection, width_of, with_file, without_file}
use Rattle.gcl_model.specs.Limits.{address_end}
use Rattle.live_version.specs.Changes.{file_with_id}
use Rattle.live_version.specs.Contents.{VersionContent, files_of}
use Rattle.live_version.specs.StandsFor.{StandsFor}
use Rattle.live_version.specs.StandsFor.{Keeps}
use Rattle.live_version.specs.Contents.{SlotContent}
use Rattle.manifest_publish.specs.Accounts.{ReaderContent}
use Rattle.manifest_publish.specs.Histories.{IsLatest}
use Rattle.collection.specs.declared.engine.Added.{Added}
use Rattle.shared_edit.specs.declared.faults.StaleSlot.{StaleSlot}
use Rattle.shared_edit.specs.Editors.{EditorContent}
use Rattle.shared_edit.specs.Plans.{MergesFirst, PlanContent, names_of}
use Rattle.shared_edit.specs.Settling.{HasEntered}

-- the last step of the history is the add of this file, with the id and the addresses that were answered
pub record EndsInAdd (history : List VersionContent) (name : List ℕ) (tokens : List (List ℕ)) (added : Added) : Type 0 where
  pub earlier : List VersionContent
  pub before : VersionContent
  pub after : VersionContent
  pub last : history ≡ earlier ++ before ∷ after ∷ []
  pub stands : (c : Collection) → StandsFor before c → StandsFor after (with_file c name tokens)
  pub id : added.id.0 ≡ before.next_id
  pub base : added.first ≡ before.next
  pub end : added.last + 1 ≡ before.next + width_of tokens

-- the last step of the history is the deletion of this id
pub record EndsInDelete (history : List VersionContent) (id : ℕ) : Type 0 where
  pub earlier : List VersionContent
  pub before : VersionContent
  pub after : VersionContent
  pub last : history ≡ earlier ++ before ∷ after ∷ []
  pub stands : (c : Collection) → StandsFor before c → StandsFor after (without_file c id)

-- the history's last version has at least as many ids and deletions as the editor has accepted adds and deletions
pub record HasCounts (history : List VersionContent) (editor : EditorContent) : Type 0 where
  pub version : VersionContent
  pub latest : IsLatest history version
  pub added : editor.added ≤ version.next_id
  pub gone : editor.gone ≤ version.dels

-- after the history's last version there are fewer addresses left than the tokens need
pub record ShowsSpent (tokens : List (List ℕ)) (need : ℕ) (history : List VersionContent) : Type 0 where
  pub version : VersionContent
  pub latest : IsLatest history version
  pub needed : need ≡ width_of tokens
  pub past : address_end < version.next + need

-- no surviving file of the history's last version has the id
pub record ShowsNotLive (id : ℕ) (history : List VersionContent) : Type 0 where
  pub version : VersionContent
  pub latest : IsLatest history version
  pub none : file_with_id id (files_of version.slots) ≡ None

-- the second version is of the same collection, with the slot in place of the first `count` slots
pub record PutsFirst (v w : VersionContent) (count : ℕ) (slot : SlotContent) : Type 0 where
  pub stands : Keeps v w
  pub slots : w.slots ≡ slot ∷ drop count v.slots

-- the plan was taken: one version follows what the reader has seen
pub record TookPlan (reader : ReaderContent) (plan : PlanContent) (history : List VersionContent) : Type 0 where
  pub before : VersionContent
  pub after : VersionContent
  pub latest : IsLatest reader.seen before
  pub list : history ≡ reader.seen ++ after ∷ []
  pub put : PutsFirst before after (length plan.names) plan.slot

-- the list is the last that the reader learnt, or the reader has seen it and more
abbrev pub IsKnownTo : ReaderContent → List VersionContent → Type 0
IsKnownTo reader list = ((earlier : List (List VersionContent)) × (reader.told ≡ earlier ++ list ∷ [])) ⊎ (IsPrefix list reader.seen × (length list < length reader.seen))

-- one version follows the list: it has the first two slots of the list's last version as one
pub record FollowsAlone (list : List VersionContent) (last : VersionContent) (history : List VersionContent) : Type 0 where
  pub after : VersionContent
  pub slot : SlotContent
  pub all : history ≡ list ++ after ∷ []
  pub merges : MergesFirst last.slots 2 slot
  pub put : PutsFirst last after 2 slot

-- the engine settled by itself, from a list that the reader knows
pub record WentAlone (reader : ReaderContent) (history : List VersionContent) : Type 0 where
  pub list : List VersionContent
  pub known : IsKnownTo reader list
  pub last : VersionContent
  pub latest : IsLatest list last
  pub went : ((history ≡ list) × (length last.slots < 2)) ⊎ FollowsAlone list last history

-- the plan names that slot at that place, the pass's last version has no slot of that name there, and the plan was made from a prefix of the
-- pass's history
pub record ShowsStale (plan : PlanContent) (stale : StaleSlot) : Type 0 where
  pub version : VersionContent
  pub latest : IsLatest stale.seen.history version
  pub named : slice_get plan.names stale.at ≡ Some stale.name
  pub gone : slice_get (names_of version.slots) stale.at ≢ Some stale.name
  pub made : IsPrefix plan.list stale.seen.history

-- the reader may have learnt a receipt, and entered
abbrev pub MayHaveEntered : ReaderContent → ReaderContent → Type 0
MayHaveEntered before after = (history : List VersionContent) × HasEntered before history after
