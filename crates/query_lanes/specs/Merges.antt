-- What becomes of an engine while a batch is answered.
use Rattle.std.specs.Prelude.{◌≡◌, ℕ, ◌+◌, ◌≤◌, Bool, MatchBool, length, slice_get, Some}
use Rattle.live_version.specs.Contents.{VersionContent, version_text}
use Rattle.manifest_publish.specs.Accounts.{EndsWith, ReceiptContent}
use Rattle.collection.specs.Engines.{EngineContent}
use Rattle.collection.specs.Changes.{IsMerge}

-- all slots were merged, in one publication
abbrev pub IsMerged : EngineContent → EngineContent → Type 0
IsMerged old new = (receipt : ReceiptContent) × IsMerge old new receipt

-- all slots were merged if a merge is pending, and else nothing changed
abbrev pub IsMergedWhere : Bool → EngineContent → EngineContent → Type 0
IsMergedWhere wanted old new = MatchBool wanted (IsMerged old new) (new ≡ old)

-- the version that was the last one, and each that was published since, have the text of the version that is the last now
pub record HasOneText (before after : EngineContent) : Type 0 where
  pub ends : EndsWith after.history after.version
  pub texts : (i : ℕ) (v : VersionContent) → length before.history ≤ i + 1 → slice_get after.history i ≡ Some v → version_text v ≡ version_text after.version
