-- What contracts see of an engine, and what is always true of one.
use Rattle.std.specs.Prelude.{◌≡◌, ◌+◌, ◌≤◌, List, [], ◌∷◌, ◌++◌}
use Rattle.gcl_model.specs.Limits.{merge_end}
use Rattle.gcl_model.specs.Collections.{Collection, IsSound}
use Rattle.gcl_model.specs.Laws.{AreTiers}
use Rattle.live_version.specs.Changes.{empty_version}
use Rattle.live_version.specs.Contents.{VersionContent, ranges_of}
use Rattle.live_version.specs.StandsFor.{StandsFor}
use Rattle.logbook.specs.Pages.{Book}
use Rattle.manifest_publish.specs.Accounts.{Account, account, EndsWith, ReceiptContent, VouchesFor}

-- whose engine it is, all versions that it published, and the last of them
pub record EngineContent : Type 0 where
  pub publisher : Book
  pub history : List VersionContent
  pub version : VersionContent

-- the last of these versions, or some version if there is none
abbrev pub last_of : List VersionContent → VersionContent
last_of [] = empty_version 0
last_of (v ∷ []) = v
last_of (v ∷ w ∷ vs) = last_of (w ∷ vs)

-- what contracts see of an engine
abbrev pub engine_content : Book → List VersionContent → EngineContent
engine_content publisher history = record { publisher = publisher; history = history; version = last_of history }

-- the engine after one more version was published
abbrev pub with_version : EngineContent → VersionContent → EngineContent
with_version e v = engine_content e.publisher (e.history ++ v ∷ [])

-- what a pass and a receipt of the last version show
abbrev pub published : EngineContent → Account
published e = account e.publisher e.history

-- The history is lawful and ends with the version. This stands for a sound collection, its slots are tiers, and the numbers that are left
-- are enough for each add and each deletion that may still come
pub record IsEngine (e : EngineContent) : Type 0 where
  pub ends : EndsWith e.history e.version
  pub sound : (c : Collection) → StandsFor e.version c → IsSound c
  pub tiers : AreTiers e.version.first e.version.next (ranges_of e.version.slots)
  pub numbers : e.version.number ≤ merge_end + e.version.next_id + e.version.dels

-- exactly one more version was published, by the same publisher, and the receipt vouches for all that was
pub record IsPublication (old new : EngineContent) (answer : ReceiptContent) : Type 0 where
  pub publisher : new.publisher ≡ old.publisher
  pub history : new.history ≡ old.history ++ new.version ∷ []
  pub receipt : VouchesFor answer (published new)
