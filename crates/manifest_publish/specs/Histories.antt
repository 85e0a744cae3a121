-- Histories of published versions.
use Rattle.std.specs.Prelude.{◌≡◌, ◌+◌, List, [], ◌∷◌, ◌++◌, ◌⊎◌}
use Rattle.gcl_model.specs.Collections.{Collection}
use Rattle.live_version.specs.Contents.{VersionContent}
use Rattle.live_version.specs.Changes.{empty_version}
use Rattle.live_version.specs.StandsFor.{StandsFor}
use Rattle.gcl_model.specs.Steps.{IsStep}

-- the version that a history begins with: no file was added yet, and number and edition are 0
abbrev pub IsOpening : VersionContent → Type 0
IsOpening v = v ≡ empty_version v.first

-- The number is the next one. The version stands for the collection of the one before it after one step, with the next edition,
-- or for that same collection, with the edition kept: after number 4, edition 3, an added file gives number 5, edition 4, and a
-- merge gives number 5, edition 3
pub record IsNext (v w : VersionContent) : Type 0 where
  pub number : w.number ≡ v.number + 1
  pub before : Collection
  pub after : Collection
  pub from : StandsFor v before
  pub to : StandsFor w after
  pub step : ((w.edition ≡ v.edition + 1) × IsStep before after) ⊎ ((w.edition ≡ v.edition) × (after ≡ before))

-- each of these versions is a next one of the one before it, and the first of them of v
abbrev pub Follow : VersionContent → List VersionContent → Type 0
Follow v [] = Unit {0}
Follow v (w ∷ ws) = IsNext v w × Follow w ws

-- it begins with an opening version, and each version after that is a next one of the one before it
abbrev pub IsLawful : List VersionContent → Type 0
IsLawful [] = ⊥
IsLawful (v ∷ vs) = IsOpening v × Follow v vs

-- the version is the history's last one
abbrev pub IsLatest : List VersionContent → VersionContent → Type 0
IsLatest history v = (before : List VersionContent) × (history ≡ before ++ v ∷ [])
