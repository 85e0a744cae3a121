-- Laws of lawful histories.
use Rattle.std.specs.Prelude.{◌≡◌, ℕ, ◌<◌, List, [], ◌∷◌, ◌++◌, length, Some}
use Rattle.std.specs.List.{slice_get}
use mathlib.Core.List.{IsPrefix}
use Rattle.gcl_model.specs.Collections.{Collection}
use Rattle.live_version.specs.Contents.{SlotContent, VersionContent, IsVersion, live_words}
use Rattle.live_version.specs.StandsFor.{StandsFor}
use Rattle.manifest_publish.specs.Histories.{IsNext, IsLawful, IsLatest}

-- a next one of the last version may be added
abbrev pub MayAddNext : Type 0
MayAddNext = (history : List VersionContent) (v w : VersionContent) → IsLawful history → IsLatest history v → IsNext v w → IsLawful (history ++ w ∷ [])

-- the version at place i, counted from 0, has number i
abbrev pub NumbersArePlaces : Type 0
NumbersArePlaces = (history : List VersionContent) (i : ℕ) (v : VersionContent) → IsLawful history → slice_get history i ≡ Some v → v.number ≡ i

-- each version stands for a collection
abbrev pub EachStands : Type 0
EachStands = (history : List VersionContent) (i : ℕ) (v : VersionContent) → IsLawful history → slice_get history i ≡ Some v
    → (c : Collection) × StandsFor v c

-- of two beginnings of one lawful history, a version of the one whose number lies below the length of the other is in the
-- other too, at its number
abbrev pub VersionsAreShared : Type 0
VersionsAreShared = (one other history : List VersionContent) (i : ℕ) (v : VersionContent) → IsLawful history → IsPrefix one history → IsPrefix other history
    → slice_get one i ≡ Some v → v.number < length other → slice_get other v.number ≡ Some v

-- two slots have the same surviving files and the same live words
pub record HaveSame (s t : SlotContent) : Type 0 where
  pub files : t.files ≡ s.files
  pub words : live_words t ≡ live_words s

-- between two versions of one lawful history, slots of one range and one number of surviving files have the same files and words: a file of a
-- range can only go, and none comes
abbrev pub SlotsKeepFiles : Type 0
SlotsKeepFiles = (history later : List VersionContent) (v w : VersionContent) (a b : ℕ) (s t : SlotContent) → IsLawful (history ++ later) → IsLatest history v → IsLatest (history ++ later) w
    → IsVersion v → IsVersion w → slice_get v.slots a ≡ Some s → slice_get w.slots b ≡ Some t → t.range ≡ s.range → length t.files ≡ length s.files → HaveSame s t
