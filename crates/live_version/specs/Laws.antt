-- Laws of versions.
use Rattle.std.specs.Prelude.{◌≡◌, ◌↔◌, ℕ, [], true, filter, IsSome, Some, slice_get}
use Rattle.std.specs.List.{AllByRecursion}
use Rattle.gcl_model.specs.Collections.{Collection, has_file, text_of}
use Rattle.delete_mask.specs.Masks.{is_within}
use Rattle.live_version.specs.Contents.{SlotContent, VersionContent, IsVersion, live_words, live_of, files_of, version_text}
use Rattle.live_version.specs.Changes.{file_with_id}
use Rattle.live_version.specs.Terms.{has_term, terms_of}
use Rattle.live_version.specs.StandsFor.{StandsFor}

-- a version stands for at most one collection
abbrev pub StandsForOne : Type 0
StandsForOne = (v : VersionContent) (c d : Collection) → StandsFor v c → StandsFor v d → c ≡ d

-- its text is that of the collection
abbrev pub HasTextOf : Type 0
HasTextOf = (v : VersionContent) (c : Collection) → StandsFor v c → version_text v ≡ text_of c

-- a file with an id survives in both or in neither
abbrev pub HasFilesOf : Type 0
HasFilesOf = (v : VersionContent) (c : Collection) (id : ℕ) → StandsFor v c → IsSome (file_with_id id (files_of v.slots)) ↔ (has_file c id ≡ true)

-- without a surviving file there is no live word
abbrev pub WordsAreOfFiles : Type 0
WordsAreOfFiles = (v : VersionContent) → IsVersion v → files_of v.slots ≡ [] → live_of v.slots ≡ []

-- the token of each live word is a term of the slots
abbrev pub WordsAreOfTerms : Type 0
WordsAreOfTerms = (v : VersionContent) → AllByRecursion (λ w. has_term (terms_of v.slots) w.token ≡ true) (live_of v.slots)

-- the slot has the live words and the files of the version that lie within its range
pub record IsPartOf (v : VersionContent) (slot : SlotContent) : Type 0 where
  pub words : live_words slot ≡ filter (λ w. is_within slot.range w.address) (live_of v.slots)
  pub files : slot.files ≡ filter (λ file. is_within slot.range file.base) (files_of v.slots)

-- each slot of a version has a part of its words and files
abbrev pub SlotsArePartsOf : Type 0
SlotsArePartsOf = (v : VersionContent) (i : ℕ) (slot : SlotContent) → IsVersion v → slice_get v.slots i ≡ Some slot → IsPartOf v slot
