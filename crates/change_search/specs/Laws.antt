-- An edit leaves all as it was except at the addresses of its file.
use Rattle.std.specs.Prelude.{◌≡◌, ℕ, ◌+◌, ◌-◌, List, Some}
use Rattle.gcl_model.specs.Collections.{Collection, IsSound, width_of}
use Rattle.gcl_locality.specs.Agreement.{AgreeOutside}
use Rattle.address_space.specs.Runs.{FileEntry}
use Rattle.live_version.specs.Changes.{file_with_id}
use Rattle.live_version.specs.Contents.{VersionContent, files_of, version_text}
use Rattle.live_version.specs.StandsFor.{StandsFor}
use Rattle.collection.specs.Changes.{AddsFileTo, DeletesFileFrom}

-- between two versions of which the second has one file more
abbrev pub AddsAgree : Type 0
AddsAgree = (v w : VersionContent) (c : Collection) (name : List ℕ) (tokens : List (List ℕ)) → StandsFor v c → AddsFileTo v w name tokens →
    AgreeOutside (version_text v) (version_text w) v.next (v.next + width_of tokens - 1)

-- between two versions of which the second has one file fewer
abbrev pub DeletesAgree : Type 0
DeletesAgree = (v w : VersionContent) (c : Collection) (id : ℕ) (file : FileEntry) → StandsFor v c → IsSound c → DeletesFileFrom v w id →
    file_with_id id (files_of v.slots) ≡ Some file → AgreeOutside (version_text v) (version_text w) file.base (file.base + file.len - 1)
