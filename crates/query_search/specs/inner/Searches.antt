-- What is always true of members that come page by page.
use Rattle.std.specs.Prelude.{◌≡◌, ℕ, ◌+◌, ◌≤◌, ◌==◌, List, Option, None, Some, IfSome, if◌then◌else◌}
use Rattle.gcl_model.specs.Cost.{cost}
use Rattle.gcl_model.specs.Extents.{Extent}
use Rattle.gcl_model.specs.Forms.{Form}
use Rattle.gcl_model.specs.Limits.{address_end}
use Rattle.gcl_model.specs.Meaning.{concordance}
use Rattle.gcl_model.specs.WellFormed.{IsWellFormed}
use Rattle.gcl_readers.specs.declared.front.Place.{Place}
use Rattle.gcl_readers.specs.MergeCost.{cost_left}
use Rattle.gcl_readers.specs.Standing.{Stands, start_at}
use Rattle.live_version.specs.Contents.{VersionContent, version_text}
use Rattle.manifest_publish.specs.Accounts.{EndsWith}
use Rattle.collection.specs.Engines.{last_of}
use Rattle.reader_pass.specs.Members.{access_most}
use Rattle.query_search.specs.Pages.{Way, leaping, reading, ended, left_of, leap_cost}

-- all members of a form over the last version of a history
abbrev pub members_over : List VersionContent → Form → List Extent
members_over history form = concordance (version_text (last_of history)) form

-- members over the last version of a history that go on at an address, not past the end of the text
pub record GoesOnAt (history : List VersionContent) (form : Form) (from end : ℕ) : Type 0 where
  pub last : EndsWith history (last_of history)
  pub well_formed : IsWellFormed form
  pub text_end : end ≡ (last_of history).next
  pub in_range : end ≤ address_end
  pub within : from ≤ end

-- the readers of a form stand in their lists over the last version of a history, and passed no member that starts at or after an address
pub record StandFrom (history : List VersionContent) (form : Form) (from : ℕ) (readers : List Place) : Type 0 where
  pub stand : Stands (version_text (last_of history)) form readers
  pub behind : start_at readers ≤ from

-- the same for the readers, if there are some
abbrev pub ReadFrom : List VersionContent → Form → ℕ → Option (List Place) → Type 0
ReadFrom history form from readers = IfSome readers (StandFrom history form from)

-- how members are found: by leaping if there are no readers
abbrev pub way_by : VersionContent → Form → Option (List Place) → Way
way_by v form None = leaping (cost (version_text v) (access_most v) form)
way_by v form (Some readers) = reading (cost_left (version_text v) (access_most v) form readers)

-- the same at an address; at the end there is nothing to find
abbrev pub way_from : VersionContent → Form → (from end : ℕ) → Option (List Place) → Way
way_from v form from end readers = if from == end then ended else way_by v form readers

-- a page of `members` members makes no more look-ups than readers had left, plus what leaping to them may make
abbrev pub IsPaid : VersionContent → Form → (old new : Option (List Place)) → (members steps steps' : ℕ) → Type 0
IsPaid v form old new members steps steps' =
    steps' + left_of (way_by v form new) ≤ steps + left_of (way_by v form old) + leap_cost (way_by v form old) members
