-- The pages of a listing, and members page by page, starting at an address.
use Rattle.std.specs.Prelude.{◌≡◌, ℕ, ◌+◌, ◌*◌, Bool, true, false, List}
use Rattle.gcl_model.specs.Cost.{cost}
use Rattle.gcl_model.specs.Extents.{Extent}
use Rattle.gcl_model.specs.Forms.{Form}
use Rattle.gcl_eval.specs.Members.{members_from}
use Rattle.gcl_readers.specs.MergeCost.{merge_cost}
use Rattle.live_version.specs.Contents.{VersionContent, version_text}
use Rattle.reader_pass.specs.Members.{access_most}

-- how many members a page has at most
abbrev pub page_size : ℕ
page_size = 4096

-- how the members of the next page are found: by accesses, each of which may make the given number of look-ups; by readers, which may
-- make the given number in all; or not at all, since the end was reached
pub data Way : Type 0 where
  leaping : ℕ → Way
  reading : ℕ → Way
  ended : Way

-- whether readers find them
abbrev pub reads : Way → Bool
reads (leaping each) = false
reads (reading left) = true
reads ended = false

-- how many look-ups may still be made in all: by readers, whatever is asked of them
abbrev pub left_of : Way → ℕ
left_of (leaping each) = 0
left_of (reading left) = left
left_of ended = 0

-- how many more a page of `members` members may make: an access for each, and one more
abbrev pub leap_cost : Way → ℕ → ℕ
leap_cost (leaping each) members = (members + 1) * each
leap_cost (reading left) members = 0
leap_cost ended members = 0

-- a page leaves the way as it is, or reaches the end
abbrev pub IsAfter : (after before : Way) → Type 0
IsAfter (leaping each) before = before ≡ leaping each
IsAfter (reading left) before = reads before ≡ true
IsAfter ended before = Unit {0}

-- an access makes at most the look-ups of one access to the expression over the version; readers begin with those of a merge of whole lists
abbrev pub IsWayOver : VersionContent → Form → Way → Type 0
IsWayOver v form (leaping each) = each ≡ cost (version_text v) (access_most v) form
IsWayOver v form (reading left) = left ≡ merge_cost (version_text v) (access_most v) form
IsWayOver v form ended = Unit {0}

-- all members of a list, those that are still to come, and how the next ones are found
pub record PagesContent : Type 0 where
  pub all : List Extent
  pub to_come : List Extent
  pub way : Way

-- the pages of which those members that start at or after an address are to come
abbrev pub pages_from : List Extent → ℕ → Way → PagesContent
pages_from list k way = record { all = list; to_come = members_from list k; way = way }
