-- Members near two addresses, page by page.
use Rattle.std.specs.Prelude.{◌≡◌, ℕ, Bool, nat_le, List}
use Rattle.gcl_locality.specs.Windows.{start_or}
use Rattle.gcl_model.specs.Access.{first_end}
use Rattle.gcl_model.specs.Extents.{Extent}
use Rattle.gcl_model.specs.Forms.{Form}
use Rattle.gcl_model.specs.Meaning.{concordance}
use Rattle.gcl_model.specs.Texts.{Text}
use Rattle.live_version.specs.Contents.{VersionContent}
use Rattle.near_search.specs.Costs.{near_listing_cost}
use Rattle.query_search.specs.Pages.{Way, leaping, reading, ended}

-- the interval starts at an address or before it
abbrev pub starts_by : ℕ → Extent → Bool
starts_by high a = nat_le a.start high

-- where the first member that ends at or after `low` starts, or the end of the text if there is none
abbrev pub start_of : Text → Form → ℕ → ℕ
start_of text form low = start_or text.next (first_end (concordance text form) low)

-- the members that are to come, and how the next ones are found
pub record NearContent : Type 0 where
  pub to_come : List Extent
  pub way : Way

-- these
abbrev pub near_content : List Extent → Way → NearContent
near_content to_come way = record { to_come = to_come; way = way }

-- readers begin with the look-ups of a merge of the lists over the window; none is made by leaping
abbrev pub IsNearWay : VersionContent → (low high : ℕ) → Form → Way → Type 0
IsNearWay v low high form (leaping each) = ⊥
IsNearWay v low high form (reading left) = left ≡ near_listing_cost v low high form
IsNearWay v low high form ended = Unit {0}
