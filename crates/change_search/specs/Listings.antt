-- What contracts see of the changes of a list.
use Rattle.std.specs.Prelude.{ℕ, Bool, List}
use Rattle.standing_query.specs.declared.change.Change.{Change}

-- the changes that are to come, how many look-ups may be made for them in all, and whether readers find the members before the edit, and
-- those after it
pub record ListingContent : Type 0 where
  pub to_come : List Change
  pub look_ups : ℕ
  pub before_reads : Bool
  pub after_reads : Bool

-- these
abbrev pub listing_content : List Change → ℕ → Bool → Bool → ListingContent
listing_content to_come look_ups before_reads after_reads = record { to_come = to_come; look_ups = look_ups; before_reads = before_reads; after_reads = after_reads }
