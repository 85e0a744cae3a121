-- Where the members of a list that are compared go on.
use Rattle.std.specs.Prelude.{◌≡◌, ℕ, ◌+◌, ◌*◌, ◌<◌, Bool, ◌&&◌, nat_le, List, [], ◌∷◌, filter, length, Option, Some, None, if◌then◌else◌}
use Rattle.gcl_locality.specs.Changed.{touches}
use Rattle.gcl_model.specs.Cost.{cost}
use Rattle.gcl_model.specs.Extents.{Extent}
use Rattle.gcl_model.specs.Forms.{Form}
use Rattle.gcl_model.specs.Limits.{far, most_slots}
use Rattle.gcl_model.specs.Texts.{IsText}
use Rattle.gcl_model.specs.WellFormed.{IsWellFormed}
use Rattle.live_version.specs.Contents.{VersionContent, version_text}
use Rattle.standing_query.specs.Changes.{members}
use Rattle.standing_query.specs.declared.head.Head.{Head}
use Rattle.standing_query.specs.declared.head.Head.TheVariants.{Ending, Starting, Found, End}

-- the members that are left of a list, and how many look-ups may be made for them
pub record SideContent : Type 0 where
  pub left : List Extent
  pub look_ups : ℕ

-- the first member, if there is one
abbrev pub first_of : List Extent → Option Extent
first_of [] = None
first_of (a ∷ list) = Some a

-- a starts at `low` or later, and at `high` or before
abbrev pub starts_within : ℕ → ℕ → Extent → Bool
starts_within low high a = nat_le low a.start && nat_le a.start high

-- the members that are left: none starts after `high`
abbrev pub left_of : List Extent → (high : ℕ) → Head → List Extent
left_of list high (Ending k) = filter (touches k high) list
left_of list high (Starting k) = filter (starts_within k high) list
left_of list high (Found a) = filter (starts_within a.start high) list
left_of list high End = []

-- how often they may be asked for: once for each that was not found yet, and once for the end
abbrev pub asks_left : List Extent → (high : ℕ) → Head → ℕ
asks_left list high (Ending k) = length (left_of list high (Ending k)) + 1
asks_left list high (Starting k) = length (left_of list high (Starting k)) + 1
asks_left list high (Found a) = length (left_of list high (Found a))
asks_left list high End = 0

-- what is found is the first one that is left, and positions that are asked are in range
abbrev pub IsHead : List Extent → (high : ℕ) → Head → Type 0
IsHead list high (Ending k) = k < far
IsHead list high (Starting k) = k < far
IsHead list high (Found a) = first_of (left_of list high (Found a)) ≡ Some a
IsHead list high End = Unit {0}

-- the answer to the next question is known
abbrev pub IsAsked : Head → Type 0
IsAsked (Ending k) = ⊥
IsAsked (Starting k) = ⊥
IsAsked (Found a) = Unit {0}
IsAsked End = Unit {0}

-- the first member that is left, if it is known
abbrev pub found_of : Head → Option Extent
found_of (Ending k) = None
found_of (Starting k) = None
found_of (Found a) = Some a
found_of End = None

-- where the list goes on once a member was asked for
abbrev pub head_at : Option Extent → (high : ℕ) → Head
head_at None high = End
head_at (Some a) high = if nat_le a.start high then Found a else End

-- how many look-ups one access may make
abbrev pub access_cost : VersionContent → Form → ℕ
access_cost v form = cost (version_text v) (most_slots + v.dels) form

-- the side of an expression over a version
abbrev pub side_of : VersionContent → Form → (high : ℕ) → Head → SideContent
side_of v form high head = record { left = left_of (members v form) high head; look_ups = asks_left (members v form) high head * access_cost v form }

-- it is that of a well-formed expression over a text
pub record IsSide (v : VersionContent) (form : Form) (high : ℕ) (head : Head) : Type 0 where
  pub well_formed : IsWellFormed form
  pub sound : IsText (version_text v)
  pub stands : IsHead (members v form) high head
