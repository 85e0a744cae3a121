-- The dead ranges of a slot, in parts that versions share.
use Rattle.std.specs.Prelude.{ℕ, ◌<◌, List, [], ◌∷◌, length, flat_map}
use Rattle.std.specs.List.{AllByRecursion}
use Rattle.gcl_model.specs.Limits.{address_end}
use Rattle.gcl_model.specs.Slots.{SlotRange, AreRangesWithin}

-- the ranges of parts, one part after the other
abbrev pub ranges_in : List (List SlotRange) → List SlotRange
ranges_in parts = flat_map (λ ranges. ranges) parts

-- the first address of a part's first range
abbrev pub first_dead : List SlotRange → ℕ
first_dead [] = 0
first_dead (range ∷ ranges) = range.first

-- the last address of a part's last range
abbrev pub last_dead : List SlotRange → ℕ
last_dead [] = 0
last_dead (range ∷ []) = range.last
last_dead (range ∷ next ∷ ranges) = last_dead (next ∷ ranges)

-- a part has a range
abbrev pub IsInhabited : List SlotRange → Type 0
IsInhabited ranges = 0 < length ranges

-- parts that have a range each, and whose ranges lie one after the other
pub record AreParts (parts : List (List SlotRange)) : Type 0 where
  pub inhabited : AllByRecursion IsInhabited parts
  pub apart : AreRangesWithin 0 address_end (ranges_in parts)
