-- The address ranges of the slots of a collection's index, and how each change divides them.
use Rattle.std.specs.Prelude.{ℕ, ◌+◌, ◌-◌, ◌*◌, ◌<◌, ◌≤◌, nat_le, List, [], ◌∷◌, map, reverse, if◌then◌else◌}
use Rattle.gcl_model.specs.Collections.{File, width_of}

-- the addresses from first to last, both included
pub record SlotRange : Type 0 where
  pub first : ℕ
  pub last : ℕ

-- the range from p to q
abbrev pub slot_range : ℕ → ℕ → SlotRange
slot_range p q = record { first = p; last = q }

-- how many addresses a slot has: of 8 to 9 it is 2
abbrev pub slot_width : SlotRange → ℕ
slot_width range = range.last - range.first + 1

-- from the first address of the one to the last of the other: of 0 to 7 and 10 to 11 it is 0 to 11
abbrev pub joined : SlotRange → SlotRange → SlotRange
joined a b = slot_range a.first b.last

-- the last slot and those before it, the nearest first: while four times its width is at least the width of the one before it, the two
-- become one
abbrev pub settled : SlotRange → List SlotRange → List SlotRange
settled last [] = last ∷ []
settled last (before ∷ earlier) = if nat_le (slot_width before) (4 * slot_width last) then settled (joined before last) earlier else last ∷ before ∷ earlier

-- after a file was added at these addresses: it gets a slot of its own, and then the rule above joins the last slots
abbrev pub slots_after_add : List SlotRange → SlotRange → List SlotRange
slots_after_add ranges range = reverse (settled range (reverse ranges))

-- how many slots the rule joins, the last one included: 1 if it joins none
abbrev pub joined_count : SlotRange → List SlotRange → ℕ
joined_count last [] = 1
joined_count last (before ∷ earlier) = if nat_le (slot_width before) (4 * slot_width last) then joined_count (joined before last) earlier + 1 else 1

-- how many slots at the end of a list the rule joins: of the widths 20, 2 and 2 two, and 0 if there is no slot
abbrev pub tail_count : List SlotRange → ℕ
tail_count ranges = tail_of (reverse ranges)
  where
    tail_of : List SlotRange → ℕ
    tail_of [] = 0
    tail_of (last ∷ earlier) = joined_count last earlier

-- the one range from the first slot to the last
abbrev pub spanned : SlotRange → List SlotRange → SlotRange
spanned a [] = a
spanned a (b ∷ ranges) = spanned (joined a b) ranges

-- after all slots were merged: one slot, or none if no file survives
abbrev pub slots_after_merge : List SlotRange → List File → List SlotRange
slots_after_merge [] files = []
slots_after_merge (a ∷ ranges) [] = []
slots_after_merge (a ∷ ranges) (file ∷ files) = spanned a ranges ∷ []

-- the addresses of a file
abbrev pub file_range : File → SlotRange
file_range file = slot_range file.base (file.base + width_of file.tokens - 1)

-- the first range to the last as one range, and none if there is none
abbrev pub ranges_spanned : List SlotRange → List SlotRange
ranges_spanned [] = []
ranges_spanned (a ∷ ranges) = spanned a ranges ∷ []

-- after an image with these files was opened: from the base of the first file to the last address of the last
abbrev pub slots_after_open : List File → List SlotRange
slots_after_open files = ranges_spanned (map file_range files)

-- the ranges rise, start at or after low, end before end, and share no address
abbrev pub AreRangesWithin : ℕ → ℕ → List SlotRange → Type 0
AreRangesWithin low end [] = Unit {0}
AreRangesWithin low end (range ∷ ranges) = (low ≤ range.first) × (range.first ≤ range.last) × (range.last < end) × AreRangesWithin (range.last + 1) end ranges

-- each slot but the last is more than four times as wide as the next: the widths 10 and 2 are so, and 8 and 2 are not
abbrev pub AreTiered : List SlotRange → Type 0
AreTiered [] = Unit {0}
AreTiered (a ∷ []) = Unit {0}
AreTiered (a ∷ b ∷ ranges) = (4 * slot_width b < slot_width a) × AreTiered (b ∷ ranges)
