-- Ranges of addresses that are dead.
use Rattle.std.specs.Prelude.{◌≡◌, ℕ, ◌+◌, Bool, true, false, ◌&&◌, ◌==◌, nat_le, nat_lt, List, [], ◌∷◌, find, Option, if◌then◌else◌}
use Rattle.std.specs.List.{list_any}
use Rattle.gcl_model.specs.Slots.{SlotRange, joined}

-- whether the range has the address
abbrev pub is_within : SlotRange → ℕ → Bool
is_within range p = nat_le range.first p && nat_le p range.last

-- whether one of the ranges has the address
abbrev pub is_dead : List SlotRange → ℕ → Bool
is_dead mask p = list_any (λ range. is_within range p) mask

-- the range that has the address: of 2 to 4 and 7 to 9, at 8 it is 7 to 9, and at 5 there is none
abbrev pub dead_range : List SlotRange → ℕ → Option SlotRange
dead_range mask p = find (λ range. is_within range p) mask

-- no address is in the range and dead
abbrev pub IsApart : SlotRange → List SlotRange → Type 0
IsApart range mask = (p : ℕ) → is_within range p ≡ true → is_dead mask p ≡ false

-- with one more range, which is joined with those that it touches: 2 to 4 and 7 to 9 with 5 to 6 are 2 to 9
abbrev pub with_range : SlotRange → List SlotRange → List SlotRange
with_range range [] = range ∷ []
with_range range (dead ∷ mask) =
    if nat_lt (dead.last + 1) range.first then dead ∷ with_range range mask
    else if dead.last + 1 == range.first then with_range (joined dead range) mask
    else if range.last + 1 == dead.first then joined range dead ∷ mask
    else range ∷ dead ∷ mask
