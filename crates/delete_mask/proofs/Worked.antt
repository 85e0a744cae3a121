-- Masks of a few ranges.
use Rattle.std.proofs.Common.{◌≡◌, true, List, [], ◌∷◌, Some, None, refl}
use Rattle.gcl_model.specs.Slots.{SlotRange, slot_range}
use Rattle.delete_mask.specs.Masks.{is_dead, dead_range, with_range}

-- 2 to 4 and 7 to 9
abbrev two : List SlotRange
two = slot_range 2 4 ∷ slot_range 7 9 ∷ []

dead_range-found : dead_range two 8 ≡ Some (slot_range 7 9)
dead_range-found = refl

dead_range-between : dead_range two 5 ≡ None
dead_range-between = refl

is_dead-last : is_dead two 4 ≡ true
is_dead-last = refl

with_range-fills : with_range (slot_range 5 6) two ≡ slot_range 2 9 ∷ []
with_range-fills = refl

with_range-touches_before : with_range (slot_range 5 5) two ≡ slot_range 2 5 ∷ slot_range 7 9 ∷ []
with_range-touches_before = refl

with_range-touches_after : with_range (slot_range 6 6) two ≡ slot_range 2 4 ∷ slot_range 6 9 ∷ []
with_range-touches_after = refl

with_range-first : with_range (slot_range 0 0) two ≡ slot_range 0 0 ∷ two
with_range-first = refl

with_range-last : with_range (slot_range 11 12) two ≡ slot_range 2 4 ∷ slot_range 7 9 ∷ slot_range 11 12 ∷ []
with_range-last = refl
