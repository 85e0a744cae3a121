-- Postings of a slot in which nothing is dead.
use Rattle.std.proofs.Common.{◌≡◌, ℕ, List, [], ◌∷◌, length, refl, ap, arith}
use Rattle.gcl_model.specs.Slots.{SlotRange}
use Rattle.slot_terms.specs.Parts.{alive}

-- if nothing is dead, all are alive
pub all_alive : (mask : List SlotRange) (xs : List ℕ) → 0 ≡ length mask → alive mask xs ≡ xs
all_alive [] [] none = refl
all_alive [] (x ∷ xs) none = ap (λ l. x ∷ l) (all_alive [] xs none)
all_alive (range ∷ mask) xs none = absurd (omega (arith, none))
