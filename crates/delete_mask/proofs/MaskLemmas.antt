-- Which addresses are dead, and where ranges lie.
use Rattle.std.proofs.Common.{◌≡◌, ℕ, ◌+◌, ◌<◌, ◌≤◌, Bool, true, false, ◌||◌, cond, leb, List, [], ◌∷◌, Some, None, refl, sym, ap, ◌∙◌, arith, inl, inr, ◌⊎◌, ◌↔◌}
use Rattle.std.proofs.lemmas.Bool.{cases_lt, le-leb, lt-leb, leb-true, false≢true, and_left, and_right, and_from, and_parts, or_parts}
use Rattle.gcl_model.specs.Slots.{SlotRange, joined, AreRangesWithin}
use Rattle.delete_mask.specs.Masks.{is_within, is_dead, dead_range, IsApart}

pub is_within-inside : (range : SlotRange) (p : ℕ) → range.first ≤ p → p ≤ range.last → is_within range p ≡ true
is_within-inside range p h k = and_from (leb range.first p) (leb p range.last) (le-leb range.first p h) (le-leb p range.last k)

pub is_within-before : (range : SlotRange) (p : ℕ) → p < range.first → is_within range p ≡ false
is_within-before range p h = and_left (leb range.first p) (leb p range.last) (lt-leb range.first p h)

pub is_within-behind : (range : SlotRange) (p : ℕ) → range.last < p → is_within range p ≡ false
is_within-behind range p h = and_right (leb range.first p) (leb p range.last) (lt-leb p range.last h)

pub is_within-bounds : (range : SlotRange) (p : ℕ) → is_within range p ≡ true → (range.first ≤ p) × (p ≤ range.last)
is_within-bounds range p e =
    let both = and_parts (leb range.first p) (leb p range.last) e in
    (leb-true range.first p both.0, leb-true p range.last both.1)

-- an address is dead exactly if a range has it
pub dead_range-none : (mask : List SlotRange) (p : ℕ) → (is_dead mask p ≡ false) ↔ (dead_range mask p ≡ None)
dead_range-none [] p = (λ e. refl, λ e. refl)
dead_range-none (range ∷ mask) p = here (is_within range p) (dead_range-none mask p)
  where
    here : (t : Bool) → (is_dead mask p ≡ false) ↔ (dead_range mask p ≡ None) → ((t || is_dead mask p) ≡ false) ↔ (cond t (Some range) (dead_range mask p) ≡ None)
    here true rest = (λ e. cc, λ e. cc)
    here false rest = rest

-- the range that was found has the address, and is among the ranges
pub dead_range-within : (mask : List SlotRange) (p : ℕ) (range : SlotRange) → dead_range mask p ≡ Some range → is_within range p ≡ true
dead_range-within [] p range e = absurd cc
dead_range-within (dead ∷ mask) p range e = here (is_within dead p) refl e (dead_range-within mask p range)
  where
    here : (t : Bool) → is_within dead p ≡ t → cond t (Some dead) (dead_range mask p) ≡ Some range → (dead_range mask p ≡ Some range → is_within range p ≡ true) → is_within range p ≡ true
    here true is found rest = let same : dead ≡ range = cc in sym (ap (λ r. is_within r p) same) ∙ is
    here false is found rest = rest found

pub dead_range-dead : (mask : List SlotRange) (p : ℕ) (range : SlotRange) → dead_range mask p ≡ Some range → is_dead mask p ≡ true
dead_range-dead mask p range e = here (is_dead mask p) refl
  where
    here : (t : Bool) → is_dead mask p ≡ t → t ≡ true
    here true is = refl
    here false is = let none = (dead_range-none mask p).0 is in absurd cc

-- no address before all ranges is dead
pub dead_range-before : (low end : ℕ) (mask : List SlotRange) (p : ℕ) → AreRangesWithin low end mask → p < low → dead_range mask p ≡ None
dead_range-before low end [] p h below = refl
dead_range-before low end (range ∷ mask) p h below =
    let first : low ≤ range.first = h.0 in
    let last : range.first ≤ range.last = h.1 in
    ap (λ t. cond t (Some range) (dead_range mask p)) (is_within-before range p (omega arith))
    ∙ dead_range-before (range.last + 1) end mask p h.3 (omega arith)

pub is_dead-before : (low end : ℕ) (mask : List SlotRange) (p : ℕ) → AreRangesWithin low end mask → p < low → is_dead mask p ≡ false
is_dead-before low end mask p h below = (dead_range-none mask p).1 (dead_range-before low end mask p h below)

pub IsApart-rest : (range dead : SlotRange) (mask : List SlotRange) → IsApart range (dead ∷ mask) → IsApart range mask
IsApart-rest range dead mask apart p within = (or_parts (is_within dead p) (is_dead mask p) (apart p within)).1

pub IsApart-joined : (range dead : SlotRange) (end : ℕ) (mask : List SlotRange) → dead.last + 1 ≡ range.first → AreRangesWithin (dead.last + 1) end mask → IsApart range mask → IsApart (joined dead range) mask
IsApart-joined range dead end mask touch h apart p within = by_place (cases_lt dead.last p)
  where
    by_place : (dead.last < p) ⊎ (p ≤ dead.last) → is_dead mask p ≡ false
    by_place (inl behind) = apart p (is_within-inside range p (omega arith) (is_within-bounds (joined dead range) p within).1)
    by_place (inr le) = is_dead-before (dead.last + 1) end mask p h (omega arith)

-- of two ranges with no common address, one lies after the other
pub IsApart-behind : (range dead : SlotRange) (mask : List SlotRange) → range.first ≤ range.last → dead.first ≤ dead.last → IsApart range (dead ∷ mask) → range.first ≤ dead.last → range.last < dead.first
IsApart-behind range dead mask h k apart le = by_place (cases_lt range.last dead.first) (cases_lt range.first dead.first)
  where
    outside : (p : ℕ) → is_within range p ≡ true → is_within dead p ≡ false
    outside p within = (or_parts (is_within dead p) (is_dead mask p) (apart p within)).0

    by_place : (range.last < dead.first) ⊎ (dead.first ≤ range.last) → (range.first < dead.first) ⊎ (dead.first ≤ range.first) → range.last < dead.first
    by_place (inl behind) place = behind
    by_place (inr meets) (inl before) =
        let no = outside dead.first (is_within-inside range dead.first (omega arith) meets) in
        let is = is_within-inside dead dead.first (omega arith) k in
        absurd (false≢true (sym no ∙ is))
    by_place (inr meets) (inr after) =
        let no = outside range.first (is_within-inside range range.first (omega arith) h) in
        let is = is_within-inside dead range.first after le in
        absurd (false≢true (sym no ∙ is))
