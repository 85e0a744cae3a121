-- Slots by their places: where those that end before an address, or begin up to it, end.
use Rattle.std.proofs.Common.{◌≡◌, ℕ, zero, suc, ◌+◌, ◌<◌, ◌≤◌, List, [], ◌∷◌, length, get_or, ap, arith, le_refl}
use Rattle.std.specs.List.Sorted.{IsNonDecreasingBy}
use Rattle.gcl_model.specs.Slots.{AreRangesWithin}
use Rattle.live_version.specs.Contents.{SlotContent, ranges_of}

slot_above : (low end : ℕ) (slots : List SlotContent) → AreRangesWithin low end (ranges_of slots) → (j : ℕ) (d : SlotContent) → j < length slots →
    (low ≤ (get_or slots j d).range.first) × ((get_or slots j d).range.first ≤ (get_or slots j d).range.last)
slot_above low end [] r j d lt = absurd (omega arith)
slot_above low end (slot ∷ slots) r zero d lt = (r.0, r.1)
slot_above low end (slot ∷ slots) r (suc j) d lt =
    let a = r.0 in
    let b = r.1 in
    let rest = slot_above (slot.range.last + 1) end slots r.3 j d (omega arith) in
    let c = rest.0 in
    (omega arith, rest.1)

pub lasts_rise : (low end : ℕ) (slots : List SlotContent) → AreRangesWithin low end (ranges_of slots) → IsNonDecreasingBy (λ (slot : SlotContent). slot.range.last) slots
lasts_rise low end [] r i j d le lt = absurd (omega arith)
lasts_rise low end (slot ∷ slots) r zero zero d le lt = le_refl slot.range.last
lasts_rise low end (slot ∷ slots) r zero (suc j) d le lt =
    let rest = slot_above (slot.range.last + 1) end slots r.3 j d (omega arith) in
    let a = rest.0 in
    let b = rest.1 in
    omega arith
lasts_rise low end (slot ∷ slots) r (suc i) zero d le lt = absurd (omega arith)
lasts_rise low end (slot ∷ slots) r (suc i) (suc j) d le lt = lasts_rise (slot.range.last + 1) end slots r.3 i j d (omega arith) (omega arith)

pub firsts_rise : (low end : ℕ) (slots : List SlotContent) → AreRangesWithin low end (ranges_of slots) → IsNonDecreasingBy (λ (slot : SlotContent). slot.range.first) slots
firsts_rise low end [] r i j d le lt = absurd (omega arith)
firsts_rise low end (slot ∷ slots) r zero zero d le lt = le_refl slot.range.first
firsts_rise low end (slot ∷ slots) r zero (suc j) d le lt =
    let rest = slot_above (slot.range.last + 1) end slots r.3 j d (omega arith) in
    let a = rest.0 in
    let b = r.1 in
    omega arith
firsts_rise low end (slot ∷ slots) r (suc i) zero d le lt = absurd (omega arith)
firsts_rise low end (slot ∷ slots) r (suc i) (suc j) d le lt = firsts_rise (slot.range.last + 1) end slots r.3 i j d (omega arith) (omega arith)

-- an earlier slot begins before a later one ends
pub begins_before : (low end : ℕ) (slots : List SlotContent) (i j : ℕ) (a b : SlotContent) → AreRangesWithin low end (ranges_of slots) → i ≤ j → j < length slots → a ≡ get_or slots i a → b ≡ get_or slots j b → a.range.first ≤ b.range.last
begins_before low end [] i j a b r le lt is_a is_b = absurd (omega arith)
begins_before low end (x ∷ xs) zero zero a b r le lt is_a is_b =
    let first : a.range.first ≡ x.range.first = ap (λ (s : SlotContent). s.range.first) is_a in
    let last : b.range.last ≡ x.range.last = ap (λ (s : SlotContent). s.range.last) is_b in
    let some : x.range.first ≤ x.range.last = r.1 in
    omega arith
begins_before low end (x ∷ xs) zero (suc j) a b r le lt is_a is_b =
    let first : a.range.first ≡ x.range.first = ap (λ (s : SlotContent). s.range.first) is_a in
    let some : x.range.first ≤ x.range.last = r.1 in
    let above = slot_above (x.range.last + 1) end xs r.3 j b (omega arith) in
    let from = above.0 in
    let to = above.1 in
    let last : b.range.last ≡ (get_or xs j b).range.last = ap (λ (s : SlotContent). s.range.last) is_b in
    omega arith
begins_before low end (x ∷ xs) (suc i) zero a b r le lt is_a is_b = absurd (omega arith)
begins_before low end (x ∷ xs) (suc i) (suc j) a b r le lt is_a is_b = begins_before (x.range.last + 1) end xs i j a b r.3 (omega arith) (omega arith) is_a is_b
