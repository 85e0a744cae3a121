-- Ranges that lie one after another, when one comes, and when one takes the place of some.
use Rattle.std.proofs.Common.{◌≡◌, ℕ, ◌+◌, ◌<◌, ◌≤◌, List, [], ◌∷◌, ◌++◌, refl, arith}
use Rattle.gcl_model.specs.Slots.{SlotRange, joined, spanned, AreRangesWithin}
use Rattle.address_space.proofs.TierLemmas.{ranges_earlier}
use Rattle.live_version.specs.Changes.{whole_range, LiesInside}

pub ranges_push : (low end later : ℕ) (ranges : List SlotRange) (range : SlotRange) → low ≤ end → AreRangesWithin low end ranges → end ≤ range.first → range.first ≤ range.last → range.last < later
    → AreRangesWithin low later (ranges ++ range ∷ [])
ranges_push low end later [] range le h behind some last = (omega arith, some, last, tt)
ranges_push low end later (first ∷ ranges) range le h behind some last =
    let under : first.last < end = h.2 in
    (h.0, h.1, omega arith, ranges_push (first.last + 1) end later ranges range (omega arith) h.3 behind some last)

ranges_less : (low end : ℕ) (gone after : List SlotRange) → AreRangesWithin low end (gone ++ after) → AreRangesWithin low end after
ranges_less low end [] after h = h
ranges_less low end (range ∷ gone) after h =
    let start : low ≤ range.first = h.0 in
    let some : range.first ≤ range.last = h.1 in
    ranges_earlier low (range.last + 1) end after (omega arith) (ranges_less (range.last + 1) end gone after h.3)

-- some of them may go
pub ranges_without : (low end : ℕ) (before gone after : List SlotRange) → AreRangesWithin low end (before ++ (gone ++ after)) → AreRangesWithin low end (before ++ after)
ranges_without low end [] gone after h = ranges_less low end gone after h
ranges_without low end (range ∷ before) gone after h = (h.0, h.1, h.2, ranges_without (range.last + 1) end before gone after h.3)

-- if ranges lie after one, the span of all of them begins with it and ends before what lies after all
record IsSpan (end : ℕ) (first whole : SlotRange) (after : List SlotRange) : Type 0 where
  start : whole.first ≡ first.first
  inside : whole.last < end
  behind : AreRangesWithin (whole.last + 1) end after

span : (end : ℕ) (first : SlotRange) (ranges after : List SlotRange) → first.last < end → AreRangesWithin (first.last + 1) end (ranges ++ after) → IsSpan end first (spanned first ranges) after
span end first [] after last h = record { start = refl; inside = last; behind = h }
span end first (next ∷ ranges) after last h = let rest = span end (joined first next) ranges after h.2 h.3 in record { start = rest.start; inside = rest.inside; behind = rest.behind }

-- one that lies inside the span of some may take their place
pub ranges_in_place : (low end : ℕ) (before gone after : List SlotRange) (range : SlotRange) → range.first ≤ range.last → LiesInside range (whole_range gone) → AreRangesWithin low end (before ++ (gone ++ after))
    → AreRangesWithin low end (before ++ range ∷ after)
ranges_in_place low end [] [] after range some inside h = absurd inside
ranges_in_place low end [] (first ∷ gone) after range some inside h =
    let whole = span end first gone after h.2 h.3 in
    let begin : (spanned first gone).first ≡ first.first = whole.start in
    let low_first : low ≤ first.first = h.0 in
    let from : (spanned first gone).first ≤ range.first = inside.0 in
    let to : range.last ≤ (spanned first gone).last = inside.1 in
    let under : (spanned first gone).last < end = whole.inside in
    (omega arith, some, omega arith, ranges_earlier (range.last + 1) ((spanned first gone).last + 1) end after (omega arith) whole.behind)
ranges_in_place low end (first ∷ before) gone after range some inside h = (h.0, h.1, h.2, ranges_in_place (first.last + 1) end before gone after range some inside h.3)
