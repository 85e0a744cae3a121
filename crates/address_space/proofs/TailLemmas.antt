-- Which of the slots an add makes one.
use Rattle.std.proofs.Common.{◌≡◌, ℕ, ◌+◌, ◌-◌, ◌*◌, Bool, true, false, cond, leb, List, [], ◌∷◌, ◌++◌, length, take, drop, reverse, refl, sym, ap, ◌∙◌, arith, length-append}
use Rattle.std.proofs.lemmas.List.{take_at, drop_at, reverse-reverse, reverse-append, length-reverse}
use Rattle.gcl_model.specs.Slots.{SlotRange, slot_width, joined, settled, joined_count, tail_count, spanned, ranges_spanned}
use Rattle.gcl_model.specs.Laws.{TailsAreJoined}
use Rattle.address_space.proofs.TierLemmas.{reverse-cons, reverse-cons-append}

-- a range joined with many that are spanned begins the span
joined-spanned : (before range : SlotRange) (ranges : List SlotRange) → joined before (spanned range ranges) ≡ spanned (joined before range) ranges
joined-spanned before range [] = refl
joined-spanned before range (next ∷ ranges) = joined-spanned before (joined range next) ranges

-- if no more are merged
unjoined : (range : SlotRange) (ranges earlier whole : List SlotRange) (m : ℕ) → whole ≡ reverse earlier ++ range ∷ ranges → m ≡ length earlier →
    reverse (spanned range ranges ∷ earlier) ≡ take m whole ++ ranges_spanned (drop m whole)
unjoined range ranges earlier whole m e count =
    let at : length (reverse earlier) ≡ m = length-reverse earlier ∙ sym count in
    let front : take m whole ≡ reverse earlier = ap (take m) e ∙ take_at (reverse earlier) (range ∷ ranges) m at in
    let back : drop m whole ≡ range ∷ ranges = ap (drop m) e ∙ drop_at (reverse earlier) (range ∷ ranges) m at in
    reverse-cons (spanned range ranges) earlier ∙ sym (ap (λ l. l ++ ranges_spanned (drop m whole)) front ∙ ap (λ l. reverse earlier ++ ranges_spanned l) back)

-- those starting at range are merged already
settled_tail : (range : SlotRange) (ranges earlier whole : List SlotRange) (m : ℕ) → whole ≡ reverse earlier ++ range ∷ ranges → m ≡ length earlier + 1 - joined_count (spanned range ranges) earlier →
    reverse (settled (spanned range ranges) earlier) ≡ take m whole ++ ranges_spanned (drop m whole)
settled_tail range ranges [] whole m e count = unjoined range ranges [] whole m e (omega arith)
settled_tail range ranges (before ∷ earlier) whole m e count =
    by_test (leb (slot_width before) (4 * slot_width (spanned range ranges))) count
    (λ n. settled_tail before (range ∷ ranges) earlier whole m (e ∙ reverse-cons-append before earlier (range ∷ ranges)) n)
  where
    last : SlotRange
    last = spanned range ranges

    by_test : (t : Bool) → m ≡ length (before ∷ earlier) + 1 - cond t (joined_count (joined before last) earlier + 1) 1
        → (m ≡ length earlier + 1 - joined_count (spanned before (range ∷ ranges)) earlier → reverse (settled (spanned before (range ∷ ranges)) earlier) ≡ take m whole ++ ranges_spanned (drop m whole))
        → reverse (cond t (settled (joined before last) earlier) (last ∷ before ∷ earlier)) ≡ take m whole ++ ranges_spanned (drop m whole)
    by_test true n more =
        let one : joined before last ≡ spanned before (range ∷ ranges) = joined-spanned before range ranges in
        let counted : joined_count (joined before last) earlier ≡ joined_count (spanned before (range ∷ ranges)) earlier = ap (λ r. joined_count r earlier) one in
        ap (λ r. reverse (settled r earlier)) one ∙ more (omega arith)
    by_test false n more = unjoined range ranges (before ∷ earlier) whole m e (omega arith)

-- the last slot and those before it
pub tail_count-last : (ranges : List SlotRange) (range : SlotRange) → tail_count (ranges ++ range ∷ []) ≡ joined_count range (reverse ranges)
tail_count-last ranges range =
    let back : reverse (ranges ++ range ∷ []) ≡ range ∷ reverse ranges = reverse-append ranges (range ∷ []) in
    rw back refl

pub tails_are_joined : TailsAreJoined
tails_are_joined ranges all range is =
    let size : length all ≡ length (reverse ranges) + 1 = ap length is ∙ omega (arith, length-append ranges (range ∷ []), length-reverse ranges) in
    let count : tail_count all ≡ joined_count range (reverse ranges) = ap tail_count is ∙ tail_count-last ranges range in
    settled_tail range [] (reverse ranges) all (length all - tail_count all) (is ∙ sym (ap (λ l. l ++ range ∷ []) (reverse-reverse ranges))) (omega arith)
