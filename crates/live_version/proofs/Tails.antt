-- The ranges after an add, if slots at the end are merged and if none is; and how many the rule merges, counted from the end.
use Rattle.std.proofs.Common.{◌≡◌, ℕ, suc, ◌+◌, ◌-◌, ◌*◌, ◌<◌, true, false, cond, leb, List, [], ◌∷◌, ◌++◌, length, take, drop, reverse, get_or, Option, Some, sym, ap, ◌∙◌, arith, length-append, append-nil}
use Rattle.std.specs.Option.{option_to_list}
use Rattle.std.proofs.lemmas.List.{take_at, drop_at, map-append, take-map, drop-map, length-map, length-drop, reverse-append, take_all, drop_all}
use Rattle.gcl_model.specs.Slots.{SlotRange, slot_range, slot_width, spanned, ranges_spanned, joined_count, tail_count}
use Rattle.address_space.proofs.TailLemmas.{tails_are_joined}
use Rattle.live_version.specs.Contents.{SlotContent, ranges_of}
use Rattle.live_version.specs.Changes.{slots_at, whole_range, AreSettledAlone, JoinsTail}
use Rattle.live_version.proofs.WordLemmas.{take_here}

pub settled_alone : (before : List SlotRange) (added : SlotRange) (after : List SlotRange) → after ≡ before ++ added ∷ [] → AreSettledAlone before added after
settled_alone before added after is one =
    let size : length after ≡ length before + 1 = ap length is ∙ length-append before (added ∷ []) in
    let at : length before ≡ length after - tail_count after = omega arith in
    let front : take (length after - tail_count after) after ≡ before = ap (take (length after - tail_count after)) is ∙ take_at before (added ∷ []) (length after - tail_count after) at in
    let back : drop (length after - tail_count after) after ≡ added ∷ [] = ap (drop (length after - tail_count after)) is ∙ drop_at before (added ∷ []) (length after - tail_count after) at in
    is ∙ sym (tails_are_joined before after added is ∙ ap (λ l. l ++ ranges_spanned (drop (length after - tail_count after) after)) front ∙ ap (λ l. before ++ ranges_spanned l) back)

whole_is_span : (ranges : List SlotRange) (range : SlotRange) → whole_range ranges ≡ Some range → ranges_spanned ranges ≡ range ∷ []
whole_is_span [] range e = absurd cc
whole_is_span (first ∷ ranges) range e = let same : spanned first ranges ≡ range = cc in ap (λ r. r ∷ []) same

-- of slots whose last ones are those that the rule makes one
pub joins_tail : (before : List SlotContent) (at count : ℕ) (slot : Option SlotContent) → JoinsTail before at count slot (take at before ++ option_to_list slot ++ drop (at + count) before)
joins_tail before at count slot ranges added joint all is counted whole spans =
    let rs = ranges_of before in
    let size : length rs ≡ length before = length-map before (λ (s : SlotContent). s.range) in
    let place : length rs - tail_count rs ≡ at = omega arith in
    let behind : drop (at + count) before ≡ [] = drop_all (at + count) before (omega arith) in
    let rest : take count (drop at before) ≡ drop at before = take_all count (drop at before) (omega (arith, length-drop at before)) in
    let spanned_rest : ranges_spanned (drop at rs) ≡ joint.range ∷ [] =
    ap ranges_spanned (drop-map (λ (s : SlotContent). s.range) at before) ∙ sym (ap (λ ss. ranges_spanned (ranges_of ss)) rest) ∙ whole_is_span (ranges_of (slots_at at count before)) joint.range spans in
    ap ranges_of (ap (λ o. take at before ++ option_to_list o ++ drop (at + count) before) is ∙ ap (λ l. take at before ++ (joint ∷ []) ++ l) behind ∙ append-nil (take at before ++ joint ∷ []))
    ∙ map-append (λ (s : SlotContent). s.range) (take at before) (joint ∷ [])
    ∙ ap (λ l. l ++ joint.range ∷ []) (sym (take-map (λ (s : SlotContent). s.range) at before))
    ∙ sym (tails_are_joined ranges rs added all ∙ ap (λ n. take n rs ++ ranges_spanned (drop n rs)) place ∙ ap (λ l. take at rs ++ l) spanned_rest)

-- the slot before those that are one already
pub counted_step : (slots : List SlotContent) (at : ℕ) (before : SlotContent) (range : SlotRange) → at < length slots → before ≡ get_or slots at before →
    joined_count range (reverse (ranges_of (take (suc at) slots)))
    ≡ cond (leb (slot_width before.range) (4 * slot_width range)) (joined_count (slot_range before.range.first range.last) (reverse (ranges_of (take at slots))) + 1) 1
counted_step slots at before range lt is =
    ap (λ ss. joined_count range (reverse (ranges_of ss))) (take_here slots at before lt is)
    ∙ ap (λ rs. joined_count range (reverse rs)) (map-append (λ (s : SlotContent). s.range) (take at slots) (before ∷ []))
    ∙ ap (joined_count range) (reverse-append (ranges_of (take at slots)) (before.range ∷ []))

pub counted_joined : (slots : List SlotContent) (at m : ℕ) (before : SlotContent) (first last : ℕ) → suc m ≡ at → m < length slots → before ≡ get_or slots m before → leb (slot_width before.range) (4 * slot_width (slot_range first last)) ≡ true →
    joined_count (slot_range first last) (reverse (ranges_of (take at slots))) ≡ joined_count (slot_range before.range.first last) (reverse (ranges_of (take m slots))) + 1
counted_joined slots at m before first last here lt is test =
    ap (λ n. joined_count (slot_range first last) (reverse (ranges_of (take n slots)))) (sym here) ∙ counted_step slots m before (slot_range first last) lt is
    ∙ ap (λ t. cond t (joined_count (slot_range before.range.first last) (reverse (ranges_of (take m slots))) + 1) 1) test

pub counted_alone : (slots : List SlotContent) (at m : ℕ) (before : SlotContent) (first last : ℕ) → suc m ≡ at → m < length slots → before ≡ get_or slots m before → leb (slot_width before.range) (4 * slot_width (slot_range first last)) ≡ false →
    joined_count (slot_range first last) (reverse (ranges_of (take at slots))) ≡ 1
counted_alone slots at m before first last here lt is test =
    ap (λ n. joined_count (slot_range first last) (reverse (ranges_of (take n slots)))) (sym here) ∙ counted_step slots m before (slot_range first last) lt is
    ∙ ap (λ t. cond t (joined_count (slot_range before.range.first last) (reverse (ranges_of (take m slots))) + 1) 1) test
