-- The words of slots: they rise, and a look-up among them is one among the postings.
use Rattle.std.proofs.Common.{◌≡◌, ℕ, zero, suc, ◌+◌, ◌<◌, ◌≤◌, Bool, true, not, leb, ltb, List, [], ◌∷◌, ◌++◌, length, filter, find, take, drop, bytes_eq, Option, Some, None, inl, inr, refl, sym, ap, ◌∙◌, subst, arith, le_refl, get_or, length-append}
use Rattle.std.specs.List.{AllByRecursion, prefix_len}
use Rattle.std.specs.Option.{option_or}
use Rattle.std.proofs.lemmas.Bool.{true≢false, cases_Bool, leb-false, ltb-true}
use Rattle.std.proofs.lemmas.List.{append-nil, nil_from_length}
use Rattle.std.proofs.lemmas.Grind.{flat_map-append}
use Rattle.gcl_model.specs.Limits.{most_slots}
use Rattle.gcl_model.specs.Access.{find_last, later_or}
use Rattle.gcl_model.specs.Slots.{SlotRange, slot_range, AreRangesWithin}
use Rattle.gcl_model.specs.Texts.{Word, IsText, places, next_place, previous_place, AreRisingBelow}
use Rattle.index_shard.specs.Tables.{ShardContent, IsShard, RiseWithin, postings_of, words_of}
use Rattle.index_shard.proofs.ShardWords.{places_are_postings, shard_words_rise, rising_places}
use Rattle.delete_mask.specs.Masks.{is_dead}
use Rattle.live_version.specs.Contents.{SlotContent, VersionContent, IsSlot, IsVersion, is_of_files, live_words, live_of, ranges_of, dead_of, version_text}
use Rattle.gcl_model.proofs.WordLists.{rising_earlier, rising_filter, rising_append, next_place-append, previous_place-append, none_next, none_previous}
use Rattle.live_version.specs.LookUps.{is_alive, look_ups}
use Rattle.address_space.specs.Runs.{FileEntry}

pub postings_rise : (shard : ShardContent) (term : List ℕ) → IsShard shard → RiseWithin shard.range.first (shard.range.last + 1) (postings_of shard.table term)
postings_rise shard term is =
    subst (RiseWithin shard.range.first (shard.range.last + 1)) (places_are_postings shard term is)
    (rising_places (shard.range.last + 1) shard.range.first (words_of shard) term (shard_words_rise shard is))

-- a filter by address may come before or after
pub places-filter : (alive : ℕ → Bool) (words : List Word) (term : List ℕ) → places (filter (λ w. alive w.address) words) term ≡ filter alive (places words term)
places-filter alive [] term = refl
places-filter alive (w ∷ ws) term =
    let rest = places-filter alive ws term in
    elim (cases_Bool (bytes_eq w.token term)) [
      | inl e ↦ elim (cases_Bool (alive w.address)) [
        | inl a ↦ rw (a, e, a) (ap (λ ps. w.address ∷ ps) rest)
        | inr a ↦ rw (a, e, a) rest
      ]
      | inr e ↦ elim (cases_Bool (alive w.address)) [
        | inl a ↦ rw (a, e) rest
        | inr a ↦ rw (a, e) rest
      ]
    ]

-- the living postings are the places of the live words
pub live_places : (slot : SlotContent) (term : List ℕ) → IsSlot slot → places (live_words slot) term ≡ filter (is_alive slot.mask) (postings_of slot.shard.table term)
live_places slot term is = places-filter (is_alive slot.mask) (words_of slot.shard) term ∙ ap (filter (is_alive slot.mask)) (places_are_postings slot.shard term is.shard)

-- without a file there is no live word
owned_by_none : (words : List Word) → AllByRecursion (λ w. is_of_files [] w.address ≡ true) words → words ≡ []
owned_by_none [] all = refl
owned_by_none (w ∷ ws) all = absurd (true≢false (sym all.0))

pub no_live_words : (slot : SlotContent) → IsSlot slot → slot.files ≡ [] → live_words slot ≡ []
no_live_words slot is none = owned_by_none (live_words slot) (subst (λ files. AllByRecursion (λ w. is_of_files files w.address ≡ true) (live_words slot)) none is.owned)

pub live_words_rise : (slot : SlotContent) → IsSlot slot → AreRisingBelow (slot.range.last + 1) slot.range.first (live_words slot)
live_words_rise slot is =
    subst (λ r. AreRisingBelow (r.last + 1) r.first (live_words slot)) is.indexed
    (rising_filter (slot.shard.range.last + 1) slot.shard.range.first (λ w. not (is_dead slot.mask w.address)) (words_of slot.shard) (shard_words_rise slot.shard is.shard))

pub live_of_rise : (low end : ℕ) (slots : List SlotContent) → AreRangesWithin low end (ranges_of slots) → AllByRecursion IsSlot slots → AreRisingBelow end low (live_of slots)
live_of_rise low end [] r all = tt
live_of_rise low end (slot ∷ slots) r all =
    let a = r.0 in
    let b = r.1 in
    let c = r.2 in
    rising_append low (slot.range.last + 1) end (live_words slot) (live_of slots) (rising_earlier (slot.range.last + 1) low slot.range.first (live_words slot) a (live_words_rise slot all.0))
    (live_of_rise (slot.range.last + 1) end slots r.3 all.1) (omega arith) (omega arith)

pub version_is_text : (v : VersionContent) → IsVersion v → IsText (version_text v)
version_is_text v is = record { ordered = is.ordered; in_range = is.in_range; rising = live_of_rise v.first v.next v.slots is.apart is.slots }

-- the slots that end before an address have none of the words at or after it
pub next_from : (slots : List SlotContent) (term : List ℕ) (k : ℕ) → AllByRecursion IsSlot slots →
    next_place (live_of (drop (prefix_len (λ slot. ltb slot.range.last k) slots) slots)) term k ≡ next_place (live_of slots) term k
next_from [] term k all = refl
next_from (slot ∷ slots) term k all =
    elim (cases_Bool (ltb slot.range.last k)) [
      | inl t ↦
          let lt = ltb-true slot.range.last k t in
          let none = none_next (slot.range.last + 1) slot.range.first (live_words slot) term k (live_words_rise slot all.0) (omega arith) in
          let one : 1 + prefix_len (λ slot. ltb slot.range.last k) slots ≡ suc (prefix_len (λ slot. ltb slot.range.last k) slots) = omega arith in
          rw (t, one) (next_from slots term k all.1 ∙ sym (next_place-append (live_words slot) (live_of slots) term k ∙ ap (λ o. option_or o (next_place (live_of slots) term k)) none))
      | inr f ↦ rw f refl
    ]

-- those that begin after an address have none of the words up to it
pub previous_upto : (low end : ℕ) (slots : List SlotContent) (term : List ℕ) (k : ℕ) → AreRangesWithin low end (ranges_of slots) → AllByRecursion IsSlot slots →
    previous_place (live_of (take (prefix_len (λ slot. leb slot.range.first k) slots) slots)) term k ≡ previous_place (live_of slots) term k
previous_upto low end [] term k r all = refl
previous_upto low end (slot ∷ slots) term k r all =
    elim (cases_Bool (leb slot.range.first k)) [
      | inl t ↦
          let n = prefix_len (λ slot. leb slot.range.first k) slots in
          let one : 1 + n ≡ suc n = omega arith in
          rw (t, one)
          (previous_place-append (live_words slot) (live_of (take n slots)) term k
          ∙ ap (λ o. later_or o (previous_place (live_words slot) term k)) (previous_upto (slot.range.last + 1) end slots term k r.3 all.1)
          ∙ sym (previous_place-append (live_words slot) (live_of slots) term k))
      | inr f ↦
          let lt = leb-false slot.range.first k f in
          let r' : AreRangesWithin slot.range.first end (ranges_of (slot ∷ slots)) = (le_refl slot.range.first, r.1, r.2, r.3) in
          rw f (sym (none_previous end slot.range.first (live_of (slot ∷ slots)) term k (live_of_rise slot.range.first end (slot ∷ slots) r' all) lt))
    ]

-- a look-up among the living postings of a slot's index is one among its live words
pub next_by_slot : (slot : SlotContent) (shard : ShardContent) (mask : List SlotRange) (term : List ℕ) (k : ℕ) (o : Option ℕ) → IsSlot slot → shard ≡ slot.shard → mask ≡ slot.mask →
    o ≡ find (λ p. leb k p) (filter (is_alive mask) (postings_of shard.table term)) → o ≡ next_place (live_words slot) term k
next_by_slot slot shard mask term k o is e f answer =
    answer ∙ ap (λ m. find (λ p. leb k p) (filter (is_alive m) (postings_of shard.table term))) f
    ∙ ap (λ (s : ShardContent). find (λ p. leb k p) (filter (is_alive slot.mask) (postings_of s.table term))) e
    ∙ sym (ap (find (λ p. leb k p)) (live_places slot term is))

pub previous_by_slot : (slot : SlotContent) (shard : ShardContent) (mask : List SlotRange) (term : List ℕ) (k : ℕ) (o : Option ℕ) → IsSlot slot → shard ≡ slot.shard → mask ≡ slot.mask →
    o ≡ find_last (λ p. leb p k) (filter (is_alive mask) (postings_of shard.table term)) → o ≡ previous_place (live_words slot) term k
previous_by_slot slot shard mask term k o is e f answer =
    answer ∙ ap (λ m. find_last (λ p. leb p k) (filter (is_alive m) (postings_of shard.table term))) f
    ∙ ap (λ (s : ShardContent). find_last (λ p. leb p k) (filter (is_alive slot.mask) (postings_of s.table term))) e
    ∙ sym (ap (find_last (λ p. leb p k)) (live_places slot term is))

-- if a slot has no file, nothing is found in it
pub no_words : (slot : SlotContent) (n : ℕ) → IsSlot slot → n ≡ length slot.files → n ≡ 0 → live_words slot ≡ []
no_words slot n is count none = no_live_words slot is (nil_from_length slot.files (sym count ∙ none))

-- the addresses of a slot are those of its index
pub range_of_shard : (slot : SlotContent) (shard : ShardContent) (first last : ℕ) (range : SlotRange) → IsSlot slot → shard ≡ slot.shard → slot_range first last ≡ range → range ≡ slot.range → slot_range first last ≡ shard.range
range_of_shard slot shard first last range is e f g = f ∙ g ∙ sym is.indexed ∙ ap (λ (s : ShardContent). s.range) (sym e)

-- a slot more at the front, or at the end
pub look_ups-cons : (slot : SlotContent) (slots : List SlotContent) → look_ups (slot ∷ slots) ≡ (1 + length slot.mask) + look_ups slots
look_ups-cons slot slots = omega (arith, length-append slot.mask (dead_of slots))

pub look_ups-push : (slots : List SlotContent) (slot : SlotContent) → look_ups (slots ++ slot ∷ []) ≡ look_ups slots + (1 + length slot.mask)
look_ups-push [] slot = look_ups-cons slot [] ∙ (omega arith)
look_ups-push (x ∷ xs) slot =
    let rest = look_ups-push xs slot in
    let a = look_ups-cons x (xs ++ slot ∷ []) in
    let b = look_ups-cons x xs in
    omega arith

pub look_ups-drop : (n : ℕ) (slots : List SlotContent) → look_ups (drop n slots) ≤ look_ups slots
look_ups-drop zero [] = omega arith
look_ups-drop (suc n) [] = omega arith
look_ups-drop zero (x ∷ xs) = omega arith
look_ups-drop (suc n) (x ∷ xs) = let rest = look_ups-drop n xs in let b = look_ups-cons x xs in omega arith

pub look_ups-take : (n : ℕ) (slots : List SlotContent) → look_ups (take n slots) ≤ look_ups slots
look_ups-take zero [] = omega arith
look_ups-take (suc n) [] = omega arith
look_ups-take zero (x ∷ xs) = omega arith
look_ups-take (suc n) (x ∷ xs) = let rest = look_ups-take n xs in let a = look_ups-cons x (take n xs) in let b = look_ups-cons x xs in omega arith

pub next_in_first : (slot : SlotContent) (slots : List SlotContent) (term : List ℕ) (k p : ℕ) → Some p ≡ next_place (live_words slot) term k → Some p ≡ next_place (live_of (slot ∷ slots)) term k
next_in_first slot slots term k p is = sym (next_place-append (live_words slot) (live_of slots) term k ∙ ap (λ o. option_or o (next_place (live_of slots) term k)) (sym is))

pub next_in_rest : (slot : SlotContent) (slots : List SlotContent) (term : List ℕ) (k : ℕ) → None ≡ next_place (live_words slot) term k → next_place (live_of (slot ∷ slots)) term k ≡ next_place (live_of slots) term k
next_in_rest slot slots term k none = next_place-append (live_words slot) (live_of slots) term k ∙ ap (λ o. option_or o (next_place (live_of slots) term k)) (sym none)

previous_push : (slots : List SlotContent) (slot : SlotContent) (term : List ℕ) (k : ℕ) →
    previous_place (live_of (slots ++ slot ∷ [])) term k ≡ later_or (previous_place (live_words slot) term k) (previous_place (live_of slots) term k)
previous_push slots slot term k =
    ap (λ ws. previous_place ws term k) (flat_map-append live_words slots (slot ∷ []) ∙ ap (λ ws. live_of slots ++ ws) (append-nil (live_words slot)))
    ∙ previous_place-append (live_of slots) (live_words slot) term k

pub previous_in_last : (slots : List SlotContent) (slot : SlotContent) (term : List ℕ) (k p : ℕ) → Some p ≡ previous_place (live_words slot) term k → Some p ≡ previous_place (live_of (slots ++ slot ∷ [])) term k
previous_in_last slots slot term k p is = sym (previous_push slots slot term k ∙ ap (λ o. later_or o (previous_place (live_of slots) term k)) (sym is))

pub previous_in_rest : (slots : List SlotContent) (slot : SlotContent) (term : List ℕ) (k : ℕ) → None ≡ previous_place (live_words slot) term k →
    previous_place (live_of (slots ++ slot ∷ [])) term k ≡ previous_place (live_of slots) term k
previous_in_rest slots slot term k none = previous_push slots slot term k ∙ ap (λ o. later_or o (previous_place (live_of slots) term k)) (sym none)

-- the slot at a place, with what is after it and before it
pub take_here : (slots : List SlotContent) (i : ℕ) (slot : SlotContent) → i < length slots → slot ≡ get_or slots i slot → take (suc i) slots ≡ take i slots ++ slot ∷ []
take_here [] i slot lt is = absurd (omega arith)
take_here (x ∷ xs) zero slot lt is = ap (λ s. s ∷ []) (sym is)
take_here (x ∷ xs) (suc i) slot lt is = ap (λ ss. x ∷ ss) (take_here xs i slot (omega arith) is)

-- all dead ranges and slots of a version are few
pub look_ups_most : (v : VersionContent) → IsVersion v → look_ups v.slots ≤ most_slots + v.dels
look_ups_most v is = let a = is.few in let b = is.dead in omega arith

-- if each address below the end is of a file, so is that of each word
pub owned_by : (files : List FileEntry) (next low : ℕ) (words : List Word) → AreRisingBelow next low words → ((p : ℕ) → p < next → is_of_files files p ≡ true) → AllByRecursion (λ w. is_of_files files w.address ≡ true) words
owned_by files next low [] r has = tt
owned_by files next low (w ∷ ws) r has = (has w.address r.1, owned_by files next (w.address + 1) ws r.2 has)
