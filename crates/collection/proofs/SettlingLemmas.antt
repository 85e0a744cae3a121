-- How the last slots become one after an add.
use Rattle.std.proofs.Common.{◌≡◌, ℕ, ◌+◌, ◌-◌, ◌*◌, ◌<◌, ◌≤◌, Bool, true, false, cond, leb, List, [], ◌∷◌, ◌++◌, length, take, drop, reverse, Some, refl, sym, ap, ◌∙◌, subst, arith, length-append, append-nil}
use Rattle.std.specs.List.{AllByRecursion}
use Rattle.std.proofs.lemmas.List.{take_all, drop_all, take-append-le, length-take-le, length-map, length-reverse, map-append, same_from_push}
use Rattle.gcl_model.specs.Slots.{SlotRange, slot_range, slot_width, joined, joined_count, tail_count, slots_after_add}
use Rattle.gcl_model.specs.Collections.{IsToken, width_of, with_boundaries, with_file, words_from}
use Rattle.gcl_model.specs.Limits.{address_end}
use Rattle.gcl_model.specs.Names.{is_name}
use Rattle.address_space.specs.Runs.{FileEntry, range_of}
use Rattle.address_space.proofs.TailLemmas.{tail_count-last}
use Rattle.index_shard.specs.Tables.{ShardContent, words_of}
use Rattle.live_version.specs.Changes.{AreSettledAlone, JoinsTail, slot_of_file, slots_at, version_with_file, version_with_slot, whole_range}
use Rattle.live_version.specs.Contents.{SlotContent, VersionContent, ranges_of}
use Rattle.live_version.specs.StandsFor.{AddsFile, Keeps, StandsFor}
use Rattle.collection.specs.Changes.{AddsFileTo}
use Rattle.collection.specs.Settling.{Grows, Settles}

-- at least one is counted, and no more than there are
record IsWithin (count most : ℕ) : Type 0 where
  some : 1 ≤ count
  few : count ≤ most

is-counted : (last : SlotRange) (earlier : List SlotRange) → IsWithin (joined_count last earlier) (length earlier + 1)
is-counted last [] = record { some = omega arith; few = omega arith }
is-counted last (before ∷ earlier) = by_test (leb (slot_width before) (4 * slot_width last)) (is-counted (joined before last) earlier)
  where
    by_test : (t : Bool) → IsWithin (joined_count (joined before last) earlier) (length earlier + 1) → IsWithin (cond t (joined_count (joined before last) earlier + 1) 1) (length (before ∷ earlier) + 1)
    by_test true more = let some = more.some in let few = more.few in record { some = omega arith; few = omega arith }
    by_test false more = record { some = omega arith; few = omega arith }

-- the slots that the rule merges are some of the existing ones
pub record IsTail (v grown : VersionContent) : Type 0 where
  pub some : 1 ≤ tail_count (ranges_of grown.slots)
  pub few : tail_count (ranges_of grown.slots) ≤ length grown.slots
  pub length : length grown.slots ≡ length v.slots + 1

pub is-tail : (v grown : VersionContent) → Grows v grown → IsTail v grown
is-tail v grown h =
    let size : length grown.slots ≡ length v.slots + 1 = ap length h.slots ∙ length-append v.slots (h.slot ∷ []) in
    let ranges : ranges_of grown.slots ≡ ranges_of v.slots ++ h.slot.range ∷ [] = ap ranges_of h.slots ∙ map-append (λ (s : SlotContent). s.range) v.slots (h.slot ∷ []) in
    let count : tail_count (ranges_of grown.slots) ≡ joined_count h.slot.range (reverse (ranges_of v.slots)) = ap tail_count ranges ∙ tail_count-last (ranges_of v.slots) h.slot.range in
    let counted = is-counted h.slot.range (reverse (ranges_of v.slots)) in
    let some = counted.some in
    let few = counted.few in
    let back : length (reverse (ranges_of v.slots)) ≡ length v.slots = length-reverse (ranges_of v.slots) ∙ length-map v.slots (λ (s : SlotContent). s.range) in
    record { some = omega arith; few = omega arith; length = size }

-- if no slots are merged
pub settles-alone : (v grown : VersionContent) (count : ℕ) → Grows v grown → count ≡ tail_count (ranges_of grown.slots) → count < 2 → Settles v grown grown
settles-alone v grown count h counted less =
    let tail = is-tail v grown h in
    let some = tail.some in
    let size = tail.length in
    let one : tail_count (ranges_of grown.slots) ≡ 1 = omega arith in
    let ranges : ranges_of grown.slots ≡ ranges_of v.slots ++ h.slot.range ∷ [] = ap ranges_of h.slots ∙ map-append (λ (s : SlotContent). s.range) v.slots (h.slot ∷ []) in
    let front : take (length grown.slots - 1) v.slots ≡ v.slots = take_all (length grown.slots - 1) v.slots (omega arith) in
    record {
      stands = λ c s. s;
      ranges = λ range is. h.alone one ∙ ap (slots_after_add (ranges_of v.slots)) (same_from_push (ranges_of v.slots) (ranges_of v.slots) h.slot.range range (sym ranges ∙ is)).1;
      slots = record { slot = h.slot; alive = h.alive; slots = h.slots ∙ ap (λ l. l ++ h.slot ∷ []) (sym front) };
      number = h.number;
      edition = h.edition;
    }

-- if the slot takes the place of those that the rule merges
pub settles-joined : (v grown joined' w : VersionContent) (at count : ℕ) (slot : SlotContent) → Grows v grown → count ≡ tail_count (ranges_of grown.slots) → 2 ≤ count → at + count ≡ length grown.slots
    → whole_range (ranges_of (slots_at at count grown.slots)) ≡ Some slot.range → slot.mask ≡ [] → joined' ≡ version_with_slot grown at count (Some slot) → Keeps grown joined' → JoinsTail grown.slots at count (Some slot) joined'.slots
    → w ≡ record joined' { number = v.number + 1; edition = v.edition + 1 } → Keeps joined' w → Settles v grown w
settles-joined v grown joined' w at count slot h counted many place whole alive is keeps joins after kept =
    let size = (is-tail v grown h).length in
    let same : w.slots ≡ joined'.slots = ap (λ u. u.slots) after in
    let behind : drop (at + count) grown.slots ≡ [] = drop_all (at + count) grown.slots (omega arith) in
    let front : take at grown.slots ≡ take at v.slots = ap (take at) h.slots ∙ take-append-le at v.slots (h.slot ∷ []) (omega arith) in
    let slots : w.slots ≡ take at v.slots ++ slot ∷ [] =
    same ∙ ap (λ u. u.slots) is ∙ ap (λ l. take at grown.slots ++ (slot ∷ []) ++ l) behind ∙ append-nil (take at grown.slots ++ slot ∷ []) ∙ ap (λ l. l ++ slot ∷ []) front in
    let long : length (take at v.slots) ≡ at = length-take-le at v.slots (omega arith) in
    let last : at ≡ length w.slots - 1 = omega (arith, ap length slots, length-append (take at v.slots) (slot ∷ [])) in
    record {
      stands = λ c s. kept c (keeps c s);
      ranges = λ range all. ap ranges_of same ∙ joins (ranges_of v.slots) range slot all refl counted place whole;
      slots = record { slot = slot; alive = alive; slots = slots ∙ ap (λ n. take n v.slots ++ slot ∷ []) last };
      number = ap (λ u. u.number) after;
      edition = ap (λ u. u.edition) after;
    }

-- a file in a slot of its own after the others
pub grows : (v grown : VersionContent) (file : FileEntry) (shard : ShardContent) → grown ≡ version_with_file v file shard → AreSettledAlone (ranges_of v.slots) (range_of file) (ranges_of grown.slots) → Grows v grown
grows v grown file shard is alone = record {
  slot = slot_of_file file shard;
  slots = ap (λ u. u.slots) is;
  alive = refl;
  alone = alone;
  number = ap (λ u. u.number) is;
  edition = ap (λ u. u.edition) is;
}

-- one more file, in slots that are merged
pub adds-file : (v grown w : VersionContent) (file : FileEntry) (shard : ShardContent) (name : List ℕ) (tokens : List (List ℕ)) → file.base ≡ v.next → file.len ≡ width_of tokens → file.name ≡ name → v.next + width_of tokens ≤ address_end
    → is_name name ≡ true → AllByRecursion IsToken tokens → words_of shard ≡ words_from v.next (with_boundaries tokens) → AddsFile v file shard grown → ranges_of grown.slots ≡ ranges_of v.slots ++ range_of file ∷ [] → Settles v grown w
    → AddsFileTo v w name tokens
adds-file v grown w file shard name tokens base len called fits named are words adds ranges h = record {
  stands = λ c s. (
    record { fits = subst (λ n. n + width_of tokens ≤ address_end) s.next fits; named = named; are_tokens = are },
    h.stands (with_file c name tokens)
        (subst (λ n. StandsFor grown (with_file c n tokens)) called (adds c tokens s record { len = len; words = words ∙ ap (λ p. words_from p (with_boundaries tokens)) (sym base) })),
  );
  ranges = h.ranges (range_of file) ranges ∙ ap (slots_after_add (ranges_of v.slots)) (ap (λ p. slot_range p (p + file.len - 1)) base ∙ ap (λ n. slot_range v.next (v.next + n - 1)) len);
  slots = h.slots;
  number = h.number;
  edition = h.edition;
}
