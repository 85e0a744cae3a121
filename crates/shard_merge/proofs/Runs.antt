-- A run of neighbouring slots: its files, its range and its live words.
use Rattle.std.proofs.Common.{◌≡◌, ℕ, zero, suc, ◌+◌, ◌-◌, ◌<◌, ◌≤◌, true, not, List, [], ◌∷◌, ◌++◌, length, map, filter, take, drop, get_or, Option, Some, None, refl, sym, ap, ◌∙◌, subst, arith, le_refl}
use Rattle.std.specs.List.{AllByRecursion}
use Rattle.std.proofs.lemmas.Bool.{or_left, or_right}
use Rattle.std.proofs.lemmas.List.{take-append-drop, append-nil}
use Rattle.std.proofs.lemmas.List.Folds.{list_any-append}
use Rattle.std.proofs.lemmas.Grind.{flat_map-append}
use Rattle.std.proofs.lemmas.Option.{same_Some}
use Rattle.gcl_model.specs.Slots.{SlotRange, slot_range, joined, spanned, AreRangesWithin}
use Rattle.gcl_model.specs.Texts.{Word, places, AreRisingBelow}
use Rattle.address_space.specs.Runs.{FileEntry, IsFileRun}
use Rattle.index_shard.specs.Tables.{ShardContent, IsShard, postings_of, words_of}
use Rattle.delete_mask.specs.Masks.{is_dead}
use Rattle.live_version.specs.Contents.{SlotContent, VersionContent, IsSlot, IsVersion, LiesIn, is_of_file, is_of_files, live_words, ranges_of, files_of, live_of}
use Rattle.live_version.proofs.WordLemmas.{live_places, live_of_rise}
use Rattle.gcl_model.proofs.WordLists.{places-append}
use Rattle.gcl_model.proofs.Lists.{all_append, all_left, all_right, all_weaker}
use Rattle.file_runs.proofs.RunLemmas.{run_left, run_right}
use Rattle.live_version.specs.Changes.{IsSameLive, LiesInside, slots_at, whole_range}
use Rattle.slot_terms.proofs.Loops.{flat_map_item}
use Rattle.shard_merge.proofs.SameWords.{shard_has_words}
use Rattle.slot_terms.specs.Parts.{PartContent, IsPart, part_of, postings_left}
use Rattle.shard_merge.specs.Merged.{AreWordsOf}

files_append : (xs ys : List SlotContent) → files_of (xs ++ ys) ≡ files_of xs ++ files_of ys
files_append xs ys = flat_map-append (λ (slot : SlotContent). slot.files) xs ys

-- the files of the slots up to one are a run
pub put_slot : (slots : List SlotContent) (now : List FileEntry) (i : ℕ) (slot : SlotContent) → IsFileRun (files_of slots) → i < length slots → slot ≡ get_or slots i slot →
    now ≡ files_of (take i slots) → IsFileRun (now ++ slot.files)
put_slot slots now i slot run lt at is =
    let whole : files_of slots ≡ files_of (take (i + 1) slots) ++ files_of (drop (i + 1) slots) = ap files_of (sym (take-append-drop (i + 1) slots)) ∙ files_append (take (i + 1) slots) (drop (i + 1) slots) in
    let front : now ++ slot.files ≡ files_of (take (i + 1) slots) = flat_map_item (λ (s : SlotContent). s.files) slots i [] now (now ++ slot.files) slot lt at is refl in
    subst IsFileRun (sym front) (run_left (files_of (take (i + 1) slots)) (files_of (drop (i + 1) slots)) (subst IsFileRun whole run))

-- some slots of a version, one after the other
pub record IsRun (slots : List SlotContent) : Type 0 where
  pub all : AllByRecursion IsSlot slots
  pub apart : (low : ℕ) × (end : ℕ) × AreRangesWithin low end (ranges_of slots)
  pub files : IsFileRun (files_of slots)

ranges_front : (low end : ℕ) (xs ys : List SlotContent) → AreRangesWithin low end (ranges_of (xs ++ ys)) → AreRangesWithin low end (ranges_of xs)
ranges_front low end [] ys apart = tt
ranges_front low end (x ∷ xs) ys apart = (apart.0, apart.1, apart.2, ranges_front (x.range.last + 1) end xs ys apart.3)

ranges_back : (low end : ℕ) (xs ys : List SlotContent) → AreRangesWithin low end (ranges_of (xs ++ ys)) → (from : ℕ) × AreRangesWithin from end (ranges_of ys)
ranges_back low end [] ys apart = (low, apart)
ranges_back low end (x ∷ xs) ys apart = ranges_back (x.range.last + 1) end xs ys apart.3

front_run : (xs ys : List SlotContent) → IsRun (xs ++ ys) → IsRun xs
front_run xs ys run = record {
  all = all_left IsSlot xs ys run.all;
  apart = (run.apart.0, run.apart.1, ranges_front run.apart.0 run.apart.1 xs ys run.apart.2);
  files = run_left (files_of xs) (files_of ys) (subst IsFileRun (files_append xs ys) run.files);
}

back_run : (xs ys : List SlotContent) → IsRun (xs ++ ys) → IsRun ys
back_run xs ys run =
    let back = ranges_back run.apart.0 run.apart.1 xs ys run.apart.2 in
    record {
      all = all_right IsSlot xs ys run.all;
      apart = (back.0, run.apart.1, back.1);
      files = run_right (files_of xs) (files_of ys) (subst IsFileRun (files_append xs ys) run.files);
    }

pub slots_are_run : (v : VersionContent) (at count : ℕ) → IsVersion v → IsRun (slots_at at count v.slots)
slots_are_run v at count is =
    let all : IsRun v.slots = record { all = is.slots; apart = (v.first, v.next, is.apart); files = is.run } in
    let behind : IsRun (drop at v.slots) = back_run (take at v.slots) (drop at v.slots) (subst IsRun (sym (take-append-drop at v.slots)) all) in
    front_run (take count (drop at v.slots)) (drop count (drop at v.slots)) (subst IsRun (sym (take-append-drop count (drop at v.slots))) behind)

-- the range of a run

abbrev last_of : SlotRange → List SlotRange → ℕ
last_of a [] = a.last
last_of a (b ∷ ranges) = last_of b ranges

spanned-first : (a : SlotRange) (ranges : List SlotRange) → (spanned a ranges).first ≡ a.first
spanned-first a [] = refl
spanned-first a (b ∷ ranges) = spanned-first (joined a b) ranges

last_of-joined : (a b : SlotRange) (ranges : List SlotRange) → last_of (joined a b) ranges ≡ last_of b ranges
last_of-joined a b [] = refl
last_of-joined a b (c ∷ ranges) = refl

spanned-last : (a : SlotRange) (ranges : List SlotRange) → (spanned a ranges).last ≡ last_of a ranges
spanned-last a [] = refl
spanned-last a (b ∷ ranges) = spanned-last (joined a b) ranges ∙ last_of-joined a b ranges

spanned_is : (a : SlotRange) (ranges : List SlotRange) → spanned a ranges ≡ slot_range a.first (last_of a ranges)
spanned_is a ranges = ap (λ p. slot_range p (spanned a ranges).last) (spanned-first a ranges) ∙ ap (slot_range a.first) (spanned-last a ranges)

last_of_at : (slot : SlotContent) (slots : List SlotContent) (i : ℕ) (d : SlotContent) → i ≡ length slots → (get_or (slot ∷ slots) i d).range.last ≡ last_of slot.range (ranges_of slots)
last_of_at slot [] zero d is = refl
last_of_at slot [] (suc i) d is = absurd (omega arith)
last_of_at slot (next ∷ slots) zero d is = absurd (omega arith)
last_of_at slot (next ∷ slots) (suc i) d is = last_of_at next slots i d (omega arith)

ordered_from : (low end : ℕ) (a : SlotRange) (ranges : List SlotRange) → AreRangesWithin low end (a ∷ ranges) → a.first ≤ last_of a ranges
ordered_from low end a [] apart = apart.1
ordered_from low end a (b ∷ ranges) apart =
    let here : a.first ≤ a.last = apart.1 in
    let next : a.last + 1 ≤ b.first = apart.3.0 in
    let rest = ordered_from (a.last + 1) end b ranges apart.3 in
    omega arith

-- ranges lie from the first address of the first to the last address of the last
within_own : (low end : ℕ) (a : SlotRange) (ranges : List SlotRange) → AreRangesWithin low end (a ∷ ranges) → AreRangesWithin a.first (last_of a ranges + 1) (a ∷ ranges)
within_own low end a [] apart = (le_refl a.first, apart.1, omega arith, tt)
within_own low end a (b ∷ ranges) apart =
    let rest = within_own (a.last + 1) end b ranges apart.3 in
    let next : a.last + 1 ≤ b.first = apart.3.0 in
    let behind = ordered_from (a.last + 1) end b ranges apart.3 in
    (le_refl a.first, apart.1, omega arith, (next, rest.1, rest.2, rest.3))

-- a range is that of a run
pub record IsRangeOf (range : SlotRange) (slots : List SlotContent) : Type 0 where
  pub is : whole_range (ranges_of slots) ≡ Some range
  pub ordered : range.first ≤ range.last
  pub within : AreRangesWithin range.first (range.last + 1) (ranges_of slots)

pub range_found : (slots : List SlotContent) (n : ℕ) (one other : SlotContent) (d e : SlotContent) → 1 ≤ length slots → (low : ℕ) × (end : ℕ) × AreRangesWithin low end (ranges_of slots) →
    one ≡ get_or slots 0 d → n ≡ length slots - 1 → other ≡ get_or slots n e → IsRangeOf (slot_range one.range.first other.range.last) slots
range_found [] n one other d e some apart at is until = absurd (omega arith)
range_found (slot ∷ slots) n one other d e some apart at is until =
    let first : slot.range.first ≡ one.range.first = ap (λ (s : SlotContent). s.range.first) (sym at) in
    let last : last_of slot.range (ranges_of slots) ≡ other.range.last = sym (ap (λ (s : SlotContent). s.range.last) until ∙ last_of_at slot slots n e (omega arith)) in
    let own : IsRangeOf (slot_range slot.range.first (last_of slot.range (ranges_of slots))) (slot ∷ slots) = record {
      is = ap (λ range. Some range) (spanned_is slot.range (ranges_of slots));
      ordered = ordered_from apart.0 apart.1 slot.range (ranges_of slots) apart.2;
      within = within_own apart.0 apart.1 slot.range (ranges_of slots) apart.2;
    } in
    subst (λ p. IsRangeOf (slot_range one.range.first p) (slot ∷ slots)) last (subst (λ p. IsRangeOf (slot_range p (last_of slot.range (ranges_of slots))) (slot ∷ slots)) first own)

-- what a clause says of the range is enough
pub range_of_run : (slots : List SlotContent) (range : SlotRange) → IsRun slots → whole_range (ranges_of slots) ≡ Some range → IsRangeOf range slots
range_of_run [] range run is = absurd cc
range_of_run (slot ∷ slots) range run is =
    let same : slot_range slot.range.first (last_of slot.range (ranges_of slots)) ≡ range =
    same_Some (slot_range slot.range.first (last_of slot.range (ranges_of slots))) range (ap (λ r. Some r) (sym (spanned_is slot.range (ranges_of slots))) ∙ is) in
    subst (λ r. IsRangeOf r (slot ∷ slots)) same record {
      is = ap (λ r. Some r) (spanned_is slot.range (ranges_of slots));
      ordered = ordered_from run.apart.0 run.apart.1 slot.range (ranges_of slots) run.apart.2;
      within = within_own run.apart.0 run.apart.1 slot.range (ranges_of slots) run.apart.2;
    }

-- the files of a run lie in its range
lie_within : (low end : ℕ) (slots : List SlotContent) → AllByRecursion IsSlot slots → AreRangesWithin low end (ranges_of slots) →
    AllByRecursion (λ (file : FileEntry). (low ≤ file.base) × (file.base + file.len ≤ end)) (files_of slots)
lie_within low end [] all apart = tt
lie_within low end (slot ∷ slots) all apart =
    let first : low ≤ slot.range.first = apart.0 in
    let ordered : slot.range.first ≤ slot.range.last = apart.1 in
    let last : slot.range.last < end = apart.2 in
    all_append (λ (file : FileEntry). (low ≤ file.base) × (file.base + file.len ≤ end)) slot.files (files_of slots)
    (all_weaker (LiesIn slot.range) (λ (file : FileEntry). (low ≤ file.base) × (file.base + file.len ≤ end)) (λ file lies. let a : slot.range.first ≤ file.base = lies.0 in let b : file.base + file.len ≤ slot.range.last + 1 = lies.1 in (omega arith, omega arith)) slot.files all.0.files)
    (all_weaker (λ (file : FileEntry). (slot.range.last + 1 ≤ file.base) × (file.base + file.len ≤ end)) (λ (file : FileEntry). (low ≤ file.base) × (file.base + file.len ≤ end)) (λ file lies. let a : slot.range.last + 1 ≤ file.base = lies.0 in (omega arith, lies.1)) (files_of slots) (lie_within (slot.range.last + 1) end slots all.1 apart.3))

pub files_lie : (range : SlotRange) (slots : List SlotContent) → IsRun slots → IsRangeOf range slots → AllByRecursion (LiesIn range) (files_of slots)
files_lie range slots run whole = lie_within range.first (range.last + 1) slots run.all whole.within

-- the live words of a run

of_files_front : (fs gs : List FileEntry) (p : ℕ) → is_of_files fs p ≡ true → is_of_files (fs ++ gs) p ≡ true
of_files_front fs gs p is = list_any-append (is_of_file p) fs gs ∙ or_left (is_of_files fs p) (is_of_files gs p) is

of_files_back : (fs gs : List FileEntry) (p : ℕ) → is_of_files gs p ≡ true → is_of_files (fs ++ gs) p ≡ true
of_files_back fs gs p is = list_any-append (is_of_file p) fs gs ∙ or_right (is_of_files fs p) (is_of_files gs p) is

-- each live word is a file's
pub words_owned : (slots : List SlotContent) → AllByRecursion IsSlot slots → AllByRecursion (λ (w : Word). is_of_files (files_of slots) w.address ≡ true) (live_of slots)
words_owned [] all = tt
words_owned (slot ∷ slots) all =
    all_append (λ (w : Word). is_of_files (slot.files ++ files_of slots) w.address ≡ true) (live_words slot) (live_of slots)
    (all_weaker (λ (w : Word). is_of_files slot.files w.address ≡ true) (λ (w : Word). is_of_files (slot.files ++ files_of slots) w.address ≡ true) (λ w is. of_files_front slot.files (files_of slots) w.address is) (live_words slot) all.0.owned)
    (all_weaker (λ (w : Word). is_of_files (files_of slots) w.address ≡ true) (λ (w : Word). is_of_files (slot.files ++ files_of slots) w.address ≡ true) (λ w is. of_files_back slot.files (files_of slots) w.address is) (live_of slots) (words_owned slots all.1))

-- the live postings of the slots are the places among their live words
pub left_places : (slots : List SlotContent) (term : List ℕ) → AllByRecursion IsSlot slots → postings_left (map part_of slots) term ≡ places (live_of slots) term
left_places [] term all = refl
left_places (slot ∷ slots) term all =
    ap (λ l. l ++ postings_left (map part_of slots) term) (sym (live_places slot term all.0))
    ∙ ap (λ l. places (live_words slot) term ++ l) (left_places slots term all.1)
    ∙ sym (places-append (live_words slot) (live_of slots) term)

pub words_of_slots : (range : SlotRange) (slots : List SlotContent) → AllByRecursion IsSlot slots → AreRangesWithin range.first (range.last + 1) (ranges_of slots) → AreWordsOf range (map part_of slots) (live_of slots)
words_of_slots range slots all within =
    record {
      rising = live_of_rise range.first (range.last + 1) slots within all;
      places = λ term. left_places slots term all;
    }

pub parts_are_tables : (slots : List SlotContent) → AllByRecursion IsSlot slots → AllByRecursion IsPart (map part_of slots)
parts_are_tables [] all = tt
parts_are_tables (slot ∷ slots) all = ((slot.shard.range, all.0.shard.table), parts_are_tables slots all.1)

-- a run of slots that was lent, starting at a place
pub run_lent : (v : VersionContent) (slots : List SlotContent) (at count n : ℕ) → IsVersion v → slots ≡ v.slots → n ≡ count → IsRun (take n (drop at slots))
run_lent v slots at count n is same long = subst (λ l. IsRun (take n (drop at l))) (sym same) (subst (λ m. IsRun (take m (drop at v.slots))) (sym long) (slots_are_run v at count is))

-- the index that was made of slots has their live words
pub merged_words : (range : SlotRange) (slots : List SlotContent) (parts : List PartContent) (shard : ShardContent) → AllByRecursion IsSlot slots → AreRangesWithin range.first (range.last + 1) (ranges_of slots) →
    parts ≡ map part_of slots → IsShard shard → shard.range ≡ range → ((term : List ℕ) → postings_of shard.table term ≡ postings_left parts term) → words_of shard ≡ live_of slots
merged_words range slots parts shard all within is made at has =
    let of = words_of_slots range slots all within in
    shard_has_words shard (live_of slots) made (subst (λ r. AreRisingBelow (r.last + 1) r.first (live_of slots)) (sym at) of.rising)
    (λ term. has term ∙ ap (λ l. postings_left l term) is ∙ of.places term)

pub slots_lent : (slots all : List SlotContent) (at count n : ℕ) → slots ≡ all → n ≡ count → take n (drop at slots) ≡ slots_at at count all
slots_lent slots all at count n same long = ap (λ m. take m (drop at slots)) long ∙ ap (slots_at at count) same

filter_none_dead : (ws : List Word) → filter (λ w. not (is_dead [] w.address)) ws ≡ ws
filter_none_dead [] = refl
filter_none_dead (w ∷ ws) = ap (λ l. w ∷ l) (filter_none_dead ws)

pub same_live : (slots : List SlotContent) (slot : SlotContent) → slot.mask ≡ [] → words_of slot.shard ≡ live_of slots → slot.files ≡ files_of slots → IsSameLive slots (slot ∷ [])
same_live slots slot none words files = record {
  words =
      append-nil (live_words slot)
      ∙ ap (λ mask. filter (λ w. not (is_dead mask w.address)) (words_of slot.shard)) none
      ∙ filter_none_dead (words_of slot.shard)
      ∙ words;
  files = append-nil slot.files ∙ files;
}

pub lies_inside : (range : SlotRange) (whole : Option SlotRange) → whole ≡ Some range → LiesInside range whole
lies_inside range None is = absurd cc
lies_inside range (Some w) is = let same : range ≡ w = cc in subst (λ r. (r.first ≤ range.first) × (range.last ≤ r.last)) same (le_refl range.first, le_refl range.last)
