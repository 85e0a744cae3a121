-- What a version has of the collection that it stands for, and what a slot has of its version.
use Rattle.std.proofs.Common.{◌≡◌, ◌↔◌, ℕ, zero, suc, ◌+◌, ◌<◌, ◌≤◌, Bool, true, false, ◌||◌, cond, eqb, List, [], ◌∷◌, ◌++◌, map, filter, slice_get, Some, IsSome, refl, sym, ap, ◌∙◌, subst, arith, append-nil}
use Rattle.std.specs.List.{AllByRecursion, list_any}
use Rattle.std.proofs.lemmas.List.Elements.{filter-append}
use Rattle.gcl_model.specs.Slots.{SlotRange, AreRangesWithin}
use Rattle.gcl_model.specs.Texts.{Word, AreRisingBelow}
use Rattle.gcl_model.specs.Collections.{File}
use Rattle.gcl_model.proofs.Lists.{all_append, all_both, all_weaker, filter_kept, filter_gone}
use Rattle.address_space.specs.Runs.{FileEntry, IsPlaced, IsFileRun}
use Rattle.delete_mask.specs.Masks.{is_within}
use Rattle.delete_mask.proofs.MaskLemmas.{is_within-inside, is_within-before, is_within-behind}
use Rattle.live_version.specs.Contents.{SlotContent, IsSlot, LiesIn, live_words, live_of, files_of, ranges_of}
use Rattle.live_version.specs.Changes.{file_with_id}
use Rattle.live_version.specs.StandsFor.{entry_of}
use Rattle.live_version.specs.Laws.{HasTextOf, HasFilesOf, WordsAreOfFiles, SlotsArePartsOf}
use Rattle.live_version.proofs.ChangeDelete.{placed_all}
use Rattle.file_runs.proofs.RunLemmas.{run_left, run_right}
use Rattle.live_version.proofs.WordLemmas.{no_live_words, live_words_rise, live_of_rise}

pub has_text : HasTextOf
has_text v c s =
    ap (λ n. record { first = n; next = v.next; words = live_of v.slots }) s.first
    ∙ ap (λ n. record { first = c.first; next = n; words = live_of v.slots }) s.next
    ∙ ap (λ ws. record { first = c.first; next = c.next; words = ws }) s.words

found_there : (id : ℕ) (files : List File) → IsSome (file_with_id id (map entry_of files)) ↔ (list_any (λ file. eqb file.id id) files ≡ true)
found_there id [] = (λ e. e, λ e. e)
found_there id (file ∷ files) = here (eqb file.id id) (found_there id files)
  where
    here : (b : Bool) → IsSome (file_with_id id (map entry_of files)) ↔ (list_any (λ other. eqb other.id id) files ≡ true)
        → IsSome (cond b (Some (entry_of file)) (file_with_id id (map entry_of files))) ↔ ((b || list_any (λ other. eqb other.id id) files) ≡ true)
    here true rest = (λ e. refl, λ e. refl)
    here false rest = rest

pub has_files : HasFilesOf
has_files v c id s = subst (λ files. IsSome (file_with_id id files) ↔ (list_any (λ (file : File). eqb file.id id) c.files ≡ true)) (sym s.files) (found_there id c.files)

-- two lists that make none are empty
pub both_empty : {X : Type 0} (xs ys : List X) → xs ++ ys ≡ [] → (xs ≡ []) × (ys ≡ [])
both_empty [] ys e = (refl, e)
both_empty (x ∷ xs) ys e = absurd cc

no_words_without : (slots : List SlotContent) → AllByRecursion IsSlot slots → files_of slots ≡ [] → live_of slots ≡ []
no_words_without [] are none = refl
no_words_without (slot ∷ slots) are none =
    let parts = both_empty slot.files (files_of slots) none in
    ap (λ ws. ws ++ live_of slots) (no_live_words slot are.0 parts.0) ∙ no_words_without slots are.1 parts.1

pub words_are_of_files : WordsAreOfFiles
words_are_of_files v is none = no_words_without v.slots is.slots none

-- words at addresses of a range, after it and before it
words_within : (range : SlotRange) (next low : ℕ) (words : List Word) → AreRisingBelow next low words → range.first ≤ low → next ≤ range.last + 1 → AllByRecursion (λ w. is_within range w.address ≡ true) words
words_within range next low [] r from to = tt
words_within range next low (w ∷ ws) r from to =
    let at : low ≤ w.address = r.0 in
    let under : w.address < next = r.1 in
    (is_within-inside range w.address (omega arith) (omega arith), words_within range next (w.address + 1) ws r.2 (omega arith) to)

words_behind : (range : SlotRange) (next low : ℕ) (words : List Word) → AreRisingBelow next low words → range.last < low → AllByRecursion (λ w. is_within range w.address ≡ false) words
words_behind range next low [] r behind = tt
words_behind range next low (w ∷ ws) r behind = let at : low ≤ w.address = r.0 in (is_within-behind range w.address (omega arith), words_behind range next (w.address + 1) ws r.2 (omega arith))

words_before : (range : SlotRange) (next low : ℕ) (words : List Word) → AreRisingBelow next low words → next ≤ range.first → AllByRecursion (λ w. is_within range w.address ≡ false) words
words_before range next low [] r before = tt
words_before range next low (w ∷ ws) r before = let under : w.address < next = r.1 in (is_within-before range w.address (omega arith), words_before range next (w.address + 1) ws r.2 before)

files_begin : (low end : ℕ) (slots : List SlotContent) → AreRangesWithin low end (ranges_of slots) → AllByRecursion IsSlot slots → AllByRecursion (λ file. low ≤ file.base) (files_of slots)
files_begin low end [] r are = tt
files_begin low end (slot ∷ slots) r are =
    let from : low ≤ slot.range.first = r.0 in
    let some : slot.range.first ≤ slot.range.last = r.1 in
    all_append (λ file. low ≤ file.base) slot.files (files_of slots)
    (all_weaker (LiesIn slot.range) (λ file. low ≤ file.base) (λ file lies. let begins : slot.range.first ≤ file.base = lies.0 in omega arith) slot.files are.0.files)
    (all_weaker (λ file. slot.range.last + 1 ≤ file.base) (λ file. low ≤ file.base) (λ file begins. omega arith) (files_of slots) (files_begin (slot.range.last + 1) end slots r.3 are.1))

-- a slot at a place begins after what is before all slots
slot_begins : (low end : ℕ) (slots : List SlotContent) (i : ℕ) (slot : SlotContent) → AreRangesWithin low end (ranges_of slots) → slice_get slots i ≡ Some slot → low ≤ slot.range.first
slot_begins low end [] zero slot r at = absurd cc
slot_begins low end [] (suc i) slot r at = absurd cc
slot_begins low end (x ∷ xs) zero slot r at = let same : x ≡ slot = cc in subst (λ (s : SlotContent). low ≤ s.range.first) same r.0
slot_begins low end (x ∷ xs) (suc i) slot r at =
    let rest : x.range.last + 1 ≤ slot.range.first = slot_begins (x.range.last + 1) end xs i slot r.3 at in
    let from : low ≤ x.range.first = r.0 in
    let some : x.range.first ≤ x.range.last = r.1 in
    omega arith

record IsPartAmong (slots : List SlotContent) (slot : SlotContent) : Type 0 where
  words : live_words slot ≡ filter (λ w. is_within slot.range w.address) (live_of slots)
  files : slot.files ≡ filter (λ file. is_within slot.range file.base) (files_of slots)

part_first : (low end : ℕ) (slot : SlotContent) (slots : List SlotContent) → AreRangesWithin low end (ranges_of (slot ∷ slots)) → AllByRecursion IsSlot (slot ∷ slots) → IsFileRun (files_of (slot ∷ slots)) → IsPartAmong (slot ∷ slots) slot
part_first low end slot slots r are run =
    let test : Word → Bool = λ w. is_within slot.range w.address in
    let has : FileEntry → Bool = λ file. is_within slot.range file.base in
    let rising = live_words_rise slot are.0 in
    record {
      words = sym
          (filter-append test (live_words slot) (live_of slots)
          ∙ ap (λ l. l ++ filter test (live_of slots)) (filter_kept test (live_words slot) (words_within slot.range (slot.range.last + 1) slot.range.first (live_words slot) rising (omega arith) (omega arith)))
          ∙ ap (λ l. live_words slot ++ l) (filter_gone test (live_of slots) (words_behind slot.range end (slot.range.last + 1) (live_of slots) (live_of_rise (slot.range.last + 1) end slots r.3 are.1) (omega arith)))
          ∙ append-nil (live_words slot));
      files = sym
          (filter-append has slot.files (files_of slots)
          ∙ ap (λ l. l ++ filter has (files_of slots))
          (filter_kept has slot.files
          (all_both (LiesIn slot.range) IsPlaced (λ file. has file ≡ true)
          (λ file lies placed.
          let some : 2 ≤ file.len = placed.bounded in
          let ends : file.base + file.len ≤ slot.range.last + 1 = lies.1 in
          is_within-inside slot.range file.base lies.0 (omega arith))
          slot.files are.0.files (placed_all slot.files (run_left slot.files (files_of slots) run))))
          ∙ ap (λ l. slot.files ++ l)
          (filter_gone has (files_of slots)
          (all_weaker (λ file. slot.range.last + 1 ≤ file.base) (λ file. has file ≡ false) (λ file begins. is_within-behind slot.range file.base (omega arith)) (files_of slots) (files_begin (slot.range.last + 1) end slots r.3 are.1)))
          ∙ append-nil slot.files);
    }

part_later : (low end : ℕ) (x : SlotContent) (xs : List SlotContent) (slot : SlotContent) → IsSlot x → IsFileRun x.files → x.range.last + 1 ≤ slot.range.first → IsPartAmong xs slot → IsPartAmong (x ∷ xs) slot
part_later low end x xs slot is run behind part =
    let test : Word → Bool = λ w. is_within slot.range w.address in
    let has : FileEntry → Bool = λ file. is_within slot.range file.base in
    record {
      words = part.words
          ∙ sym (filter-append test (live_words x) (live_of xs)
          ∙ ap (λ l. l ++ filter test (live_of xs)) (filter_gone test (live_words x) (words_before slot.range (x.range.last + 1) x.range.first (live_words x) (live_words_rise x is) behind)));
      files = part.files
          ∙ sym (filter-append has x.files (files_of xs)
          ∙ ap (λ l. l ++ filter has (files_of xs))
          (filter_gone has x.files
          (all_both (LiesIn x.range) IsPlaced (λ file. has file ≡ false)
          (λ file lies placed.
          let some : 2 ≤ file.len = placed.bounded in
          let ends : file.base + file.len ≤ x.range.last + 1 = lies.1 in
          is_within-before slot.range file.base (omega arith))
          x.files is.files (placed_all x.files run))));
    }

parts_among : (low end : ℕ) (slots : List SlotContent) (i : ℕ) (slot : SlotContent) → AreRangesWithin low end (ranges_of slots) → AllByRecursion IsSlot slots → IsFileRun (files_of slots) → slice_get slots i ≡ Some slot → IsPartAmong slots slot
parts_among low end [] zero slot r are run at = absurd cc
parts_among low end [] (suc i) slot r are run at = absurd cc
parts_among low end (x ∷ xs) zero slot r are run at = let same : x ≡ slot = cc in subst (IsPartAmong (x ∷ xs)) same (part_first low end x xs r are run)
parts_among low end (x ∷ xs) (suc i) slot r are run at =
    part_later low end x xs slot are.0 (run_left x.files (files_of xs) run) (slot_begins (x.range.last + 1) end xs i slot r.3 at)
    (parts_among (x.range.last + 1) end xs i slot r.3 are.1 (run_right x.files (files_of xs) run) at)

pub slots_are_parts : SlotsArePartsOf
slots_are_parts v i slot is at = let part = parts_among v.first v.next v.slots i slot is.apart is.slots is.run at in record { words = part.words; files = part.files }
