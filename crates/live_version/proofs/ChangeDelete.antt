-- Versions of which a file is deleted.
use Rattle.std.proofs.Common.{◌≡◌, ℕ, ◌+◌, ◌<◌, ◌≤◌, Bool, true, false, not, ◌&&◌, ◌||◌, cond, eqb, List, [], ◌∷◌, ◌++◌, map, filter, length, Option, None, Some, IsSome, refl, sym, ap, ◌∙◌, subst, arith, length-append}
use Rattle.std.specs.List.{AllByRecursion, flat_map}
use Rattle.std.proofs.lemmas.Bool.{eqb-true, not-true, or_left, or_right, or_from, false≢true}
use Rattle.gcl_model.specs.Limits.{most_slots}
use Rattle.gcl_model.specs.Texts.{Word}
use Rattle.gcl_model.specs.Collections.{Collection, File, width_of, with_boundaries, words_from, without_file, file_end}
use Rattle.address_space.specs.Runs.{FileEntry, IsPlaced, IsFileRun, range_of}
use Rattle.index_shard.specs.Tables.{words_of}
use Rattle.delete_mask.specs.Masks.{is_within, is_dead, IsApart, with_range}
use Rattle.gcl_model.specs.Slots.{AreRangesWithin}
use Rattle.delete_mask.proofs.Joining.{is_dead-with_range, length-with_range, AreRangesWithin-with_range}
use Rattle.live_version.specs.Contents.{SlotContent, VersionContent, IsSlot, IsVersion, LiesIn, is_of_file, is_of_files, ranges_of, files_of, dead_of, live_of, live_words}
use Rattle.std.proofs.Math.Bool.{or_assoc}
use Rattle.std.proofs.lemmas.List.Folds.{list_any-append}
use Rattle.file_runs.proofs.FileLemmas.{find_in_first, find_in_rest}
use Rattle.live_version.specs.Changes.{file_with_id, slot_without, version_without_file, KillsFile}
use Rattle.live_version.specs.StandsFor.{StandsFor, entry_of}
use Rattle.gcl_model.proofs.Lists.{all_left, all_right, all_weaker, all_filter, filter_kept, filter_gone, filter_twice, filter-map, length-filter_found, found_passes}
use Rattle.gcl_model.proofs.Cases.{or_swap}
use Rattle.live_version.proofs.ChangeFiles.{has_id, is_of_file-inside, is_within-range_of, IsSorted, all_found, none_passes, run_sorted, survivors_apart, survivors_have, survivors_were, none_behind}
use Rattle.file_runs.proofs.RunLemmas.{survives, run_survives, run_left, run_right}
use Rattle.std.proofs.lemmas.List.Elements.{filter-append}

-- what is left of a slot if a file with the id goes
abbrev pub slot_after : ℕ → SlotContent → SlotContent
slot_after id slot = slot_without slot (file_with_id id slot.files)

pub placed_all : (files : List FileEntry) → IsFileRun files → AllByRecursion IsPlaced files
placed_all [] run = tt
placed_all (file ∷ files) run = (run.0, placed_all files run.2)

-- a file that was found among files has its addresses there
found_has : (id : ℕ) (file : FileEntry) (files : List FileEntry) (p : ℕ) → file_with_id id files ≡ Some file → is_of_file p file ≡ true → is_of_files files p ≡ true
found_has id file [] p e of = absurd cc
found_has id file (first ∷ files) p e of = here (has_id id first) e (found_has id file files p)
  where
    here : (b : Bool) → cond b (Some first) (file_with_id id files) ≡ Some file → (file_with_id id files ≡ Some file → is_of_file p file ≡ true → is_of_files files p ≡ true) → is_of_files (first ∷ files) p ≡ true
    here true found rest = let same : first ≡ file = cc in or_left (is_of_file p first) (is_of_files files p) (ap (is_of_file p) same ∙ of)
    here false found rest = or_right (is_of_file p first) (is_of_files files p) (rest found of)

not_or : (a b : Bool) → not (a || b) ≡ (not a && not b)
not_or true b = refl
not_or false b = refl

-- what is to be known of a slot and the one of its files that goes
pub record IsGoing (slot : SlotContent) (file : FileEntry) : Type 0 where
  pub is : IsSlot slot
  pub run : IsFileRun slot.files
  pub found : file_with_id file.id slot.files ≡ Some file

pub going : (id : ℕ) (slot : SlotContent) (file : FileEntry) → IsSlot slot → IsFileRun slot.files → file_with_id id slot.files ≡ Some file → IsGoing slot file
going id slot file is run e =
    let same : file.id ≡ id = eqb-true file.id id (found_passes (has_id id) file slot.files e) in
    record { is = is; run = run; found = subst (λ n. file_with_id n slot.files ≡ Some file) (sym same) e }

going_placed : (slot : SlotContent) (file : FileEntry) → IsGoing slot file → IsPlaced file
going_placed slot file g = all_found IsPlaced (has_id file.id) file slot.files (placed_all slot.files g.run) g.found

pub going_apart : (slot : SlotContent) (file : FileEntry) → IsGoing slot file → IsApart (range_of file) slot.mask
going_apart slot file g p within =
    g.is.alive p (found_has file.id file slot.files p g.found (sym (is_within-range_of file p (going_placed slot file g).bounded) ∙ within))

-- exactly its addresses are dead too
dead_after : (slot : SlotContent) (file : FileEntry) (p : ℕ) → IsGoing slot file → is_dead (with_range (range_of file) slot.mask) p ≡ (is_of_file p file || is_dead slot.mask p)
dead_after slot file p g =
    let some : 2 ≤ file.len = (going_placed slot file g).bounded in
    is_dead-with_range slot.range.first (slot.range.last + 1) slot.mask (range_of file) p g.is.dead (omega arith)
    ∙ ap (λ t. t || is_dead slot.mask p) (is_within-range_of file p some)

-- its words alone are gone
live_after : (slot : SlotContent) (file : FileEntry) → IsGoing slot file → live_words (slot_without slot (Some file)) ≡ filter (λ w. not (is_of_file w.address file)) (live_words slot)
live_after slot file g =
    filter_twice (λ (w : Word). not (is_of_file w.address file)) (λ w. not (is_dead slot.mask w.address)) (λ w. not (is_dead (with_range (range_of file) slot.mask) w.address)) (words_of slot.shard)
    (λ w. ap (λ t. not t) (dead_after slot file w.address g) ∙ not_or (is_of_file w.address file) (is_dead slot.mask w.address))

pub going_slot : (slot : SlotContent) (file : FileEntry) → IsGoing slot file → IsSlot (slot_without slot (Some file))
going_slot slot file g =
    let sorted = run_sorted file.id file slot.files g.run g.found in
    let some : 2 ≤ file.len = (going_placed slot file g).bounded in
    let lies = all_found (LiesIn slot.range) (has_id file.id) file slot.files g.is.files g.found in
    let from : slot.range.first ≤ file.base = lies.0 in
    let to : file.base + file.len ≤ slot.range.last + 1 = lies.1 in
    record {
      shard = g.is.shard;
      indexed = g.is.indexed;
      files = all_filter (LiesIn slot.range) (LiesIn slot.range) (survives file.id) slot.files (λ f h e. h) g.is.files;
      dead = AreRangesWithin-with_range slot.range.first (slot.range.last + 1) slot.mask (range_of file) g.is.dead (going_apart slot file g) from (omega arith) (omega arith);
      alive = λ p of. dead_after slot file p g ∙ or_from (is_of_file p file) (is_dead slot.mask p) (survivors_apart file.id file slot.files p sorted of) (g.is.alive p (survivors_were file.id slot.files p of));
      owned = subst (λ words. AllByRecursion (λ (w : Word). is_of_files (filter (survives file.id) slot.files) w.address ≡ true) words) (sym (live_after slot file g))
          (all_filter (λ w. is_of_files slot.files w.address ≡ true) (λ w. is_of_files (filter (survives file.id) slot.files) w.address ≡ true) (λ w. not (is_of_file w.address file)) (live_words slot)
          (λ w of other. survivors_have file.id file slot.files w.address sorted of (not-true (is_of_file w.address file) other)) g.is.owned);
    }

-- a deletion leaves a slot
pub slot_after_is : (id : ℕ) (slot : SlotContent) → IsSlot slot → IsFileRun slot.files → IsSlot (slot_after id slot)
slot_after_is id slot is run = here (file_with_id id slot.files) refl
  where
    here : (o : Option FileEntry) → file_with_id id slot.files ≡ o → IsSlot (slot_without slot o)
    here None e = is
    here (Some file) e = going_slot slot file (going id slot file is run e)

slots_after_are : (id : ℕ) (slots : List SlotContent) → AllByRecursion IsSlot slots → IsFileRun (files_of slots) → AllByRecursion IsSlot (map (slot_after id) slots)
slots_after_are id [] are run = tt
slots_after_are id (slot ∷ slots) are run =
    (slot_after_is id slot are.0 (run_left slot.files (files_of slots) run), slots_after_are id slots are.1 (run_right slot.files (files_of slots) run))

survive_all : (id : ℕ) (files : List FileEntry) → AllByRecursion (λ file. has_id id file ≡ false) files → AllByRecursion (λ file. survives id file ≡ true) files
survive_all id files h = all_weaker (λ file. has_id id file ≡ false) (λ file. survives id file ≡ true) (λ file e. ap (λ t. not t) e) files h

-- the records that are left
pub files_after : (id : ℕ) (slot : SlotContent) → (slot_after id slot).files ≡ filter (survives id) slot.files
files_after id slot = here (file_with_id id slot.files) refl
  where
    here : (o : Option FileEntry) → file_with_id id slot.files ≡ o → (slot_without slot o).files ≡ filter (survives id) slot.files
    here None e = sym (filter_kept (survives id) slot.files (survive_all id slot.files (none_passes (has_id id) slot.files e)))
    here (Some file) e = ap (λ n. filter (survives n) slot.files) (eqb-true file.id id (found_passes (has_id id) file slot.files e))

pub files_of_after : (id : ℕ) (slots : List SlotContent) → files_of (map (slot_after id) slots) ≡ filter (survives id) (files_of slots)
files_of_after id [] = refl
files_of_after id (slot ∷ slots) =
    ap (λ files. files ++ files_of (map (slot_after id) slots)) (files_after id slot)
    ∙ ap (λ files. filter (survives id) slot.files ++ files) (files_of_after id slots)
    ∙ sym (filter-append (survives id) slot.files (files_of slots))

-- each slot stays where it is
pub ranges_of_after : (id : ℕ) (slots : List SlotContent) → ranges_of (map (slot_after id) slots) ≡ ranges_of slots
ranges_of_after id [] = refl
ranges_of_after id (slot ∷ slots) = ap (λ range. range ∷ ranges_of (map (slot_after id) slots)) (here (file_with_id id slot.files)) ∙ ap (λ ranges. slot.range ∷ ranges) (ranges_of_after id slots)
  where
    here : (o : Option FileEntry) → (slot_without slot o).range ≡ slot.range
    here None = refl
    here (Some file) = refl

none_found : (id : ℕ) (files : List FileEntry) → AllByRecursion (λ file. has_id id file ≡ false) files → file_with_id id files ≡ None
none_found id [] h = refl
none_found id (file ∷ files) h = ap (λ t. cond t (Some file) (file_with_id id files)) h.0 ∙ none_found id files h.1

-- slots without the id stay as they are
slots_kept : (id : ℕ) (slots : List SlotContent) → AllByRecursion (λ file. has_id id file ≡ false) (files_of slots) → map (slot_after id) slots ≡ slots
slots_kept id [] h = refl
slots_kept id (slot ∷ slots) h =
    ap (λ o. slot_without slot o ∷ map (slot_after id) slots) (none_found id slot.files (all_left (λ file. has_id id file ≡ false) slot.files (files_of slots) h))
    ∙ ap (λ rest. slot ∷ rest) (slots_kept id slots (all_right (λ file. has_id id file ≡ false) slot.files (files_of slots) h))

-- there is at most one dead range more
pub dead_of_after : (id : ℕ) (slots : List SlotContent) → IsFileRun (files_of slots) → length (dead_of (map (slot_after id) slots)) ≤ length (dead_of slots) + 1
dead_of_after id [] run = omega arith
dead_of_after id (slot ∷ slots) run = here (file_with_id id slot.files) refl (dead_of_after id slots (run_right slot.files (files_of slots) run))
  where
    here : (o : Option FileEntry) → file_with_id id slot.files ≡ o → length (dead_of (map (slot_after id) slots)) ≤ length (dead_of slots) + 1
        → length ((slot_without slot o).mask ++ dead_of (map (slot_after id) slots)) ≤ length (slot.mask ++ dead_of slots) + 1
    here None e rest = omega (arith, length-append slot.mask (dead_of (map (slot_after id) slots)), length-append slot.mask (dead_of slots))
    here (Some file) e rest =
        let same : length (dead_of (map (slot_after id) slots)) ≡ length (dead_of slots) = ap (λ s. length (dead_of s)) (slots_kept id slots (none_behind id file slot.files (files_of slots) run e)) in
        omega (arith, length-append (with_range (range_of file) slot.mask) (dead_of (map (slot_after id) slots)), length-append slot.mask (dead_of slots), length-with_range slot.mask (range_of file))

-- the live words are those that are not the file's
pub live_of_after : (id : ℕ) (gone : FileEntry) (slots : List SlotContent) → AllByRecursion IsSlot slots → IsFileRun (files_of slots) → AllByRecursion (IsSorted id gone) (files_of slots)
    → live_of (map (slot_after id) slots) ≡ filter (λ w. not (is_of_file w.address gone)) (live_of slots)
live_of_after id gone [] are run sorted = refl
live_of_after id gone (slot ∷ slots) are run sorted =
    ap (λ words. words ++ live_of (map (slot_after id) slots)) (here (file_with_id id slot.files) refl)
    ∙ ap (λ words. filter (λ w. not (is_of_file w.address gone)) (live_words slot) ++ words) (live_of_after id gone slots are.1 (run_right slot.files (files_of slots) run) (all_right (IsSorted id gone) slot.files (files_of slots) sorted))
    ∙ sym (filter-append (λ w. not (is_of_file w.address gone)) (live_words slot) (live_of slots))
  where
    here : (o : Option FileEntry) → file_with_id id slot.files ≡ o → live_words (slot_without slot o) ≡ filter (λ w. not (is_of_file w.address gone)) (live_words slot)
    here None e =
        let these = all_left (IsSorted id gone) slot.files (files_of slots) sorted in
        let kept = filter_kept (survives id) slot.files (survive_all id slot.files (none_passes (has_id id) slot.files e)) in
        sym (filter_kept (λ w. not (is_of_file w.address gone)) (live_words slot)
        (all_weaker (λ w. is_of_files slot.files w.address ≡ true) (λ w. not (is_of_file w.address gone) ≡ true) (λ w of. ap (λ t. not t) (survivors_apart id gone slot.files w.address these (ap (λ files. is_of_files files w.address) kept ∙ of))) (live_words slot) are.0.owned))
    here (Some file) e =
        let found = all_found (IsSorted id gone) (has_id id) file slot.files (all_left (IsSorted id gone) slot.files (files_of slots) sorted) e in
        let same : file ≡ gone = found.same (found_passes (has_id id) file slot.files e) in
        live_after slot file (going id slot file are.0 (run_left slot.files (files_of slots) run) e) ∙ ap (λ f. filter (λ w. not (is_of_file w.address f)) (live_words slot)) same

pub file_deleted : (v : VersionContent) (id : ℕ) (gone : FileEntry) → IsVersion v → file_with_id id (files_of v.slots) ≡ Some gone → IsVersion (version_without_file v id)
file_deleted v id gone is found =
    let files = files_of_after id v.slots in
    let numbered : v.edition ≤ v.number = is.numbered in
    let used : length (files_of v.slots) + v.dels ≤ v.next_id = is.used in
    let dead : length (dead_of v.slots) ≤ v.dels = is.dead in
    let less : length (filter (survives id) (files_of v.slots)) + 1 ≤ length (files_of v.slots) = length-filter_found (has_id id) gone (files_of v.slots) found in
    let left : length (files_of (map (slot_after id) v.slots)) ≡ length (filter (survives id) (files_of v.slots)) = ap length files in
    let more : length (dead_of (map (slot_after id) v.slots)) ≤ length (dead_of v.slots) + 1 = dead_of_after id v.slots is.run in
    record {
      numbered = omega arith;
      ordered = is.ordered;
      in_range = is.in_range;
      few = subst (λ n. n ≤ most_slots) (sym (length-map_slots v.slots)) is.few;
      apart = subst (λ ranges. AreRangesWithin v.first v.next ranges) (sym (ranges_of_after id v.slots)) is.apart;
      slots = slots_after_are id v.slots is.slots is.run;
      run = subst IsFileRun (sym files) (run_survives id (files_of v.slots) is.run);
      ids = subst (λ fs. AllByRecursion (λ (f : FileEntry). f.id < v.next_id) fs) (sym files) (all_filter (λ f. f.id < v.next_id) (λ f. f.id < v.next_id) (survives id) (files_of v.slots) (λ f h e. h) is.ids);
      used = omega arith;
      dead = omega arith;
    }
  where
    length-map_slots : (slots : List SlotContent) → length (map (slot_after id) slots) ≡ length slots
    length-map_slots [] = refl
    length-map_slots (slot ∷ slots) = let rest : length (map (slot_after id) slots) ≡ length slots = length-map_slots slots in omega arith

-- tokens at consecutive addresses of a file are at the file's
words_within : (base len p : ℕ) (name : List ℕ) (id : ℕ) (tokens : List (List ℕ)) → base ≤ p → p + length tokens ≤ base + len
    → AllByRecursion (λ w. is_of_file w.address (record { id = id; base = base; len = len; name = name }) ≡ true) (words_from p tokens)
words_within base len p name id [] from to = tt
words_within base len p name id (token ∷ tokens) from to =
    (is_of_file-inside p (record { id = id; base = base; len = len; name = name }) from (omega arith), words_within base len (p + 1) name id tokens (omega arith) (omega arith))

file_words_within : (file : File) → AllByRecursion (λ w. is_of_file w.address (entry_of file) ≡ true) (words_from file.base (with_boundaries file.tokens))
file_words_within file =
    words_within file.base (width_of file.tokens) file.base file.name file.id (with_boundaries file.tokens) (omega arith) (omega (arith, length-append file.tokens (file_end ∷ [])))

-- the words of the files that survive are those that are not of the one that goes
words_after : (id : ℕ) (gone : FileEntry) (files : List File) → AllByRecursion (IsSorted id gone) (map entry_of files)
    → flat_map (λ (f : File). words_from f.base (with_boundaries f.tokens)) (filter (λ f. not (eqb f.id id)) files)
    ≡ filter (λ w. not (is_of_file w.address gone)) (flat_map (λ (f : File). words_from f.base (with_boundaries f.tokens)) files)
words_after id gone [] sorted = refl
words_after id gone (file ∷ files) sorted =
    here (eqb file.id id) refl (words_after id gone files sorted.1)
    ∙ sym (filter-append (λ w. not (is_of_file w.address gone)) (words_from file.base (with_boundaries file.tokens)) (flat_map (λ (f : File). words_from f.base (with_boundaries f.tokens)) files))
  where
    here : (b : Bool) → eqb file.id id ≡ b
        → flat_map (λ (f : File). words_from f.base (with_boundaries f.tokens)) (filter (λ f. not (eqb f.id id)) files)
        ≡ filter (λ w. not (is_of_file w.address gone)) (flat_map (λ (f : File). words_from f.base (with_boundaries f.tokens)) files)
        → flat_map (λ (f : File). words_from f.base (with_boundaries f.tokens)) (cond (not b) (file ∷ filter (λ f. not (eqb f.id id)) files) (filter (λ f. not (eqb f.id id)) files))
        ≡ filter (λ w. not (is_of_file w.address gone)) (words_from file.base (with_boundaries file.tokens)) ++ filter (λ w. not (is_of_file w.address gone)) (flat_map (λ (f : File). words_from f.base (with_boundaries f.tokens)) files)
    here true is rest =
        let same : entry_of file ≡ gone = sorted.0.same is in
        let none = filter_gone (λ w. not (is_of_file w.address gone)) (words_from file.base (with_boundaries file.tokens))
        (all_weaker (λ w. is_of_file w.address (entry_of file) ≡ true) (λ w. not (is_of_file w.address gone) ≡ false) (λ w of. ap (λ t. not t) (sym (ap (is_of_file w.address) same) ∙ of)) (words_from file.base (with_boundaries file.tokens)) (file_words_within file)) in
        rest ∙ sym (ap (λ words. words ++ filter (λ w. not (is_of_file w.address gone)) (flat_map (λ (f : File). words_from f.base (with_boundaries f.tokens)) files)) none)
    here false is rest =
        let kept = filter_kept (λ w. not (is_of_file w.address gone)) (words_from file.base (with_boundaries file.tokens))
        (all_weaker (λ w. is_of_file w.address (entry_of file) ≡ true) (λ w. not (is_of_file w.address gone) ≡ true) (λ w of. ap (λ t. not t) (sorted.0.other is w.address of)) (words_from file.base (with_boundaries file.tokens)) (file_words_within file)) in
        ap (λ words. words_from file.base (with_boundaries file.tokens) ++ words) rest
        ∙ sym (ap (λ words. words ++ filter (λ w. not (is_of_file w.address gone)) (flat_map (λ (f : File). words_from f.base (with_boundaries f.tokens)) files)) kept)

-- and it stands for the collection without the file
pub stands_deleted : (v : VersionContent) (id : ℕ) (gone : FileEntry) (c : Collection) → IsVersion v → file_with_id id (files_of v.slots) ≡ Some gone → StandsFor v c → StandsFor (version_without_file v id) (without_file c id)
stands_deleted v id gone c is found stands =
    let sorted = run_sorted id gone (files_of v.slots) is.run found in
    record {
      first = stands.first;
      next = stands.next;
      next_id = stands.next_id;
      dels = ap (λ n. n + 1) stands.dels;
      files = files_of_after id v.slots ∙ ap (filter (survives id)) stands.files ∙ filter-map (survives id) entry_of c.files;
      words = live_of_after id gone v.slots is.slots is.run sorted ∙ ap (filter (λ w. not (is_of_file w.address gone))) stands.words
          ∙ sym (words_after id gone c.files (subst (λ files. AllByRecursion (IsSorted id gone) files) stands.files sorted));
    }

-- the same if some file has the id
pub some_deleted : (v : VersionContent) (id : ℕ) → IsVersion v → IsSome (file_with_id id (files_of v.slots)) → IsVersion (version_without_file v id)
some_deleted v id is some = here (file_with_id id (files_of v.slots)) refl some
  where
    here : (o : Option FileEntry) → file_with_id id (files_of v.slots) ≡ o → IsSome o → IsVersion (version_without_file v id)
    here None e some = absurd (false≢true some)
    here (Some gone) e some = file_deleted v id gone is e

pub stands_some_deleted : (v : VersionContent) (id : ℕ) (c : Collection) → IsVersion v → IsSome (file_with_id id (files_of v.slots)) → StandsFor v c → StandsFor (version_without_file v id) (without_file c id)
stands_some_deleted v id c is some stands = here (file_with_id id (files_of v.slots)) refl some
  where
    here : (o : Option FileEntry) → file_with_id id (files_of v.slots) ≡ o → IsSome o → StandsFor (version_without_file v id) (without_file c id)
    here None e some = absurd (false≢true some)
    here (Some gone) e some = stands_deleted v id gone c is e stands

-- exactly the file's addresses are dead too
dead_killed : (id : ℕ) (gone : FileEntry) (slots : List SlotContent) (p : ℕ) → AllByRecursion IsSlot slots → IsFileRun (files_of slots) → file_with_id id (files_of slots) ≡ Some gone
    → is_dead (dead_of (map (slot_after id) slots)) p ≡ (is_of_file p gone || is_dead (dead_of slots) p)
dead_killed id gone [] p are run found = absurd cc
dead_killed id gone (slot ∷ slots) p are run found = here (file_with_id id slot.files) refl (dead_killed id gone slots p are.1 (run_right slot.files (files_of slots) run))
  where
    here : (o : Option FileEntry) → file_with_id id slot.files ≡ o
        → (file_with_id id (files_of slots) ≡ Some gone → is_dead (dead_of (map (slot_after id) slots)) p ≡ (is_of_file p gone || is_dead (dead_of slots) p))
        → is_dead ((slot_without slot o).mask ++ dead_of (map (slot_after id) slots)) p ≡ (is_of_file p gone || is_dead (slot.mask ++ dead_of slots) p)
    here None e rest =
        list_any-append (λ range. is_within range p) slot.mask (dead_of (map (slot_after id) slots))
        ∙ ap (λ t. is_dead slot.mask p || t) (rest (sym (find_in_rest slot.files (files_of slots) id e) ∙ found))
        ∙ or_swap (is_dead slot.mask p) (is_of_file p gone) (is_dead (dead_of slots) p)
        ∙ sym (ap (λ t. is_of_file p gone || t) (list_any-append (λ range. is_within range p) slot.mask (dead_of slots)))
    here (Some file) e rest =
        let both : Some file ≡ Some gone = sym (find_in_first slot.files (files_of slots) id file e) ∙ found in
        let same : file ≡ gone = cc in
        list_any-append (λ range. is_within range p) (with_range (range_of file) slot.mask) (dead_of (map (slot_after id) slots))
        ∙ ap (λ ss. is_dead (with_range (range_of file) slot.mask) p || is_dead (dead_of ss) p) (slots_kept id slots (none_behind id file slot.files (files_of slots) run e))
        ∙ ap (λ t. t || is_dead (dead_of slots) p) (dead_after slot file p (going id slot file are.0 (run_left slot.files (files_of slots) run) e))
        ∙ or_assoc (is_of_file p file) (is_dead slot.mask p) (is_dead (dead_of slots) p)
        ∙ ap (λ f. is_of_file p f || (is_dead slot.mask p || is_dead (dead_of slots) p)) same
        ∙ sym (ap (λ t. is_of_file p gone || t) (list_any-append (λ range. is_within range p) slot.mask (dead_of slots)))

pub kills : (id : ℕ) (slots : List SlotContent) → AllByRecursion IsSlot slots → IsFileRun (files_of slots) → KillsFile slots id (map (slot_after id) slots)
kills id slots are run = λ file found p. dead_killed id file slots p are run found
