-- Versions that begin, and versions to which a file is added.
use Rattle.std.proofs.Common.{◌≡◌, ℕ, ◌+◌, ◌-◌, ◌<◌, ◌≤◌, true, false, List, [], ◌∷◌, ◌++◌, map, length, Option, None, Some, IfSome, refl, sym, ap, ◌∙◌, subst, arith, append-nil, length-append}
use Rattle.gcl_model.specs.Limits.{most_slots, address_end}
use Rattle.std.proofs.lemmas.List.{map-append}
use Rattle.std.specs.List.{AllByRecursion}
use Rattle.std.proofs.lemmas.Bool.{or_left}
use Rattle.std.proofs.lemmas.Grind.{flat_map-append}
use Rattle.gcl_model.specs.Slots.{SlotRange, AreRangesWithin}
use Rattle.gcl_model.specs.Texts.{Word, AreRisingBelow}
use Rattle.gcl_model.specs.Collections.{Collection, File, width_of, with_boundaries, words_from, with_file}
use Rattle.address_space.specs.Runs.{FileEntry, IsPlaced, Precedes, IsFileRun, range_of}
use Rattle.address_space.proofs.RunLemmas.{IsFileRun-push}
use Rattle.index_shard.specs.Tables.{ShardContent, IsShard, words_of}
use Rattle.index_shard.proofs.ShardWords.{shard_words_rise}
use Rattle.live_version.specs.Contents.{SlotContent, VersionContent, IsSlot, IsVersion, LiesIn, is_of_file, is_of_files, ranges_of, files_of, dead_of, live_of, live_words}
use Rattle.live_version.specs.Changes.{opened, slot_of_file, version_with_file}
use Rattle.live_version.specs.StandsFor.{StandsFor, entry_of}
use Rattle.gcl_model.proofs.Lists.{all_append, all_weaker, all_both, all_filter, filter_all}
use Rattle.live_version.proofs.ChangeRanges.{ranges_push}
use Rattle.live_version.proofs.ChangeFiles.{is_of_file-inside, run_length}
use Rattle.file_runs.proofs.RunLemmas.{last_of_all}

opened_none : (first next next_id : ℕ) → first ≤ next → next ≤ address_end → IsVersion (opened first next next_id None)
opened_none first next next_id le in_range = record {
  numbered = omega arith;
  ordered = le;
  in_range = in_range;
  few = omega arith;
  apart = tt;
  slots = tt;
  run = tt;
  ids = tt;
  used = omega arith;
  dead = omega arith;
}

all_from_zero : (files : List FileEntry) → AllByRecursion (λ file. 0 ≤ file.id) files
all_from_zero [] = tt
all_from_zero (file ∷ files) = (omega arith, all_from_zero files)

opened_some : (first next next_id : ℕ) (slot : SlotContent) → first ≤ next → next ≤ address_end → IsSlot slot → IsFileRun slot.files → first ≤ slot.range.first → slot.range.last < next
    → AllByRecursion (λ file. file.id < next_id) slot.files → slot.mask ≡ [] → IsVersion (opened first next next_id (Some slot))
opened_some first next next_id slot le in_range is run low high ids none =
    let all : slot.files ++ [] ≡ slot.files = append-nil slot.files in
    let some : slot.range.first ≤ slot.range.last = subst (λ (r : SlotRange). r.first ≤ r.last) is.indexed is.shard.ordered in
    let count : 0 + length slot.files ≤ next_id = run_length 0 next_id slot.files (all_from_zero slot.files) ids run (omega arith) in
    let masked : length (slot.mask ++ []) ≡ 0 = ap length (append-nil slot.mask ∙ none) in
    record {
      numbered = omega arith;
      ordered = le;
      in_range = in_range;
      few = omega arith;
      apart = (low, some, high, tt);
      slots = (is, tt);
      run = subst IsFileRun (sym all) run;
      ids = subst (λ files. AllByRecursion (λ (file : FileEntry). file.id < next_id) files) (sym all) ids;
      used = let n : length (slot.files ++ []) ≡ length slot.files = ap length all in omega arith;
      dead = omega arith;
    }

-- of a slot, or of none
pub opened_is : (first next next_id : ℕ) (slot : Option SlotContent) → first ≤ next → next ≤ address_end → IfSome slot IsSlot → IfSome slot (λ s. IsFileRun s.files) → IfSome slot (λ s. first ≤ s.range.first) → IfSome slot (λ s. s.range.last < next)
    → IfSome slot (λ s. AllByRecursion (λ file. file.id < next_id) s.files) → IfSome slot (λ s. s.mask ≡ []) → IsVersion (opened first next next_id slot)
opened_is first next next_id None le in_range is run low high ids none = opened_none first next next_id le in_range
opened_is first next next_id (Some slot) le in_range is run low high ids none = opened_some first next next_id slot le in_range is run low high ids none

-- words at the addresses of a file are its words
rising_in_file : (file : FileEntry) (next low : ℕ) (words : List Word) → file.base ≤ low → next ≤ file.base + file.len → AreRisingBelow next low words
    → AllByRecursion (λ w. is_of_files (file ∷ []) w.address ≡ true) words
rising_in_file file next low [] from to h = tt
rising_in_file file next low (w ∷ words) from to h =
    let start : low ≤ w.address = h.0 in
    let under : w.address < next = h.1 in
    (or_left (is_of_file w.address file) false (is_of_file-inside w.address file (omega arith) (omega arith)), rising_in_file file next (w.address + 1) words (omega arith) to h.2)

-- the words of an index of exactly the addresses of a file are the file's
pub owned_by_file : (file : FileEntry) (shard : ShardContent) → IsShard shard → shard.range ≡ range_of file → IsPlaced file → AllByRecursion (λ w. is_of_files (file ∷ []) w.address ≡ true) (words_of shard)
owned_by_file file shard is range placed =
    let some : 2 ≤ file.len = placed.bounded in
    let rise = subst (λ (r : SlotRange). AreRisingBelow (r.last + 1) r.first (words_of shard)) range (shard_words_rise shard is) in
    rising_in_file file (file.base + file.len - 1 + 1) file.base (words_of shard) (omega arith) (omega arith) rise

-- the slot of a file that is added
pub file_slot : (file : FileEntry) (shard : ShardContent) → IsShard shard → shard.range ≡ range_of file → IsPlaced file → IsSlot (slot_of_file file shard)
file_slot file shard is range placed =
    let some : 2 ≤ file.len = placed.bounded in
    record {
      shard = is;
      indexed = range;
      files = ((omega arith, omega arith), tt);
      dead = tt;
      alive = λ p e. refl;
      owned = all_filter (λ w. is_of_files (file ∷ []) w.address ≡ true) (λ w. is_of_files (file ∷ []) w.address ≡ true) (λ w. true) (words_of shard) (λ w h e. h)
          (owned_by_file file shard is range placed);
    }

-- all files end before the end of the slots
files_end : (low end : ℕ) (slots : List SlotContent) → AreRangesWithin low end (ranges_of slots) → AllByRecursion IsSlot slots → AllByRecursion (λ file. file.base + file.len ≤ end) (files_of slots)
files_end low end [] h are = tt
files_end low end (slot ∷ slots) h are =
    let last : slot.range.last < end = h.2 in
    all_append (λ file. file.base + file.len ≤ end) slot.files (files_of slots)
    (all_weaker (LiesIn slot.range) (λ file. file.base + file.len ≤ end) (λ file lies. let to : file.base + file.len ≤ slot.range.last + 1 = lies.1 in omega arith) slot.files are.0.files)
    (files_end (slot.range.last + 1) end slots h.3 are.1)

pub file_added : (v : VersionContent) (file : FileEntry) (shard : ShardContent) → IsVersion v → length v.slots < most_slots → file.id ≡ v.next_id → file.base ≡ v.next → shard.range ≡ range_of file → IsShard shard → IsPlaced file
    → IsVersion (version_with_file v file shard)
file_added v file shard is few id base range is_shard placed =
    let slot = slot_of_file file shard in
    let files : files_of (v.slots ++ slot ∷ []) ≡ files_of v.slots ++ file ∷ [] = flat_map-append (λ s. s.files) v.slots (slot ∷ []) in
    let dead : dead_of (v.slots ++ slot ∷ []) ≡ dead_of v.slots = flat_map-append (λ s. s.mask) v.slots (slot ∷ []) ∙ append-nil (dead_of v.slots) in
    let some : 2 ≤ file.len = placed.bounded in
    let end : file.base + file.len ≤ address_end = placed.in_range in
    let numbered : v.edition ≤ v.number = is.numbered in
    let ordered : v.first ≤ v.next = is.ordered in
    let used : length (files_of v.slots) + v.dels ≤ v.next_id = is.used in
    let less : length (dead_of v.slots) ≤ v.dels = is.dead in
    record {
      numbered = omega arith;
      ordered = omega arith;
      in_range = omega arith;
      few = let n : length (v.slots ++ slot ∷ []) ≡ length v.slots + 1 = length-append v.slots (slot ∷ []) in omega arith;
      apart = subst (λ ranges. AreRangesWithin v.first (v.next + file.len) ranges) (sym (map-append (λ (s : SlotContent). s.range) v.slots (slot ∷ [])))
          (ranges_push v.first v.next (v.next + file.len) (ranges_of v.slots) (range_of file) ordered is.apart (omega arith) (omega arith) (omega arith));
      slots = all_append IsSlot v.slots (slot ∷ []) is.slots (file_slot file shard is_shard range placed, tt);
      run = subst IsFileRun (sym files)
          (IsFileRun-push (files_of v.slots) file is.run placed
          (last_of_all (λ last. Precedes last file) (files_of v.slots)
          (all_both (λ f. f.id < v.next_id) (λ f. f.base + f.len ≤ v.next) (λ last. Precedes last file) (λ f earlier ends. record { ids = omega arith; addresses = omega arith }) (files_of v.slots) is.ids
          (files_end v.first v.next v.slots is.apart is.slots))));
      ids = subst (λ fs. AllByRecursion (λ (f : FileEntry). f.id < v.next_id + 1) fs) (sym files)
          (all_append (λ f. f.id < v.next_id + 1) (files_of v.slots) (file ∷ []) (all_weaker (λ f. f.id < v.next_id) (λ f. f.id < v.next_id + 1) (λ f h. omega arith) (files_of v.slots) is.ids) (omega arith, tt));
      used = let n : length (files_of (v.slots ++ slot ∷ [])) ≡ length (files_of v.slots) + 1 = ap length files ∙ length-append (files_of v.slots) (file ∷ []) in omega arith;
      dead = let n : length (dead_of (v.slots ++ slot ∷ [])) ≡ length (dead_of v.slots) = ap length dead in omega arith;
    }

-- and it stands for the collection with that file more
pub stands_added : (v : VersionContent) (file : FileEntry) (shard : ShardContent) (c : Collection) (tokens : List (List ℕ)) → file.id ≡ v.next_id → file.base ≡ v.next → StandsFor v c → file.len ≡ width_of tokens
    → words_of shard ≡ words_from file.base (with_boundaries tokens) → StandsFor (version_with_file v file shard) (with_file c file.name tokens)
stands_added v file shard c tokens id base stands len words =
    let slot = slot_of_file file shard in
    let new : File = record { id = c.next_id; name = file.name; base = c.next; tokens = tokens } in
    let first : file.id ≡ c.next_id = id ∙ stands.next_id in
    let start : file.base ≡ c.next = base ∙ stands.next in
    let same : file ≡ entry_of new =
    ap (λ n. record { id = n; base = file.base; len = file.len; name = file.name }) first
    ∙ ap (λ n. record { id = c.next_id; base = n; len = file.len; name = file.name }) start
    ∙ ap (λ n. record { id = c.next_id; base = c.next; len = n; name = file.name }) len in
    let live : live_words slot ≡ words_from c.next (with_boundaries tokens) =
    filter_all (words_of shard) ∙ words ∙ ap (λ n. words_from n (with_boundaries tokens)) start in
    record {
      first = stands.first;
      next = ap (λ n. n + file.len) stands.next ∙ ap (λ n. c.next + n) len;
      next_id = ap (λ n. n + 1) stands.next_id;
      dels = stands.dels;
      files = flat_map-append (λ s. s.files) v.slots (slot ∷ []) ∙ ap (λ files. files ++ file ∷ []) stands.files ∙ ap (λ f. map entry_of c.files ++ f ∷ []) same ∙ sym (map-append entry_of c.files (new ∷ []));
      words = flat_map-append live_words v.slots (slot ∷ []) ∙ ap (λ l. live_of v.slots ++ (l ++ [])) live ∙ ap (λ l. l ++ (words_from c.next (with_boundaries tokens) ++ [])) stands.words
          ∙ sym (flat_map-append (λ (f : File). words_from f.base (with_boundaries f.tokens)) c.files (new ∷ []));
    }

pub ranges_added : (slots : List SlotContent) (file : FileEntry) (shard : ShardContent) → ranges_of (slots ++ slot_of_file file shard ∷ []) ≡ ranges_of slots ++ range_of file ∷ []
ranges_added slots file shard = map-append (λ (s : SlotContent). s.range) slots (slot_of_file file shard ∷ [])
