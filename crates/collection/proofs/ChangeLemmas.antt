-- The versions that a merge and a deletion make.
use Rattle.std.proofs.Common.{◌≡◌, ℕ, ◌+◌, ◌≤◌, List, [], ◌∷◌, ◌++◌, length, map, drop, Option, Some, None, IsSome, refl, sym, ap, ◌∙◌, subst, arith}
use Rattle.std.proofs.lemmas.List.{take_all, drop_all, length-map, nil_from_length}
use Rattle.gcl_model.specs.Collections.{File}
use Rattle.gcl_model.specs.Slots.{SlotRange, slots_after_merge}
use Rattle.address_space.specs.Runs.{FileEntry}
use Rattle.live_version.specs.Changes.{IsSameLive, KillsFile, file_with_id, slot_without, slots_at, version_with_slot, version_without_file, whole_range}
use Rattle.live_version.specs.Contents.{SlotContent, VersionContent, IsVersion, dead_of, files_of, live_of, ranges_of}
use Rattle.live_version.specs.StandsFor.{DeletesFile, Keeps, entry_of}
use Rattle.live_version.proofs.PartLaws.{has_files, words_are_of_files}
use Rattle.collection.specs.Changes.{Adopts, DeletesFileFrom, MergesSlotsOf}

-- all slots are those starting at the first
pub all_slots : (count : ℕ) (slots : List SlotContent) → count ≡ length slots → slots_at 0 count slots ≡ slots
all_slots count slots is = take_all count slots (omega arith)

no_slots : (count : ℕ) (slots : List SlotContent) → count ≡ length slots → drop (0 + count) slots ≡ []
no_slots count slots is = drop_all (0 + count) slots (omega arith)

-- if no file survives, nothing is lost with the slots
pub same-none : (v : VersionContent) (count : ℕ) → IsVersion v → length (files_of v.slots) ≡ 0 → count ≡ length v.slots → IsSameLive (slots_at 0 count v.slots) []
same-none v count is none all =
    let files : files_of v.slots ≡ [] = nil_from_length (files_of v.slots) none in
    let slots : slots_at 0 count v.slots ≡ v.slots = all_slots count v.slots all in
    record {
      words = sym (ap live_of slots ∙ words_are_of_files v is files);
      files = sym (ap files_of slots ∙ files);
    }

merged_ranges-none : (ranges : List SlotRange) (files : List File) → map entry_of files ≡ [] → slots_after_merge ranges files ≡ []
merged_ranges-none [] files e = refl
merged_ranges-none (range ∷ ranges) [] e = refl
merged_ranges-none (range ∷ ranges) (file ∷ files) e = absurd cc

pub merges-none : (v w : VersionContent) (count : ℕ) → length (files_of v.slots) ≡ 0 → count ≡ length v.slots → w ≡ version_with_slot v 0 count None → Keeps v w → MergesSlotsOf v w
merges-none v w count none all is keeps =
    let slots : w.slots ≡ [] = ap (λ u. u.slots) is ∙ no_slots count v.slots all in
    record {
      stands = keeps;
      ranges = λ c s. ap ranges_of slots ∙ sym (merged_ranges-none (ranges_of v.slots) c.files (sym s.files ∙ nil_from_length (files_of v.slots) none));
      alive = ap dead_of slots;
      number = ap (λ u. u.number) is;
      edition = ap (λ u. u.edition) is;
    }

merged_ranges-some : (ranges : List SlotRange) (files : List File) (range : SlotRange) → 1 ≤ length (map entry_of files) → whole_range ranges ≡ Some range → range ∷ [] ≡ slots_after_merge ranges files
merged_ranges-some [] files range le is = absurd cc
merged_ranges-some (first ∷ ranges) [] range le is = absurd (omega arith)
merged_ranges-some (first ∷ ranges) (file ∷ files) range le is = ap (λ r. r ∷ []) (some-same is)
  where
    some-same : {a b : SlotRange} → Some a ≡ Some b → b ≡ a
    some-same e = cc

pub merges-some : (v w : VersionContent) (count : ℕ) (slot : SlotContent) → 1 ≤ length (files_of v.slots) → count ≡ length v.slots → whole_range (ranges_of (slots_at 0 count v.slots)) ≡ Some slot.range → slot.mask ≡ []
    → w ≡ version_with_slot v 0 count (Some slot) → Keeps v w → MergesSlotsOf v w
merges-some v w count slot some all whole alive is keeps =
    let slots : w.slots ≡ slot ∷ [] = ap (λ u. u.slots) is ∙ ap (λ l. [] ++ (slot ∷ []) ++ l) (no_slots count v.slots all) in
    record {
      stands = keeps;
      ranges = λ c s. ap ranges_of slots ∙ merged_ranges-some (ranges_of v.slots) c.files slot.range (subst (λ fs. 1 ≤ length fs) s.files some) (sym (ap (λ ss. whole_range (ranges_of ss)) (all_slots count v.slots all)) ∙ whole);
      alive = ap dead_of slots ∙ ap (λ m. m ++ []) alive;
      number = ap (λ u. u.number) is;
      edition = ap (λ u. u.edition) is;
    }

merged_ranges-one : (ranges : List SlotRange) (files : List File) → length ranges ≡ 1 → 1 ≤ length (map entry_of files) → ranges ≡ slots_after_merge ranges files
merged_ranges-one [] files one le = absurd (omega arith)
merged_ranges-one (range ∷ []) [] one le = absurd (omega arith)
merged_ranges-one (range ∷ []) (file ∷ files) one le = refl
merged_ranges-one (range ∷ next ∷ ranges) files one le = absurd (omega arith)

-- one slot of which nothing is dead is what a merge leaves
pub merges-one : (v w : VersionContent) → 1 ≤ length (files_of v.slots) → length v.slots ≡ 1 → dead_of v.slots ≡ [] → w ≡ version_with_slot v 0 0 None → Keeps v w → MergesSlotsOf v w
merges-one v w some one alive is keeps =
    let slots : w.slots ≡ v.slots = ap (λ u. u.slots) is in
    record {
      stands = keeps;
      ranges = λ c s. ap ranges_of slots ∙ merged_ranges-one (ranges_of v.slots) c.files (length-map v.slots (λ (slot : SlotContent). slot.range) ∙ one) (subst (λ fs. 1 ≤ length fs) s.files some);
      alive = ap dead_of slots ∙ alive;
      number = ap (λ u. u.number) is;
      edition = ap (λ u. u.edition) is;
    }

shard-kept : (slot : SlotContent) (file : Option FileEntry) → (slot_without slot file).shard ≡ slot.shard
shard-kept slot None = refl
shard-kept slot (Some file) = refl

-- a deletion keeps each index
pub shards-kept : (id : ℕ) (slots : List SlotContent) → map (λ slot. slot.shard) (map (λ slot. slot_without slot (file_with_id id slot.files)) slots) ≡ map (λ slot. slot.shard) slots
shards-kept id [] = refl
shards-kept id (slot ∷ slots) =
    ap (λ s. s ∷ map (λ slot. slot.shard) (map (λ slot. slot_without slot (file_with_id id slot.files)) slots)) (shard-kept slot (file_with_id id slot.files)) ∙ ap (λ l. slot.shard ∷ l) (shards-kept id slots)

-- a deletion of a surviving file
pub deletes : (v w : VersionContent) (id : ℕ) → IsSome (file_with_id id (files_of v.slots)) → w ≡ version_without_file v id → DeletesFile v id w → ranges_of w.slots ≡ ranges_of v.slots → KillsFile v.slots id w.slots → DeletesFileFrom v w id
deletes v w id survives is stands ranges dead = record {
  stands = λ c s. ((has_files v c id s).0 survives, stands c s);
  ranges = ranges;
  shards = ap (λ u. map (λ slot. slot.shard) u.slots) is ∙ shards-kept id v.slots;
  dead = dead;
  number = ap (λ u. u.number) is;
  edition = ap (λ u. u.edition) is;
}

-- an opened version under the next numbers
pub adopts : (v opened w : VersionContent) → v.next_id ≡ 0 → w ≡ record opened { number = v.number + 1; edition = v.edition + 1 } → Keeps opened w → Adopts v opened w
adopts v opened w empty is keeps = record {
  empty = empty;
  stands = keeps;
  slots = ap (λ u. u.slots) is;
  number = ap (λ u. u.number) is;
  edition = ap (λ u. u.edition) is;
}
