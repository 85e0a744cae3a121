-- Two files, of which the first is deleted: `to be` at 0 to 3, and an empty file at 4 and 5.
use Rattle.std.proofs.Common.{◌≡◌, ℕ, List, [], ◌∷◌, map, None, Some, refl}
use Rattle.std.specs.Prelude.{codes}
use Rattle.gcl_model.specs.Slots.{slot_range}
use Rattle.gcl_model.specs.Texts.{Word}
use Rattle.gcl_model.specs.Collections.{Collection, empty_from, with_file, without_file, file_start, file_end, words_of}
use Rattle.address_space.specs.Runs.{FileEntry}
use Rattle.index_shard.specs.Tables.{ShardContent, TermEntry}
use Rattle.live_version.specs.Contents.{SlotContent, VersionContent, slot_content, version_content, ranges_of, files_of, live_of}
use Rattle.live_version.specs.Changes.{empty_version, version_with_file, version_without_file, version_with_slot, slot_of_file, slots_at, whole_range}
use Rattle.live_version.specs.StandsFor.{entry_of}

abbrev term : List ℕ → List ℕ → TermEntry
term token addresses = record { term = token; addresses = addresses }

abbrev file : ℕ → ℕ → ℕ → List ℕ → FileEntry
file id base len name = record { id = id; base = base; len = len; name = name }

abbrev word : ℕ → List ℕ → Word
word p token = record { address = p; token = token }

abbrev a : FileEntry
a = file 0 0 4 (codes "a")

abbrev b : FileEntry
b = file 1 4 2 (codes "b")

abbrev a_shard : ShardContent
a_shard = record { range = slot_range 0 3; table = term file_end (3 ∷ []) ∷ term file_start (0 ∷ []) ∷ term (codes "be") (2 ∷ []) ∷ term (codes "to") (1 ∷ []) ∷ [] }

abbrev b_shard : ShardContent
b_shard = record { range = slot_range 4 5; table = term file_end (5 ∷ []) ∷ term file_start (4 ∷ []) ∷ [] }

abbrev both : VersionContent
both = version_with_file (version_with_file (empty_version 0) a a_shard) b b_shard

both-is : both ≡ version_content 2 2 0 6 2 0 (slot_of_file a a_shard ∷ slot_of_file b b_shard ∷ [])
both-is = refl

abbrev one : VersionContent
one = version_without_file both 0

-- the slot of the deleted file stays, with its range and its index
one-is : one ≡ version_content 3 3 0 6 2 1 (slot_content (slot_range 0 3) a_shard (slot_range 0 3 ∷ []) [] ∷ slot_of_file b b_shard ∷ [])
one-is = refl

one-ranges : ranges_of one.slots ≡ slot_range 0 3 ∷ slot_range 4 5 ∷ []
one-ranges = refl

one-files : files_of one.slots ≡ b ∷ []
one-files = refl

-- what is left is what the collection has
abbrev left : Collection
left = without_file (with_file (with_file (empty_from 0) (codes "a") (codes "to" ∷ codes "be" ∷ [])) (codes "b") []) 0

one-words : live_of one.slots ≡ word 4 file_start ∷ word 5 file_end ∷ []
one-words = refl

one-stands_words : live_of one.slots ≡ words_of left
one-stands_words = refl

one-stands_files : files_of one.slots ≡ map entry_of left.files
one-stands_files = refl

-- one slot in the place of both reaches over the hole
whole : whole_range (ranges_of (slots_at 0 2 one.slots)) ≡ Some (slot_range 0 5)
whole = refl

abbrev merged : SlotContent
merged = slot_content (slot_range 0 5) (record { range = slot_range 0 5; table = b_shard.table }) [] (b ∷ [])

merged-is : version_with_slot one 0 2 (Some merged) ≡ version_content 4 3 0 6 2 1 (merged ∷ [])
merged-is = refl

-- no slot in the place of the first
dropped-is : version_with_slot one 0 1 None ≡ version_content 4 3 0 6 2 1 (slot_of_file b b_shard ∷ [])
dropped-is = refl
