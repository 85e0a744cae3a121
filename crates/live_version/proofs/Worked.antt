-- Slots and versions, computed: `to be or not to be` at 0 to 7, and an empty file at 8 and 9.
use Rattle.std.proofs.Common.{◌≡◌, ℕ, true, false, List, [], ◌∷◌, map, codes, Some, None, inl, inr, refl}
use Rattle.gcl_model.specs.Slots.{slot_range}
use Rattle.gcl_model.specs.Texts.{next_place, previous_place}
use Rattle.address_space.specs.Runs.{FileEntry}
use Rattle.index_shard.specs.Tables.{ShardContent}
use Rattle.index_shard.proofs.TableLaws.{term_entry as entry}
use Rattle.live_version.specs.Contents.{SlotContent, VersionContent, slot_content, version_content, is_of_files, live_of, files_of, dead_of}
use Rattle.live_version.specs.Changes.{file_with_id, version_without_file}
use Rattle.live_version.specs.LookUps.{is_alive, look_ups}
use Rattle.live_version.specs.Terms.{IsLeastTerm, terms_from, terms_of}

abbrev hamlet : ShardContent
hamlet = record {
  range = slot_range 0 7;
  table = entry (codes "</file!>") (7 ∷ []) ∷ entry (codes "<file!>") (0 ∷ []) ∷ entry (codes "be") (2 ∷ 6 ∷ []) ∷ entry (codes "not") (4 ∷ []) ∷ entry (codes "or") (3 ∷ []) ∷ entry (codes "to") (1 ∷ 5 ∷ []) ∷ [];
}

abbrev nothing : ShardContent
nothing = record { range = slot_range 8 9; table = entry (codes "</file!>") (9 ∷ []) ∷ entry (codes "<file!>") (8 ∷ []) ∷ [] }

abbrev file : ℕ → ℕ → ℕ → List ℕ → FileEntry
file id base len name = record { id = id; base = base; len = len; name = name }

abbrev two_files : List SlotContent
two_files = slot_content (slot_range 0 7) hamlet [] (file 0 0 8 (codes "a") ∷ []) ∷ slot_content (slot_range 8 9) nothing [] (file 1 8 2 (codes "b") ∷ []) ∷ []

abbrev both : VersionContent
both = version_content 2 2 0 10 2 0 two_files

abbrev left : VersionContent
left = version_without_file both 0

files_of-both : map (λ f. f.id) (files_of both.slots) ≡ 0 ∷ 1 ∷ []
files_of-both = refl

files_of-left : map (λ f. f.id) (files_of left.slots) ≡ 1 ∷ []
files_of-left = refl

file_with_id-deleted : file_with_id 0 (files_of left.slots) ≡ None
file_with_id-deleted = refl

is_of_files-last : is_of_files (files_of left.slots) 9 ≡ true
is_of_files-last = refl

is_of_files-deleted : is_of_files (files_of left.slots) 7 ≡ false
is_of_files-deleted = refl

dead_of-left : dead_of left.slots ≡ slot_range 0 7 ∷ []
dead_of-left = refl

-- the deleted file's words are in its index still, and in no answer
live_of-left : map (λ w. w.address) (live_of left.slots) ≡ 8 ∷ 9 ∷ []
live_of-left = refl

next_place-both : next_place (live_of both.slots) (codes "to") 2 ≡ Some 5
next_place-both = refl

next_place-dead : next_place (live_of left.slots) (codes "to") 0 ≡ None
next_place-dead = refl

next_place-leapt : next_place (live_of left.slots) (codes "</file!>") 0 ≡ Some 9
next_place-leapt = refl

previous_place-dead : previous_place (live_of left.slots) (codes "</file!>") 8 ≡ None
previous_place-dead = refl

is_alive-behind : is_alive (slot_range 2 4 ∷ []) 5 ≡ true
is_alive-behind = refl

is_alive-last : is_alive (slot_range 2 4 ∷ []) 4 ≡ false
is_alive-last = refl

look_ups-both : look_ups both.slots ≡ 2
look_ups-both = refl

look_ups-left : look_ups left.slots ≡ 3
look_ups-left = refl

-- terms are in the index even if no posting is alive
terms_from-left : terms_from (terms_of left.slots) (codes "not") false ≡ codes "not" ∷ codes "or" ∷ codes "to" ∷ []
terms_from-left = refl

terms_from-strict : terms_from (terms_of left.slots) (codes "not") true ≡ codes "or" ∷ codes "to" ∷ []
terms_from-strict = refl

terms_from-none : terms_from (terms_of left.slots) (codes "to") true ≡ []
terms_from-none = refl

-- at or after "<" the boundaries of both slots come first, and of these "</file!>"
least-boundary : IsLeastTerm (terms_from (terms_of two_files) (codes "<") true) (codes "</file!>")
least-boundary = record { member = refl; least = (inl refl, (inr refl, (inr refl, (inr refl, (inr refl, (inr refl, (inl refl, (inr refl, tt)))))))) }
