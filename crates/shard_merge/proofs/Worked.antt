-- A merge, computed: the files `to be or not to be` at 0 to 7 and one without words at 8 and 9, of which the first is deleted.
use Rattle.std.proofs.Common.{◌≡◌, List, [], ◌∷◌, map, codes, Some, refl}
use Rattle.gcl_model.specs.Slots.{slot_range}
use Rattle.gcl_model.specs.Texts.{Word}
use Rattle.index_shard.specs.Tables.{TermEntry, ShardContent, words_of}
use Rattle.index_shard.proofs.TableLaws.{term_entry as entry}
use Rattle.live_version.specs.Contents.{SlotContent, slot_content, ranges_of, live_of}
use Rattle.live_version.specs.Changes.{whole_range}
use Rattle.slot_terms.specs.Parts.{part_of, postings_left, past}

abbrev hamlet : List TermEntry
hamlet =
    entry (codes "</file!>") (7 ∷ []) ∷ entry (codes "<file!>") (0 ∷ []) ∷ entry (codes "be") (2 ∷ 6 ∷ []) ∷ entry (codes "not") (4 ∷ []) ∷ entry (codes "or") (3 ∷ []) ∷ entry (codes "to") (1 ∷ 5 ∷ [])
    ∷ []

abbrev no_words : List TermEntry
no_words = entry (codes "</file!>") (9 ∷ []) ∷ entry (codes "<file!>") (8 ∷ []) ∷ []

abbrev before : List SlotContent
before =
    slot_content (slot_range 0 7) record { range = slot_range 0 7; table = hamlet } (slot_range 0 7 ∷ []) []
    ∷ slot_content (slot_range 8 9) record { range = slot_range 8 9; table = no_words } [] (record { id = 1; base = 8; len = 2; name = codes "b" } ∷ [])
    ∷ []

abbrev after : ShardContent
after = record { range = slot_range 0 9; table = no_words }

-- the two words that are left keep their addresses
words_of-after : words_of after ≡ live_of before
words_of-after = refl

live_of-before : map (λ (w : Word). w.address) (live_of before) ≡ 8 ∷ 9 ∷ []
live_of-before = refl

whole_range-before : whole_range (ranges_of before) ≡ Some (slot_range 0 9)
whole_range-before = refl

-- of the first term one of two postings is live, and of `be` none
postings_left-end : postings_left (map part_of before) (codes "</file!>") ≡ 9 ∷ []
postings_left-end = refl

postings_left-be : postings_left (map part_of before) (codes "be") ≡ []
postings_left-be = refl

-- past the first term nothing is left of it, and the others are as they were
past-end : postings_left (map (past (codes "</file!>")) (map part_of before)) (codes "</file!>") ≡ []
past-end = refl

past-start : postings_left (map (past (codes "</file!>")) (map part_of before)) (codes "<file!>") ≡ 8 ∷ []
past-start = refl
