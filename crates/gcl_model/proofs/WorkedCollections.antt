-- Worked examples of collections and of slots, computed.
use Rattle.std.specs.Prelude.{◌≡◌, ℕ, ◌+◌, suc, zero, List, [], ◌∷◌, refl, codes, true, false, Some, None}
use Rattle.gcl_model.specs.Extents.{extent}
use Rattle.gcl_model.specs.Forms.{term, seq, width, more_forms, no_forms}
use Rattle.gcl_model.specs.Tokens.{tokens_of}
use Rattle.gcl_model.specs.Collections.{Collection, empty_from, with_file, without_file, has_file, text_of, word_at, file_start, file_end, is_boundary}
use Rattle.gcl_model.specs.Meaning.{concordance}
use Rattle.gcl_model.specs.Slots.{SlotRange, slot_range, tail_count, slots_after_add, slots_after_merge, slots_after_open}

-- the tokens of the file a
abbrev a : List (List ℕ)
a = tokens_of (codes "to be or not to be")

-- the files a, of eight addresses, and b, which is empty and has two
abbrev two_files : Collection
two_files = with_file (with_file (empty_from 0) (codes "a") a) (codes "b") []

abbrev second_file_alone : Collection
second_file_alone = without_file two_files 0

pub from_boundary_to_boundary : concordance (text_of two_files) (seq (more_forms (term file_start) (more_forms (term file_end) no_forms))) ≡ extent 0 7 ∷ extent 8 9 ∷ []
from_boundary_to_boundary = refl

pub word_of_the_first_file : word_at two_files 5 ≡ Some (codes "to")
word_of_the_first_file = refl

pub boundary_of_the_empty_file : word_at two_files 9 ≡ Some file_end
boundary_of_the_empty_file = refl

pub a_boundary_is_spelled_out : is_boundary (codes "</file!>") ≡ true
a_boundary_is_spelled_out = refl

pub a_tag_is_no_boundary : is_boundary (codes "<file>") ≡ false
a_tag_is_no_boundary = refl

pub no_word_behind_the_last : word_at two_files 10 ≡ None
no_word_behind_the_last = refl

pub no_word_of_a_deleted_file : word_at second_file_alone 5 ≡ None
no_word_of_a_deleted_file = refl

pub a_deleted_file_is_gone : has_file second_file_alone 0 ≡ false
a_deleted_file_is_gone = refl

pub another_file_survives : has_file second_file_alone 1 ≡ true
another_file_survives = refl

-- a width counts the addresses of deleted files too
pub widths_span_holes : concordance (text_of second_file_alone) (width 9) ≡ extent 0 8 ∷ extent 1 9 ∷ []
widths_span_holes = refl

-- addresses are never used again
pub added_again : concordance (text_of (with_file second_file_alone (codes "a") a)) (term (codes "to")) ≡ extent 11 11 ∷ extent 15 15 ∷ []
added_again = refl

abbrev three_slots : List SlotRange
three_slots = slot_range 0 7 ∷ slot_range 8 9 ∷ slot_range 10 17 ∷ []

-- the given number of slots of two addresses are added, starting at an address
abbrev added_from : ℕ → ℕ → List SlotRange → List SlotRange
added_from zero p ranges = ranges
added_from (suc n) p ranges = added_from n (p + 2) (slots_after_add ranges (slot_range p (p + 1)))

-- equal widths become one, and an equality of four times does too
pub two_pairs_are_one : slots_after_add (slot_range 0 1 ∷ []) (slot_range 2 3) ≡ slot_range 0 3 ∷ []
two_pairs_are_one = refl

pub four_times_is_joined : slots_after_add (slot_range 0 7 ∷ []) (slot_range 8 9) ≡ slot_range 0 9 ∷ []
four_times_is_joined = refl

pub more_than_four_times_is_not : slots_after_add (slot_range 0 8 ∷ []) (slot_range 9 10) ≡ slot_range 0 8 ∷ slot_range 9 10 ∷ []
more_than_four_times_is_not = refl

-- the joined slot is compared anew with the one before it: of the widths 44, 10 and 2, and one more of 2, all become one
pub joining_goes_on : slots_after_add (slot_range 0 43 ∷ slot_range 44 53 ∷ slot_range 54 55 ∷ []) (slot_range 56 57) ≡ slot_range 0 57 ∷ []
joining_goes_on = refl

-- a joined slot keeps the hole between the two
pub joined_over_a_hole : slots_after_add (slot_range 0 1 ∷ []) (slot_range 8 9) ≡ slot_range 0 9 ∷ []
joined_over_a_hole = refl

-- the widths go 2, 4, 6, 8, 10, and then 10 and 2
pub five_pairs : added_from 5 0 [] ≡ slot_range 0 9 ∷ []
five_pairs = refl

pub six_pairs : added_from 6 0 [] ≡ slot_range 0 9 ∷ slot_range 10 11 ∷ []
six_pairs = refl

-- the widths are 62 and 4
pub thirty_three_pairs : added_from 33 0 [] ≡ slot_range 0 61 ∷ slot_range 62 65 ∷ []
thirty_three_pairs = refl

-- of the widths 20, 2 and 2 the last two are joined, of 10, 2 and 2 all three, and of 10 and 2 none
pub the_tail_of_three : tail_count (slot_range 0 19 ∷ slot_range 20 21 ∷ slot_range 22 23 ∷ []) ≡ 2
the_tail_of_three = refl

pub the_whole_tail : tail_count (slot_range 0 9 ∷ slot_range 10 11 ∷ slot_range 12 13 ∷ []) ≡ 3
the_whole_tail = refl

pub the_tail_of_two : tail_count (slot_range 0 9 ∷ slot_range 10 11 ∷ []) ≡ 1
the_tail_of_two = refl

pub the_tail_of_one : tail_count (slot_range 0 1 ∷ []) ≡ 1
the_tail_of_one = refl

pub a_merge_leaves_one : slots_after_merge three_slots (two_files.files) ≡ slot_range 0 17 ∷ []
a_merge_leaves_one = refl

pub a_merge_without_files_leaves_none : slots_after_merge three_slots [] ≡ []
a_merge_without_files_leaves_none = refl

pub an_image_opens_as_one : slots_after_open second_file_alone.files ≡ slot_range 8 9 ∷ []
an_image_opens_as_one = refl
