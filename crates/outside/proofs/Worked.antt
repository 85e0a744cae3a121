-- Worked examples of contents by name and of counts, computed.
use Rattle.std.proofs.Common.{arith}
use Rattle.std.specs.Prelude.{◌≡◌, ℕ, ◌-◌, ◌^◌, List, [], ◌∷◌, refl, codes, Some, None}
use Rattle.outside.specs.Causes.{Rose}
use Rattle.outside.specs.Contents.{BeginsContent, changed_at, content_of, sure_content_of}

-- three entries, two of them of one name
abbrev held : List (List ℕ × List ℕ)
held = (codes "a", codes "to be") ∷ (codes "b", []) ∷ (codes "a", codes "or not") ∷ []

pub the_first_entry_counts : content_of held (codes "a") ≡ Some (codes "to be")
the_first_entry_counts = refl

pub an_empty_content_is_held : content_of held (codes "b") ≡ Some []
an_empty_content_is_held = refl

pub another_name_is_not_held : content_of held (codes "c") ≡ None
another_name_is_not_held = refl

pub a_sure_name_has_no_bytes : sure_content_of held (codes "c") ≡ Some []
a_sure_name_has_no_bytes = refl

pub a_kept_name_has_the_bytes : changed_at (codes "b") (Some (codes "not")) (content_of held) (codes "b") ≡ Some (codes "not")
a_kept_name_has_the_bytes = refl

pub each_other_name_has_what_it_had : changed_at (codes "b") (Some (codes "not")) (content_of held) (codes "a") ≡ Some (codes "to be")
each_other_name_has_what_it_had = refl

pub a_name_may_go : changed_at (codes "a") None (content_of held) (codes "a") ≡ None
a_name_may_go = refl

pub a_content_begins : BeginsContent (content_of held) (codes "a") (codes "to")
a_content_begins = record { rest = codes " be"; is = refl }

pub a_count_rose : Rose 3 4
a_count_rose = omega arith

pub a_count_at_its_end_rises_no_more : Rose (2 ^ 64 - 1) (2 ^ 64 - 1)
a_count_at_its_end_rises_no_more = omega arith
