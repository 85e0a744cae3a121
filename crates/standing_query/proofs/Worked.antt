-- Worked examples of changes, and of the list of watches, computed.
use Rattle.std.specs.Prelude.{◌≡◌, ℕ, List, true, false, [], ◌∷◌, ◌++◌, refl, codes}
use Rattle.gcl_locality.specs.Changed.{changed_from, changed_upto, touches}
use Rattle.gcl_model.specs.Extents.{Extent, extent}
use Rattle.gcl_model.specs.Texts.{Text, Word}
use Rattle.gcl_model.specs.Forms.{Form, term, seq, not_contained_in, no_forms, more_forms}
use Rattle.gcl_model.specs.Wide.{wide}
use Rattle.gcl_model.specs.declared.expr.Expr.{Expr}
use Rattle.standing_query.specs.declared.change.Change.TheVariants.{Went, Came}
use Rattle.standing_query.specs.Changes.{changes}
use Rattle.standing_query.specs.Watches.{watch, watch_list, has_watch, with_watch, without_watch}

-- of two lists of three members each two are the same
abbrev before : List Extent
before = extent 1 2 ∷ extent 3 5 ∷ extent 6 8 ∷ []

abbrev after : List Extent
after = extent 1 2 ∷ extent 3 4 ∷ extent 6 8 ∷ []

what_is_in_both_stays : changes before before ≡ []
what_is_in_both_stays = refl

the_earlier_end_comes_first : changes before after ≡ Came (extent 3 4) ∷ Went (extent 3 5) ∷ []
the_earlier_end_comes_first = refl

and_back : changes after before ≡ Went (extent 3 4) ∷ Came (extent 3 5) ∷ []
and_back = refl

all_came : changes [] before ≡ Came (extent 1 2) ∷ Came (extent 3 5) ∷ Came (extent 6 8) ∷ []
all_came = refl

all_went : changes before [] ≡ Went (extent 1 2) ∷ Went (extent 3 5) ∷ Went (extent 6 8) ∷ []
all_went = refl

-- those that went and those that came alternate
they_alternate : changes (extent 1 2 ∷ extent 4 5 ∷ extent 8 9 ∷ []) (extent 2 3 ∷ extent 4 5 ∷ extent 6 7 ∷ []) ≡
    Went (extent 1 2) ∷ Came (extent 2 3) ∷ Came (extent 6 7) ∷ Went (extent 8 9) ∷ []
they_alternate = refl

abbrev word : ℕ → List ℕ → Word
word p token = record { address = p; token = token }

abbrev hamlet : List Word
hamlet = word 0 (codes "<file!>") ∷ word 1 (codes "to") ∷ word 2 (codes "be") ∷ word 3 (codes "or") ∷ word 4 (codes "not")
    ∷ word 5 (codes "to") ∷ word 6 (codes "be") ∷ word 7 (codes "</file!>") ∷ []

-- `to be or not to be`
abbrev alone : Text
alone = record { first = 0; next = 8; words = hamlet }

-- and then a file with the word `x`, at 8 to 10
abbrev with_x : Text
with_x = record { first = 0; next = 11; words = hamlet ++ word 8 (codes "<file!>") ∷ word 9 (codes "x") ∷ word 10 (codes "</file!>") ∷ [] }

-- "be" /< ("to".."x")
abbrev be_outside : Form
be_outside = not_contained_in (term (codes "be")) (seq (more_forms (term (codes "to")) (more_forms (term (codes "x")) no_forms)))

-- the file brings an interval that starts at the last `to`, so the last `be` goes, far from the file's own addresses
a_member_goes : changes (wide alone be_outside) (wide with_x be_outside) ≡ Went (extent 6 6) ∷ []
a_member_goes = refl

it_is_gone_over : touches (changed_from alone with_x 8 be_outside) (changed_upto alone with_x 10 be_outside) (extent 6 6) ≡ true
it_is_gone_over = refl

the_files_own_addresses_miss_it : touches 8 10 (extent 6 6) ≡ false
the_files_own_addresses_miss_it = refl

-- numbers rise and are not given again
module _ (a b c : Expr) where
  numbers_rise : with_watch (with_watch (watch_list [] 0) a) b ≡ watch_list (watch 0 a ∷ watch 1 b ∷ []) 2
  numbers_rise = refl

  the_order_stays : without_watch (watch_list (watch 0 a ∷ watch 1 b ∷ watch 2 c ∷ []) 3) 1 ≡ watch_list (watch 0 a ∷ watch 2 c ∷ []) 3
  the_order_stays = refl

  a_number_is_not_given_again : with_watch (without_watch (watch_list (watch 0 a ∷ []) 1) 0) b ≡ watch_list (watch 1 b ∷ []) 2
  a_number_is_not_given_again = refl

  what_was_removed_is_not_there : has_watch (watch 1 b ∷ watch 2 c ∷ []) 0 ≡ false
  what_was_removed_is_not_there = refl
