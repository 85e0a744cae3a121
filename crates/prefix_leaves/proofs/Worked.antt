-- Worked examples of names, computed.
use Rattle.std.specs.Prelude.{◌≡◌, ℕ, List, true, false, [], ◌∷◌, map, refl, codes}
use Rattle.gcl_model.specs.Extents.{extent}
use Rattle.gcl_model.specs.Forms.{Form, term, phrase, both, no_forms, more_forms}
use Rattle.gcl_model.specs.Meaning.{concordance}
use Rattle.gcl_model.specs.Texts.{Text, Word}
use Rattle.gcl_model.specs.Wide.{wide}
use Rattle.prefix_leaves.specs.Renaming.{name_among, renamed, is_apart, are_alone}

abbrev word : ℕ → List ℕ → Word
word p token = record { address = p; token = token }

-- `to be or not to be`, starting at address 1
abbrev hamlet : Text
hamlet = record {
  first = 1;
  next = 7;
  words = word 1 (codes "to") ∷ word 2 (codes "be") ∷ word 3 (codes "or") ∷ word 4 (codes "not") ∷ word 5 (codes "to") ∷ word 6 (codes "be") ∷ [];
}

abbrev t_or_b : List (List ℕ)
t_or_b = codes "t*" ∷ codes "b*" ∷ []

abbrev both_of : List ℕ → List ℕ → Form
both_of a b = both (more_forms (term a) (more_forms (term b) no_forms))

pub a_word_has_the_name_of_its_prefix : map (λ w. w.token) (renamed t_or_b hamlet).words ≡ codes "t*" ∷ codes "b*" ∷ codes "or" ∷ codes "not" ∷ codes "t*" ∷ codes "b*" ∷ []
a_word_has_the_name_of_its_prefix = refl

pub the_first_prefix_counts : name_among (codes "t*" ∷ codes "to*" ∷ []) (codes "tomb") ≡ codes "t*"
the_first_prefix_counts = refl

pub no_word_has_two_names : is_apart t_or_b (both_of (codes "t*") (codes "or")) ≡ true
no_word_has_two_names = refl

pub a_word_of_a_prefix_is_not_apart : is_apart t_or_b (both_of (codes "t*") (codes "tea")) ≡ false
a_word_of_a_prefix_is_not_apart = refl

pub nor_is_one_in_a_phrase : is_apart t_or_b (phrase (codes "not" ∷ codes "to" ∷ [])) ≡ false
nor_is_one_in_a_phrase = refl

pub a_prefix_that_is_not_listed_is_not_apart : is_apart t_or_b (term (codes "n*")) ≡ false
a_prefix_that_is_not_listed_is_not_apart = refl

pub overlapping_prefixes_are_not_alone : are_alone (codes "t*" ∷ codes "to*" ∷ []) ≡ false
overlapping_prefixes_are_not_alone = refl

pub one_list_over_names : concordance (renamed t_or_b hamlet) (both_of (codes "t*") (codes "or")) ≡ extent 1 3 ∷ extent 3 5 ∷ []
one_list_over_names = refl

pub and_the_wide_list : wide hamlet (both_of (codes "t*") (codes "or")) ≡ extent 1 3 ∷ extent 3 5 ∷ []
and_the_wide_list = refl
