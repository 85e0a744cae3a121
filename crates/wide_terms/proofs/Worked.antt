-- Worked examples of vocabularies and expansions, computed.
use Rattle.std.specs.Prelude.{◌≡◌, ℕ, zero, suc, ◌+◌, List, true, false, [], ◌∷◌, length, map, refl, codes}
use Rattle.gcl_model.specs.Forms.{Form, Forms, term, phrase, both, one, not_containing, no_forms, more_forms}
use Rattle.gcl_model.specs.FormOf.{forms_from}
use Rattle.gcl_model.specs.Texts.{Text, Word}
use Rattle.wide_terms.specs.Vocabulary.{vocabulary, with_token, matching_words}
use Rattle.wide_terms.specs.Expansion.{one_of_words, expansion, has_prefix_term, sum_of_prefixes}
use Rattle.wide_terms.specs.Trees.{is_term_tree, leaf_tokens}

abbrev word : ℕ → List ℕ → Word
word p token = record { address = p; token = token }

-- `to be or not to be`, starting at address 1
abbrev hamlet : Text
hamlet = record {
  first = 1;
  next = 7;
  words = word 1 (codes "to") ∷ word 2 (codes "be") ∷ word 3 (codes "or") ∷ word 4 (codes "not") ∷ word 5 (codes "to") ∷ word 6 (codes "be") ∷ [];
}

abbrev two : Form → Form → Forms
two a b = more_forms a (more_forms b no_forms)

pub its_vocabulary : vocabulary hamlet.words ≡ codes "be" ∷ codes "not" ∷ codes "or" ∷ codes "to" ∷ []
its_vocabulary = refl

pub a_token_is_put_in_its_place : with_token (codes "not") (codes "be" ∷ codes "or" ∷ []) ≡ codes "be" ∷ codes "not" ∷ codes "or" ∷ []
a_token_is_put_in_its_place = refl

pub a_token_that_is_there_stays_one : with_token (codes "or") (codes "be" ∷ codes "or" ∷ []) ≡ codes "be" ∷ codes "or" ∷ []
a_token_that_is_there_stays_one = refl

pub each_word_once : matching_words hamlet.words [] ≡ vocabulary hamlet.words
each_word_once = refl

pub those_that_begin_with_t : matching_words hamlet.words (codes "t") ≡ codes "to" ∷ []
those_that_begin_with_t = refl

pub the_prefix_is_a_word : matching_words hamlet.words (codes "to") ≡ codes "to" ∷ []
the_prefix_is_a_word = refl

pub none_begins_with_z : matching_words hamlet.words (codes "z") ≡ []
none_begins_with_z = refl

pub one_word_takes_its_place : expansion hamlet (term (codes "t*")) ≡ term (codes "to")
one_word_takes_its_place = refl

pub without_a_word_it_stays : expansion hamlet (term (codes "z*")) ≡ term (codes "z*")
without_a_word_it_stays = refl

pub a_phrase_stays : expansion hamlet (phrase (codes "to" ∷ codes "be" ∷ [])) ≡ phrase (codes "to" ∷ codes "be" ∷ [])
a_phrase_stays = refl

pub a_prefix_among_operands : expansion hamlet (both (two (term (codes "be")) (term (codes "o*")))) ≡ both (two (term (codes "be")) (term (codes "or")))
a_prefix_among_operands = refl

pub a_prefix_is_seen : has_prefix_term (not_containing (term (codes "be")) (term (codes "o*"))) ≡ true
a_prefix_is_seen = refl

pub no_prefix_is_seen : has_prefix_term (both (two (term (codes "be")) (term (codes "or")))) ≡ false
no_prefix_is_seen = refl

pub prefixes_are_summed : sum_of_prefixes length (both (two (term (codes "be*")) (term (codes "o*")))) ≡ 3
prefixes_are_summed = refl

-- the given number of words of one letter: for 3 they are a, b and c
abbrev letters : ℕ → ℕ → List (List ℕ)
letters zero first = []
letters (suc n) first = (first ∷ []) ∷ letters n (first + 1)

abbrev flat : List (List ℕ) → Form
flat words = one (forms_from (map term words))

pub eight_words_stand_in_one_node : one_of_words (codes "a*") (letters 8 97) ≡ flat (letters 8 97)
eight_words_stand_in_one_node = refl

pub nine_words_are_halved : one_of_words (codes "a*") (letters 9 97) ≡ one (two (flat (letters 4 97)) (flat (letters 5 101)))
nine_words_are_halved = refl

abbrev seventeen : List (List ℕ)
seventeen = (97 ∷ []) ∷ (98 ∷ []) ∷ (99 ∷ []) ∷ (100 ∷ []) ∷ (101 ∷ []) ∷ (102 ∷ []) ∷ (103 ∷ []) ∷ (104 ∷ []) ∷ (105 ∷ []) ∷ (106 ∷ []) ∷ (107 ∷ []) ∷ (108 ∷ []) ∷ (109 ∷ []) ∷ (110 ∷ []) ∷ (111 ∷ []) ∷ (112 ∷ []) ∷ (113 ∷ []) ∷ []

pub of_seventeen_words_the_longer_half_is_halved_again :
    one_of_words (codes "a*") seventeen
    ≡ one (two (flat ((97 ∷ []) ∷ (98 ∷ []) ∷ (99 ∷ []) ∷ (100 ∷ []) ∷ (101 ∷ []) ∷ (102 ∷ []) ∷ (103 ∷ []) ∷ (104 ∷ []) ∷ [])) (one (two (flat ((105 ∷ []) ∷ (106 ∷ []) ∷ (107 ∷ []) ∷ (108 ∷ []) ∷ [])) (flat ((109 ∷ []) ∷ (110 ∷ []) ∷ (111 ∷ []) ∷ (112 ∷ []) ∷ (113 ∷ []) ∷ [])))))
of_seventeen_words_the_longer_half_is_halved_again = refl

pub a_term_beside_a_tree_is_one_more_leaf : leaf_tokens (one (two (one (two (term (codes "to")) (term (codes "be")))) (term (codes "or")))) ≡ codes "to" ∷ codes "be" ∷ codes "or" ∷ []
a_term_beside_a_tree_is_one_more_leaf = refl

pub with_another_operator_it_is_no_tree : is_term_tree (one (two (both (two (term (codes "to")) (term (codes "be")))) (term (codes "or")))) ≡ false
with_another_operator_it_is_no_tree = refl
