-- An expression in which each prefix term is replaced by the words that it stands for.
use Rattle.std.specs.Prelude.{ℕ, zero, suc, ◌+◌, ◌/◌, Bool, false, nat_le, ◌||◌, List, [], ◌∷◌, length, map, take, drop, if◌then◌else◌}
use Rattle.gcl_model.specs.Texts.{Text}
use Rattle.gcl_model.specs.Forms.{Form, Forms, term, phrase, width, both, one, seq, containing, contained_in, not_containing, not_contained_in, no_forms, more_forms}
use Rattle.gcl_model.specs.FormOf.{forms_from}
use Rattle.gcl_model.specs.Wide.{is_prefix_term, prefix_of}
use Rattle.wide_terms.specs.Vocabulary.{matching_words}

-- the most words in one node
abbrev pub node_words : ℕ
node_words = 8

-- one of the words: up to 8 of them in one node; more words are one of two halves, each built the same way with one level less
abbrev pub tree_of_words : ℕ → List (List ℕ) → Form
tree_of_words zero words = one (forms_from (map term words))
tree_of_words (suc levels) words =
    if nat_le (length words) node_words
    then one (forms_from (map term words))
    else one (more_forms (tree_of_words levels (take (length words / 2) words)) (more_forms (tree_of_words levels (drop (length words / 2) words)) no_forms))

-- one of the words as a tree, whose levels are always enough; the word alone if there is one; the prefix term as it is if there is none
abbrev pub one_of_words : List ℕ → List (List ℕ) → Form
one_of_words token [] = term token
one_of_words token (word ∷ []) = term word
one_of_words token (word ∷ next ∷ words) = tree_of_words (length (word ∷ next ∷ words) / node_words) (word ∷ next ∷ words)

abbrev mutual
  -- each prefix term becomes one of the words of the text that begin with its prefix: over `to be or not to be`, `o*` becomes `or`
  pub expansion : Text → Form → Form
  expansion text (term token) = if is_prefix_term token then one_of_words token (matching_words text.words (prefix_of token)) else term token
  expansion text (phrase tokens) = phrase tokens
  expansion text (width n) = width n
  expansion text (both forms) = both (expansions text forms)
  expansion text (one forms) = one (expansions text forms)
  expansion text (seq forms) = seq (expansions text forms)
  expansion text (containing a b) = containing (expansion text a) (expansion text b)
  expansion text (contained_in a b) = contained_in (expansion text a) (expansion text b)
  expansion text (not_containing a b) = not_containing (expansion text a) (expansion text b)
  expansion text (not_contained_in a b) = not_contained_in (expansion text a) (expansion text b)

  pub expansions : Text → Forms → Forms
  expansions text no_forms = no_forms
  expansions text (more_forms form forms) = more_forms (expansion text form) (expansions text forms)

abbrev mutual
  -- whether some term of the expression is a prefix term
  pub has_prefix_term : Form → Bool
  has_prefix_term (term token) = is_prefix_term token
  has_prefix_term (phrase tokens) = false
  has_prefix_term (width n) = false
  has_prefix_term (both forms) = any_has_prefix_term forms
  has_prefix_term (one forms) = any_has_prefix_term forms
  has_prefix_term (seq forms) = any_has_prefix_term forms
  has_prefix_term (containing a b) = has_prefix_term a || has_prefix_term b
  has_prefix_term (contained_in a b) = has_prefix_term a || has_prefix_term b
  has_prefix_term (not_containing a b) = has_prefix_term a || has_prefix_term b
  has_prefix_term (not_contained_in a b) = has_prefix_term a || has_prefix_term b

  pub any_has_prefix_term : Forms → Bool
  any_has_prefix_term no_forms = false
  any_has_prefix_term (more_forms form forms) = has_prefix_term form || any_has_prefix_term forms

abbrev mutual
  -- the sum of what each prefix of the expression costs
  pub sum_of_prefixes : (List ℕ → ℕ) → Form → ℕ
  sum_of_prefixes of_prefix (term token) = if is_prefix_term token then of_prefix (prefix_of token) else 0
  sum_of_prefixes of_prefix (phrase tokens) = 0
  sum_of_prefixes of_prefix (width n) = 0
  sum_of_prefixes of_prefix (both forms) = sums_of_prefixes of_prefix forms
  sum_of_prefixes of_prefix (one forms) = sums_of_prefixes of_prefix forms
  sum_of_prefixes of_prefix (seq forms) = sums_of_prefixes of_prefix forms
  sum_of_prefixes of_prefix (containing a b) = sum_of_prefixes of_prefix a + sum_of_prefixes of_prefix b
  sum_of_prefixes of_prefix (contained_in a b) = sum_of_prefixes of_prefix a + sum_of_prefixes of_prefix b
  sum_of_prefixes of_prefix (not_containing a b) = sum_of_prefixes of_prefix a + sum_of_prefixes of_prefix b
  sum_of_prefixes of_prefix (not_contained_in a b) = sum_of_prefixes of_prefix a + sum_of_prefixes of_prefix b

  pub sums_of_prefixes : (List ℕ → ℕ) → Forms → ℕ
  sums_of_prefixes of_prefix no_forms = 0
  sums_of_prefixes of_prefix (more_forms form forms) = sum_of_prefixes of_prefix form + sums_of_prefixes of_prefix forms
