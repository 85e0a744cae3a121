-- Trees of terms: expressions of terms and of "one of" alone.
use Rattle.std.specs.Prelude.{◌≡◌, ℕ, Bool, true, false, ◌&&◌, List, [], ◌∷◌, ◌++◌, map}
use Rattle.gcl_model.specs.Texts.{Text}
use Rattle.gcl_model.specs.Forms.{Form, Forms, term, phrase, width, both, one, seq, containing, contained_in, not_containing, not_contained_in, no_forms, more_forms}
use Rattle.gcl_model.specs.FormOf.{forms_from}
use Rattle.gcl_model.specs.Meaning.{concordance}

abbrev mutual
  -- whether the expression is a term, or one of such expressions: `(to + be) + or` is, and `(to ^ be) + or` is not
  pub is_term_tree : Form → Bool
  is_term_tree (term token) = true
  is_term_tree (phrase tokens) = false
  is_term_tree (width n) = false
  is_term_tree (both forms) = false
  is_term_tree (one forms) = are_term_trees forms
  is_term_tree (seq forms) = false
  is_term_tree (containing a b) = false
  is_term_tree (contained_in a b) = false
  is_term_tree (not_containing a b) = false
  is_term_tree (not_contained_in a b) = false

  pub are_term_trees : Forms → Bool
  are_term_trees no_forms = true
  are_term_trees (more_forms form forms) = is_term_tree form && are_term_trees forms

abbrev mutual
  -- the tokens of its terms, from left to right: of `(to + be) + or` they are `to`, `be` and `or`
  pub leaf_tokens : Form → List (List ℕ)
  leaf_tokens (term token) = token ∷ []
  leaf_tokens (phrase tokens) = []
  leaf_tokens (width n) = []
  leaf_tokens (both forms) = []
  leaf_tokens (one forms) = all_leaf_tokens forms
  leaf_tokens (seq forms) = []
  leaf_tokens (containing a b) = []
  leaf_tokens (contained_in a b) = []
  leaf_tokens (not_containing a b) = []
  leaf_tokens (not_contained_in a b) = []

  pub all_leaf_tokens : Forms → List (List ℕ)
  all_leaf_tokens no_forms = []
  all_leaf_tokens (more_forms form forms) = leaf_tokens form ++ all_leaf_tokens forms

-- one of several operands, of which one is itself one of some, is one of them all
abbrev pub OneFlattens : Type 0
OneFlattens = (text : Text) (before inner behind : List Form) →
    concordance text (one (forms_from (before ++ one (forms_from inner) ∷ behind))) ≡ concordance text (one (forms_from (before ++ inner ++ behind)))

-- a tree of terms has the same list as "one of" all its terms
abbrev pub TreesFlatten : Type 0
TreesFlatten = (text : Text) (form : Form) → is_term_tree form ≡ true → concordance text form ≡ concordance text (one (forms_from (map term (leaf_tokens form))))
