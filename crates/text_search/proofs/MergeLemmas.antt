-- A merge of the lists of all nodes makes as many look-ups over the named words as over the whole text.
use Rattle.std.proofs.Common.{◌≡◌, ℕ, ◌+◌, ◌*◌, true, List, length, refl, ap, ◌∙◌}
use Rattle.gcl_model.specs.Forms.{Form, Forms, term, phrase, width, both, one, seq, containing, contained_in, not_containing, not_contained_in, no_forms, more_forms, forms_count}
use Rattle.gcl_model.specs.Meaning.{concordance}
use Rattle.gcl_model.specs.Cost.{fewest_places}
use Rattle.gcl_model.specs.Texts.{Text}
use Rattle.gcl_model.proofs.Lists.{all_left, all_right}
use Rattle.gcl_readers.specs.MergeCost.{merge_cost, merge_costs}
use Rattle.text_search.specs.Laws.{NamesDecideTheMergeCost}
use Rattle.text_search.specs.Names.{names_of, names_in, is_named, named_text}
use Rattle.text_search.proofs.NameLemmas.{AreNamed, all_named, fewest_named, same_list}

same_sum : (a b c d : ℕ) → a ≡ b → c ≡ d → a + c ≡ b + d
same_sum a b c d e f = ap (λ n. n + c) e ∙ ap (λ n. b + n) f

mutual
  same_merge : (names : List (List ℕ)) (text : Text) (most : ℕ) (form : Form) → AreNamed names (names_of form) → merge_cost (named_text names text) most form ≡ merge_cost text most form
  same_merge names text most (term token) h = ap (λ list. (length list + 1) * most) (same_list names text (term token) h)
  same_merge names text most (phrase tokens) h =
      ap (λ n. (n + length (concordance (named_text names text) (phrase tokens)) + 1) * (length tokens * most)) (fewest_named names text.words tokens h)
      ∙ ap (λ list. (fewest_places text.words tokens + length list + 1) * (length tokens * most)) (same_list names text (phrase tokens) h)
  same_merge names text most (width n) h = refl
  same_merge names text most (both forms) h =
      ap (λ list. (length list + 1) * (forms_count forms * (2 * most)) + merge_costs (named_text names text) most forms) (same_list names text (both forms) h)
      ∙ ap (λ n. (length (concordance text (both forms)) + 1) * (forms_count forms * (2 * most)) + n) (same_merges names text most forms h)
  same_merge names text most (one forms) h = same_merges names text most forms h
  same_merge names text most (seq forms) h =
      ap (λ list. (length list + 1) * (forms_count forms * (2 * most)) + merge_costs (named_text names text) most forms) (same_list names text (seq forms) h)
      ∙ ap (λ n. (length (concordance text (seq forms)) + 1) * (forms_count forms * (2 * most)) + n) (same_merges names text most forms h)
  same_merge names text most (containing a b) h = same_sum _ _ _ _ (same_merge names text most a (all_left (λ token. is_named names token ≡ true) (names_of a) (names_of b) h)) (same_merge names text most b (all_right (λ token. is_named names token ≡ true) (names_of a) (names_of b) h))
  same_merge names text most (contained_in a b) h = same_sum _ _ _ _ (same_merge names text most a (all_left (λ token. is_named names token ≡ true) (names_of a) (names_of b) h)) (same_merge names text most b (all_right (λ token. is_named names token ≡ true) (names_of a) (names_of b) h))
  same_merge names text most (not_containing a b) h = same_sum _ _ _ _ (same_merge names text most a (all_left (λ token. is_named names token ≡ true) (names_of a) (names_of b) h)) (same_merge names text most b (all_right (λ token. is_named names token ≡ true) (names_of a) (names_of b) h))
  same_merge names text most (not_contained_in a b) h = same_sum _ _ _ _ (same_merge names text most a (all_left (λ token. is_named names token ≡ true) (names_of a) (names_of b) h)) (same_merge names text most b (all_right (λ token. is_named names token ≡ true) (names_of a) (names_of b) h))

  same_merges : (names : List (List ℕ)) (text : Text) (most : ℕ) (forms : Forms) → AreNamed names (names_in forms) → merge_costs (named_text names text) most forms ≡ merge_costs text most forms
  same_merges names text most no_forms h = refl
  same_merges names text most (more_forms form forms) h =
      ap (λ n. n + merge_costs (named_text names text) most forms) (same_merge names text most form (all_left (λ token. is_named names token ≡ true) (names_of form) (names_in forms) h))
      ∙ ap (λ n. merge_cost text most form + n) (same_merges names text most forms (all_right (λ token. is_named names token ≡ true) (names_of form) (names_in forms) h))

pub names_decide_the_merge_cost : NamesDecideTheMergeCost
names_decide_the_merge_cost text most form = same_merge (names_of form) text most form (all_named (names_of form))
