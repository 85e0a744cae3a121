-- To new readers the whole cost is left.
use Rattle.std.proofs.Common.{◌≡◌, ℕ, ◌+◌, ◌*◌, ◌++◌, length, take, drop, refl, ap, ◌∙◌, arith}
use Rattle.gcl_model.specs.Texts.{Text}
use Rattle.gcl_model.specs.Forms.{Form, Forms, term, phrase, width, both, one, seq, containing, contained_in, not_containing, not_contained_in, no_forms, more_forms}
use Rattle.gcl_model.specs.Meaning.{concordance}
use Rattle.gcl_model.specs.Cost.{fewest_places}
use Rattle.gcl_eval.proofs.Listing.{all_members}
use Rattle.gcl_readers.specs.declared.front.Front.TheVariants.{Before}
use Rattle.gcl_readers.specs.Standing.{nodes}
use Rattle.gcl_readers.specs.NewPlaces.{new_places, new_places_of}
use Rattle.gcl_readers.specs.MergeCost.{member_cost, tokens_of, merge_cost, merge_costs, own_left, costs_left, cost_left}
use Rattle.gcl_readers.proofs.Standings.{take_front, drop_front}
use Rattle.gcl_readers.proofs.NewStands.{len_new}

own_new : (text : Text) (most : ℕ) (form : Form) → own_left text most form Before ≡ (fewest_places text.words (tokens_of form) + (length (concordance text form) + 1)) * member_cost text most form
own_new text most form = ap (λ l. (fewest_places text.words (tokens_of form) + (length l + 1)) * member_cost text most form) (all_members (concordance text form))

times_none : (n : ℕ) → n * 0 ≡ 0
times_none n = omega arith

two_new : (text : Text) (most : ℕ) (a b : Form) → cost_left text most a (new_places a) ≡ merge_cost text most a → cost_left text most b (new_places b) ≡ merge_cost text most b →
    cost_left text most a (take (nodes a) (new_places a ++ new_places b)) + cost_left text most b (drop (nodes a) (new_places a ++ new_places b)) ≡ merge_cost text most a + merge_cost text most b
two_new text most a b s t =
    ap (λ p. cost_left text most a p + cost_left text most b (drop (nodes a) (new_places a ++ new_places b))) (take_front (nodes a) (new_places a) (new_places b) (len_new a))
    ∙ ap (λ p. cost_left text most a (new_places a) + cost_left text most b p) (drop_front (nodes a) (new_places a) (new_places b) (len_new a))
    ∙ ap (λ n. n + cost_left text most b (new_places b)) s ∙ ap (λ n. merge_cost text most a + n) t

mutual
  pub cost_new : (text : Text) (most : ℕ) (form : Form) → cost_left text most form (new_places form) ≡ merge_cost text most form
  cost_new text most (term token) = omega (arith, own_new text most (term token))
  cost_new text most (phrase tokens) = omega (arith, own_new text most (phrase tokens))
  cost_new text most (width n) = omega (arith, own_new text most (width n), times_none (length (concordance text (width n)) + 1))
  cost_new text most (both forms) = omega (arith, own_new text most (both forms), costs_new text most forms)
  cost_new text most (one forms) = omega (arith, own_new text most (one forms), times_none (length (concordance text (one forms)) + 1), costs_new text most forms)
  cost_new text most (seq forms) = omega (arith, own_new text most (seq forms), costs_new text most forms)
  cost_new text most (containing a b) = omega (arith, own_new text most (containing a b), times_none (length (concordance text (containing a b)) + 1), two_new text most a b (cost_new text most a) (cost_new text most b))
  cost_new text most (contained_in a b) = omega (arith, own_new text most (contained_in a b), times_none (length (concordance text (contained_in a b)) + 1), two_new text most a b (cost_new text most a) (cost_new text most b))
  cost_new text most (not_containing a b) = omega (arith, own_new text most (not_containing a b), times_none (length (concordance text (not_containing a b)) + 1), two_new text most a b (cost_new text most a) (cost_new text most b))
  cost_new text most (not_contained_in a b) = omega (arith, own_new text most (not_contained_in a b), times_none (length (concordance text (not_contained_in a b)) + 1), two_new text most a b (cost_new text most a) (cost_new text most b))

  costs_new : (text : Text) (most : ℕ) (forms : Forms) → costs_left text most forms (new_places_of forms) ≡ merge_costs text most forms
  costs_new text most no_forms = refl
  costs_new text most (more_forms form forms) =
      ap (λ p. cost_left text most form p + costs_left text most forms (drop (nodes form) (new_places form ++ new_places_of forms))) (take_front (nodes form) (new_places form) (new_places_of forms) (len_new form))
      ∙ ap (λ p. cost_left text most form (new_places form) + costs_left text most forms p) (drop_front (nodes form) (new_places form) (new_places_of forms) (len_new form))
      ∙ ap (λ n. n + costs_left text most forms (new_places_of forms)) (cost_new text most form) ∙ ap (λ n. merge_cost text most form + n) (costs_new text most forms)
