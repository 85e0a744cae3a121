-- Rows of a phrase that repeats one word: the end of one of them shows where the next one is.
use Rattle.std.proofs.Common.{◌≡◌, ℕ, ◌+◌, ◌-◌, ◌<◌, ◌≤◌, leb, true, List, [], length, bytes_eq, Option, Some, None, IfSome, sym, ◌∙◌, subst, arith, inl, inr}
use Rattle.std.proofs.lemmas.Bool.{true≢false, cases_Bool, cases_lt, leb-true, le-leb}
use Rattle.std.proofs.lemmas.List.Folds.{list_all_at}
use Rattle.std.proofs.lemmas.Slice.Eq.{bytes_eq-Decides}
use Rattle.gcl_model.specs.Extents.{Extent, extent}
use Rattle.gcl_model.specs.Access.{first_start}
use Rattle.gcl_model.specs.Texts.{Text, IsText, next_place}
use Rattle.gcl_model.specs.Forms.{phrase}
use Rattle.gcl_model.specs.Meaning.{concordance}
use Rattle.gcl_model.proofs.Covers.{find_agree_on, find_gives}
use Rattle.gcl_model.proofs.Minimal.{same_truth}
use Rattle.phrase_walk.specs.Starts.{IsRow, is_one_word, token_at}
use Rattle.phrase_walk.proofs.Places.{Held, next_tells, none_next}
use Rattle.phrase_walk.proofs.Rows.{InRow, row_place, places_row}
use Rattle.phrase_walk.proofs.Members.{member_row, first_row, no_first_row}

-- each token is the first one
same_word : (tokens : List (List ℕ)) (i : ℕ) → is_one_word tokens ≡ true → i < length tokens → token_at tokens 0 ≡ token_at tokens i
same_word tokens i one lt =
    elim (cases_Bool (bytes_eq (token_at tokens 0) (token_at tokens i))) [
      | inl t ↦ (bytes_eq-Decides (token_at tokens 0) (token_at tokens i)).0 t
      | inr f ↦ absurd (true≢false (sym one ∙ list_all_at (bytes_eq (token_at tokens 0)) tokens i [] lt f))
    ]

module _ (text : Text) (sound : IsText text) (tokens : List (List ℕ)) (several : 2 ≤ length tokens) (one : is_one_word tokens ≡ true) (a : Extent) (is : IsRow text tokens a) where
  -- a row that starts after the start of this one, and no later than right after its end, holds the word right after that end
  behind_held : (r : ℕ) → a.start + 1 ≤ r → r ≤ a.end + 1 → InRow text tokens r → Held text (token_at tokens 0) (a.end + 1)
  behind_held r from upto row =
      let wide : a.end + 1 ≡ a.start + length tokens = is.wide in
      let lt : a.end + 1 - r < length tokens = omega arith in
      let at : r + (a.end + 1 - r) ≡ a.end + 1 = omega arith in
      subst (Held text (token_at tokens 0)) at (subst (λ t. Held text t (r + (a.end + 1 - r))) (sym (same_word tokens (a.end + 1 - r) one lt)) (row_place text tokens r (a.end + 1 - r) lt row))

  first_held : (r : ℕ) → InRow text tokens r → Held text (token_at tokens 0) r
  first_held r row = subst (Held text (token_at tokens 0)) (omega arith) (row_place text tokens r 0 (omega arith) row)

  -- so it starts no earlier than the word's next place
  from_next : (p : ℕ) → next_place text.words (token_at tokens 0) (a.end + 1) ≡ Some p → a.end + 1 < p → (r : ℕ) → a.start + 1 ≤ r → InRow text tokens r → p ≤ r
  from_next p next past r from row =
      let told = next_tells text (token_at tokens 0) sound (a.end + 1) p next in
      elim (cases_lt (a.end + 1) r) [
        | inl lt ↦ told.least r (first_held r row) (omega arith)
        | inr le ↦ let least : p ≤ a.end + 1 = told.least (a.end + 1) (behind_held r from (omega arith) row) (omega arith) in absurd (omega arith)
      ]

  shifted_place : (i : ℕ) → i < length tokens → Held text (token_at tokens 0) (a.end + 1) → Held text (token_at tokens i) (a.start + 1 + i)
  shifted_place i lt held =
      let wide : a.end + 1 ≡ a.start + length tokens = is.wide in
      subst (λ t. Held text t (a.start + 1 + i)) (same_word tokens i one lt)
      (elim (cases_lt (i + 1) (length tokens)) [
        | inl more ↦
            let at : a.start + (i + 1) ≡ a.start + 1 + i = omega arith in
            subst (Held text (token_at tokens 0)) at (subst (λ t. Held text t (a.start + (i + 1))) (sym (same_word tokens (i + 1) one more)) (row_place text tokens a.start (i + 1) more is.row))
        | inr last ↦
            let at : a.end + 1 ≡ a.start + 1 + i = omega arith in
            subst (Held text (token_at tokens 0)) at held
      ])

  -- the word is right after the row: the row goes on
  pub run_goes_on : (o : Option ℕ) (p : ℕ) → o ≡ next_place text.words (token_at tokens 0) (a.end + 1) → o ≡ Some p → p ≡ a.end + 1 → first_start (concordance text (phrase tokens)) (a.start + 1) ≡ Some (extent (a.start + 1) p)
  run_goes_on o p asked found at =
      let wide : a.end + 1 ≡ a.start + length tokens = is.wide in
      let told = next_tells text (token_at tokens 0) sound (a.end + 1) p (sym asked ∙ found) in
      let held = subst (Held text (token_at tokens 0)) at told.held in
      first_row text sound tokens (a.start + 1) (a.start + 1) p (omega arith) (omega arith) (places_row text tokens (a.start + 1) (λ i lt. shifted_place i lt held)) (omega arith) (λ r from row. from)

  -- it is further on: no row starts before it
  pub run_leaps : (o : Option ℕ) (p : ℕ) → o ≡ next_place text.words (token_at tokens 0) (a.end + 1) → o ≡ Some p → a.end + 1 < p →
      first_start (concordance text (phrase tokens)) (a.start + 1) ≡ first_start (concordance text (phrase tokens)) p
  run_leaps o p asked found past =
      find_agree_on (λ d. leb (a.start + 1) d.start) (λ d. leb p d.start) (concordance text (phrase tokens)) (λ d m.
      same_truth (leb (a.start + 1) d.start) (leb p d.start)
      (λ t. le-leb p d.start (from_next p (sym asked ∙ found) past d.start (leb-true (a.start + 1) d.start t) (member_row text tokens d m).row))
      (λ t. let le : p ≤ d.start = leb-true p d.start t in let wide : a.end + 1 ≡ a.start + length tokens = is.wide in le-leb (a.start + 1) d.start (omega arith)))

  -- it occurs nowhere after: nor does a row
  pub run_ends : (o : Option ℕ) → o ≡ next_place text.words (token_at tokens 0) (a.end + 1) → o ≡ None → first_start (concordance text (phrase tokens)) (a.start + 1) ≡ None
  run_ends o asked none =
      no_first_row text tokens (a.start + 1) (λ r from row.
      elim (cases_lt (a.end + 1) r) [
        | inl lt ↦ none_next text (token_at tokens 0) sound (a.end + 1) (sym asked ∙ none) r (first_held r row) (omega arith)
        | inr le ↦ none_next text (token_at tokens 0) sound (a.end + 1) (sym asked ∙ none) (a.end + 1) (behind_held r from (omega arith) row) (omega arith)
      ])

-- the first member after a place does not start there
pub later_start : (P : Type 0) (list : List Extent) (k s : ℕ) (o : Option Extent) → o ≡ first_start list k → s < k → IfSome o (λ next. next.start ≡ s → P)
later_start P list k s None is lt = tt
later_start P list k s (Some next) is lt = λ at.
    let from : k ≤ next.start = leb-true k next.start (find_gives (λ a. leb k a.start) list next (sym is)).1 in
    absurd (omega arith)
