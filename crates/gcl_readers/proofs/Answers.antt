-- Readers that answer as the whole lists do, and how long they go on doing so.
use Rattle.std.proofs.Common.{◌≡◌, ℕ, ◌<◌, ◌≤◌, List, [], ◌∷◌, Option, Some, None, sym, ◌∙◌, arith, le_refl}
use Rattle.gcl_model.specs.Extents.{Extent, IsRising}
use Rattle.gcl_model.specs.Access.{first_start, first_end}
use Rattle.gcl_contain.proofs.Accesses.{found_first, none_from}
use Rattle.gcl_eval.specs.Members.{members_from}
use Rattle.gcl_readers.specs.Fronts.{start_or_end}
use Rattle.gcl_readers.specs.Agreement.{AnswersFrom, AnswersByEnds, AllAnswerFrom, AllAnswerOrEnd, AllAnswerInOrder}
use Rattle.gcl_readers.proofs.Members.{agrees, agrees_by_ends}

-- at or after a later address
pub answers_later : (list : List Extent) (x k l : ℕ) → k ≤ l → AnswersFrom list x k → AnswersFrom list x l
answers_later list x k l le answers = λ j from. answers j (omega arith)

pub answers_by_ends_later : (list : List Extent) (x k l : ℕ) → k ≤ l → AnswersByEnds list x k → AnswersByEnds list x l
answers_by_ends_later list x k l le answers = λ j from. answers j (omega arith)

pub all_answer_later : (lists : List (List Extent)) (xs : List ℕ) (k l : ℕ) → k ≤ l → AllAnswerFrom lists xs k → AllAnswerFrom lists xs l
all_answer_later [] xs k l le all = tt
all_answer_later (list ∷ lists) [] k l le all = all
all_answer_later (list ∷ lists) (x ∷ xs) k l le all = (answers_later list x k l le all.0, all_answer_later lists xs k l le all.1)

pub all_answer_or_end_later : (lists : List (List Extent)) (xs : List ℕ) (k l v : ℕ) → k ≤ l → AllAnswerOrEnd lists xs k v → AllAnswerOrEnd lists xs l v
all_answer_or_end_later [] xs k l v le all = tt
all_answer_or_end_later (list ∷ lists) [] k l v le all = all
all_answer_or_end_later (list ∷ lists) (x ∷ xs) k l v le all = (λ j from. all.0 j (omega arith), all_answer_or_end_later lists xs k l v le all.1)

pub in_order_later : (lists : List (List Extent)) (xs : List ℕ) (k l : ℕ) → k ≤ l → AllAnswerInOrder lists xs k → AllAnswerInOrder lists xs l
in_order_later [] xs k l le all = tt
in_order_later (list ∷ lists) [] k l le all = all
in_order_later (list ∷ lists) (x ∷ xs) k l le all = (answers_later list x k l le all.0, λ j from. all.1 j (omega arith))

-- a reader that went no further than its answer
pub moved_answers : (list : List Extent) → IsRising list → (x y k : ℕ) → AnswersFrom list x k → (o : Option Extent) → first_start (members_from list x) k ≡ o → y ≤ start_or_end o → AnswersFrom list y k
moved_answers list r x y k answers None is le = λ j from. agrees list y j (λ c m far. absurd (let lt : c.start < k = none_from (λ a. a.start) list k (sym (answers k (le_refl k)) ∙ is) c m in omega arith))
moved_answers list r x y k answers (Some a) is le = λ j from.
    agrees list y j (λ c m far. let on = ((found_first (λ d. d.start) list r k a (sym (answers k (le_refl k)) ∙ is)).first c m (omega arith)).0 in omega arith)

pub moved_answers_by_ends : (list : List Extent) → IsRising list → (x y k : ℕ) → AnswersByEnds list x k → (o : Option Extent) → first_end (members_from list x) k ≡ o → y ≤ start_or_end o → AnswersByEnds list y k
moved_answers_by_ends list r x y k answers None is le = λ j from. agrees_by_ends list y j (λ c m far. absurd (let lt : c.end < k = none_from (λ a. a.end) list k (sym (answers k (le_refl k)) ∙ is) c m in omega arith))
moved_answers_by_ends list r x y k answers (Some a) is le = λ j from.
    agrees_by_ends list y j (λ c m far. let on = ((found_first (λ d. d.end) list r k a (sym (answers k (le_refl k)) ∙ is)).first c m (omega arith)).0 in omega arith)

-- at or after an address, a reader that went no further than to that address
pub answers_behind : (list : List Extent) (y : ℕ) (k : ℕ) → y ≤ k → AnswersFrom list y k
answers_behind list y k le = λ j from. agrees list y j (λ c m far. omega arith)
