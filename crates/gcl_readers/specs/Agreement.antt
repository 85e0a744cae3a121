-- How the members that are left to a reader relate to the whole list.
use Rattle.std.specs.Prelude.{◌≡◌, ℕ, ◌+◌, ◌<◌, ◌≤◌, ◌⊎◌, List, [], ◌∷◌, Option, Some, None, IfSome}
use Rattle.gcl_model.specs.Extents.{Extent}
use Rattle.gcl_model.specs.Access.{first_start, first_end, last_end}
use Rattle.gcl_eval.specs.Members.{members_from}
use Rattle.gcl_readers.specs.Fronts.{start_or_end}

-- asked at or after k, the members at or after x answer as the whole list does: of (1, 2) and (5, 6) those at or after 4 do so for k = 2
abbrev pub AnswersFrom : List Extent → (x k : ℕ) → Type 0
AnswersFrom list x k = (j : ℕ) → k ≤ j → first_start (members_from list x) j ≡ first_start list j

-- the same by ends
abbrev pub AnswersByEnds : List Extent → (x k : ℕ) → Type 0
AnswersByEnds list x k = (j : ℕ) → k ≤ j → first_end (members_from list x) j ≡ first_end list j

-- the lists' readers, each at or after its own place
abbrev pub AllAnswerFrom : List (List Extent) → List ℕ → ℕ → Type 0
AllAnswerFrom [] xs k = Unit {0}
AllAnswerFrom (list ∷ lists) [] k = ⊥
AllAnswerFrom (list ∷ lists) (x ∷ xs) k = AnswersFrom list x k × AllAnswerFrom lists xs k

-- there is an answer, and it ends before v
abbrev pub EndsBefore : Option Extent → ℕ → Type 0
EndsBefore None v = ⊥
EndsBefore (Some a) v = a.end < v

-- asked at or after k, they answer as the whole list does, or both answers end before v
abbrev pub AnswersOrEnds : List Extent → (x k v : ℕ) → Type 0
AnswersOrEnds list x k v = (j : ℕ) → k ≤ j →
    (first_start (members_from list x) j ≡ first_start list j) ⊎ (EndsBefore (first_start (members_from list x) j) v × EndsBefore (first_start list j) v)

abbrev pub AllAnswerOrEnd : List (List Extent) → List ℕ → (k v : ℕ) → Type 0
AllAnswerOrEnd [] xs k v = Unit {0}
AllAnswerOrEnd (list ∷ lists) [] k v = ⊥
AllAnswerOrEnd (list ∷ lists) (x ∷ xs) k v = AnswersOrEnds list x k v × AllAnswerOrEnd lists xs k v

-- each list is asked after the answer of the one before, starting at or after k: all answer as the whole lists do
abbrev pub AllAnswerInOrder : List (List Extent) → List ℕ → ℕ → Type 0
AllAnswerInOrder [] xs k = Unit {0}
AllAnswerInOrder (list ∷ lists) [] k = ⊥
AllAnswerInOrder (list ∷ lists) (x ∷ xs) k = AnswersFrom list x k × ((j : ℕ) → k ≤ j → IfSome (first_start list j) (λ a. AllAnswerInOrder lists xs (a.end + 1)))

-- what is left of each list
abbrev pub all_left : List (List Extent) → List ℕ → List (List Extent)
all_left [] xs = []
all_left (list ∷ lists) [] = list ∷ all_left lists []
all_left (list ∷ lists) (x ∷ xs) = members_from list x ∷ all_left lists xs

-- each list was asked at k, and its reader went no further than its answer
abbrev pub HaveMoved : List (List Extent) → (old new : List ℕ) → ℕ → Type 0
HaveMoved [] xs ys k = Unit {0}
HaveMoved (list ∷ lists) [] ys k = ⊥
HaveMoved (list ∷ lists) (x ∷ xs) [] k = ⊥
HaveMoved (list ∷ lists) (x ∷ xs) (y ∷ ys) k = (y ≤ start_or_end (first_start (members_from list x) k)) × HaveMoved lists xs ys k

-- each list was asked for its last member up to k, and its reader went no further than to that member
abbrev pub HaveMovedBack : List (List Extent) → (old new : List ℕ) → ℕ → Type 0
HaveMovedBack [] xs ys k = Unit {0}
HaveMovedBack (list ∷ lists) [] ys k = ⊥
HaveMovedBack (list ∷ lists) (x ∷ xs) [] k = ⊥
HaveMovedBack (list ∷ lists) (x ∷ xs) (y ∷ ys) k = IfSome (last_end (members_from list x) k) (λ a. y ≤ a.start) × HaveMovedBack lists xs ys k
