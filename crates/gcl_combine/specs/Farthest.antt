-- How far "both of" goes: to the greatest end among its operands' answers, or back to the least start.
use Rattle.std.specs.Prelude.{ℕ, List, [], ◌∷◌, map, Option, Some, min, max}
use Rattle.std.specs.List.{reduce}
use Rattle.std.specs.Option.{option_map, option_and_then}
use Rattle.gcl_model.specs.Extents.{Extent}
use Rattle.gcl_model.specs.Access.{first_start, last_end}

-- the answer of each list, and none if a list has no answer: of (2, 5) and none there is none
abbrev pub all_answers : (List Extent → Option Extent) → List (List Extent) → Option (List Extent)
all_answers access [] = Some []
all_answers access (list ∷ lists) = option_and_then (λ a. option_map (λ answers. a ∷ answers) (all_answers access lists)) (access list)

-- the greatest end among the lists' first members at or after k, and none if a list has no such member: of (2, 5) and (3, 4) it is 5
abbrev pub greatest_end : List (List Extent) → ℕ → Option ℕ
greatest_end lists k = option_and_then (λ answers. reduce max (map (λ a. a.end) answers)) (all_answers (λ list. first_start list k) lists)

-- the least start among the lists' last members up to k, and none if a list has no such member: of (2, 5) and (3, 4) it is 2
abbrev pub least_start : List (List Extent) → ℕ → Option ℕ
least_start lists k = option_and_then (λ answers. reduce min (map (λ a. a.start) answers)) (all_answers (λ list. last_end list k) lists)

-- the same list by list, as in a loop: the greatest of the end so far and the answers' ends; of 7 so far, (2, 5) and (3, 9) it is 9
abbrev pub end_so_far : List (List Extent) → ℕ → ℕ → Option ℕ
end_so_far [] k so_far = Some so_far
end_so_far (list ∷ lists) k so_far = option_and_then (λ a. end_so_far lists k (max so_far a.end)) (first_start list k)

-- and the least of the start so far and the answers' starts: of 2 so far, (3, 5) and (1, 4) it is 1
abbrev pub start_so_far : List (List Extent) → ℕ → ℕ → Option ℕ
start_so_far [] k so_far = Some so_far
start_so_far (list ∷ lists) k so_far = option_and_then (λ a. start_so_far lists k (min so_far a.start)) (last_end list k)
