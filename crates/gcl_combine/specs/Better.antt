-- Which of two answers "one of" takes, and which of many.
use Rattle.std.specs.Prelude.{◌≡◌, ◌<◌, ◌≤◌, ◌⊎◌, ℕ, nat_lt, List, map, Option, Some, None, IfSome, if◌then◌else◌}
use Rattle.std.specs.List.{fold}
use Rattle.gcl_model.specs.Extents.{Extent}
use Rattle.gcl_model.specs.Access.{first_start, last_end}

-- c is one of the two answers: (1, 4) is among (1, 4) and none
abbrev pub IsAmong : Option Extent → Option Extent → Extent → Type 0
IsAmong a b c = (a ≡ Some c) ⊎ (b ≡ Some c)

-- c ends before a, or with it and starts no earlier: (2, 4) ends first compared with (1, 4), and (2, 3) compared with both
abbrev pub EndsFirst : Extent → Extent → Type 0
EndsFirst c a = (c.end < a.end) ⊎ ((c.end ≡ a.end) × (a.start ≤ c.start))

-- c starts after a, or with it and ends no later: (1, 4) starts last compared with (1, 6), and (2, 9) compared with both
abbrev pub StartsLast : Extent → Extent → Type 0
StartsLast c a = (a.start < c.start) ⊎ ((c.start ≡ a.start) × (c.end ≤ a.end))

-- c ends first compared with each answer that there is: (2, 4) compared with (1, 4) and none
abbrev pub IsFirstToEnd : Option Extent → Option Extent → Extent → Type 0
IsFirstToEnd a b c = IfSome a (EndsFirst c) × IfSome b (EndsFirst c)

-- c starts last compared with each answer that there is: (1, 4) compared with (1, 6) and none
abbrev pub IsLastToStart : Option Extent → Option Extent → Extent → Type 0
IsLastToStart a b c = IfSome a (StartsLast c) × IfSome b (StartsLast c)

-- the answer of least end, and of greatest start among these; none only if both are none: of (1, 4) and (2, 4) it is (2, 4)
abbrev pub nearer : Option Extent → Option Extent → Option Extent
nearer None p = p
nearer (Some a) None = Some a
nearer (Some a) (Some b) = if nat_lt a.end b.end then Some a else (if nat_lt b.end a.end then Some b else (if nat_lt a.start b.start then Some b else Some a))

-- the answer of greatest start, and of least end among these; none only if both are none: of (1, 6) and (1, 4) it is (1, 4)
abbrev pub nearer_back : Option Extent → Option Extent → Option Extent
nearer_back None p = p
nearer_back (Some a) None = Some a
nearer_back (Some a) (Some b) = if nat_lt b.start a.start then Some a else (if nat_lt a.start b.start then Some b else (if nat_lt b.end a.end then Some b else Some a))

-- the nearest of an answer and of the lists' first members at or after k: of none, (2, 5) and (3, 4) it is (3, 4)
abbrev pub best_forward : List (List Extent) → ℕ → Option Extent → Option Extent
best_forward lists k answer = fold nearer answer (map (λ list. first_start list k) lists)

-- the nearest of an answer and of the lists' last members up to k: of none, (2, 5) and (3, 4) it is (3, 4)
abbrev pub best_backward : List (List Extent) → ℕ → Option Extent → Option Extent
best_backward lists k answer = fold nearer_back answer (map (λ list. last_end list k) lists)
