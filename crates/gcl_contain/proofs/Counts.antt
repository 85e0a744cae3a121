-- How many turns a loop takes: each that goes on uses up another member of either list.
use Rattle.std.proofs.Common.{◌≡◌, ℕ, ◌+◌, ◌<◌, ◌≤◌, Bool, true, false, cond, leb, ltb, min, List, [], ◌∷◌, length, Option, Some, None, inl, inr, refl, sym, subst, arith}
use Rattle.std.proofs.lemmas.Bool.{true≢false, leb-true, lt-ltb, le-ltb, ltb-true}
use Rattle.gcl_model.specs.Extents.{Extent}
use Rattle.gcl_model.specs.Access.{first_start, first_end, last_end, last_start}
use Rattle.gcl_model.proofs.Covers.{Has, find_gives, find_last_gives}
use Rattle.gcl_contain.specs.Moves.{go_to, containing_move, contained_in_move, not_containing_move, not_contained_in_move, containing_move_back, contained_in_move_back, not_containing_move_back, not_contained_in_move_back}
use Rattle.gcl_contain.proofs.Advance.{containing_goes, contained_in_goes, not_containing_goes, not_contained_in_goes, containing_back_goes, contained_in_back_goes, not_containing_back_goes, not_contained_in_back_goes}

-- how many members pass the test
abbrev pub count_of : (Extent → Bool) → List Extent → ℕ
count_of test [] = 0
count_of test (x ∷ xs) = cond (test x) 1 0 + count_of test xs

count_one : (s : Bool) (m n : ℕ) → m ≤ n → cond s 1 0 + m ≤ n + 1
count_one true m n le = omega arith
count_one false m n le = omega arith

pub count_of_le : (test : Extent → Bool) (list : List Extent) → count_of test list ≤ length list
count_of_le test [] = omega arith
count_of_le test (x ∷ xs) = omega (arith, count_one (test x) (count_of test xs) (length xs) (count_of_le test xs))

count_step : (s t : Bool) (m n : ℕ) → (s ≡ true → t ≡ true) → m ≤ n → cond s 1 0 + m ≤ cond t 1 0 + n
count_step true true m n h le = omega arith
count_step true false m n h le = absurd (true≢false (sym (h refl)))
count_step false true m n h le = omega arith
count_step false false m n h le = omega arith

count_le : (p q : Extent → Bool) → ((x : Extent) → p x ≡ true → q x ≡ true) → (list : List Extent) → count_of p list ≤ count_of q list
count_le p q h [] = omega arith
count_le p q h (x ∷ xs) = count_step (p x) (q x) (count_of p xs) (count_of q xs) (h x) (count_le p q h xs)

count_more : (p q : Extent → Bool) → ((x : Extent) → p x ≡ true → q x ≡ true) → (list : List Extent) (a : Extent) → Has list a → p a ≡ false → q a ≡ true → count_of p list + 1 ≤ count_of q list
count_more p q h [] a m f t = absurd m
count_more p q h (x ∷ xs) a (inl e) f t =
    let le : count_of p xs ≤ count_of q xs = count_le p q h xs in
    rw (subst (λ y. p y ≡ false) (sym e) f, subst (λ y. q y ≡ true) (sym e) t) (omega arith)
count_more p q h (x ∷ xs) a (inr m) f t =
    let le : count_of p xs + 1 ≤ count_of q xs = count_more p q h xs a m f t in
    let step : cond (p x) 1 0 + (count_of p xs + 1) ≤ cond (q x) 1 0 + count_of q xs = count_step (p x) (q x) (count_of p xs + 1) (count_of q xs) (h x) le in
    omega arith

-- how many turns brought the loop to k: the lesser number of members that lie before it; if the turn goes to the
-- place of b itself, and not after it, b counts as one before it (slack 1)
abbrev pub turns_forward : (Extent → ℕ) → ℕ → List Extent → List Extent → ℕ → ℕ
turns_forward place slack members others k = min (count_of (λ c. ltb (place c) k) members) (count_of (λ d. ltb (place d) (k + slack)) others)

abbrev pub turns_backward : (Extent → ℕ) → ℕ → List Extent → List Extent → ℕ → ℕ
turns_backward place slack members others k = min (count_of (λ c. ltb k (place c)) members) (count_of (λ d. ltb k (place d + slack)) others)

pub turns_forward_le : (place : Extent → ℕ) (slack : ℕ) (members others : List Extent) (k : ℕ) → turns_forward place slack members others k ≤ min (length members) (length others)
turns_forward_le place slack members others k = omega (arith, count_of_le (λ (c : Extent). ltb (place c) k) members, count_of_le (λ (d : Extent). ltb (place d) (k + slack)) others)

pub turns_backward_le : (place : Extent → ℕ) (slack : ℕ) (members others : List Extent) (k : ℕ) → turns_backward place slack members others k ≤ min (length members) (length others)
turns_backward_le place slack members others k = omega (arith, count_of_le (λ (c : Extent). ltb k (place c)) members, count_of_le (λ (d : Extent). ltb k (place d + slack)) others)

-- a member of the other list that the turn from one address to the next uses up
pub record IsUsed (place : Extent → ℕ) (slack : ℕ) (others : List Extent) (from next : ℕ) : Type 0 where
  pub by : Extent
  pub member : Has others by
  pub far : from + slack ≤ place by
  pub near : place by < next + slack

pub record IsUsedBack (place : Extent → ℕ) (slack : ℕ) (others : List Extent) (upto next : ℕ) : Type 0 where
  pub by : Extent
  pub member : Has others by
  pub near : place by + slack ≤ upto
  pub far : next < place by + slack

pub turns_forward_rise : (place : Extent → ℕ) (slack : ℕ) (members others : List Extent) (from next : ℕ) (a : Extent) → Has members a → from ≤ place a → place a < next →
    IsUsed place slack others from next → turns_forward place slack members others from + 1 ≤ turns_forward place slack members others next
turns_forward_rise place slack members others from next a m le lt used =
    let b = used.by in
    let x : from + slack ≤ place b = used.far in
    let y : place b < next + slack = used.near in
    let first : count_of (λ (c : Extent). ltb (place c) from) members + 1 ≤ count_of (λ (c : Extent). ltb (place c) next) members =
    count_more (λ c. ltb (place c) from) (λ c. ltb (place c) next) (λ c t. let z : place c < from = ltb-true (place c) from t in lt-ltb (place c) next (omega arith)) members a m
    (le-ltb (place a) from le) (lt-ltb (place a) next lt) in
    let second : count_of (λ (d : Extent). ltb (place d) (from + slack)) others + 1 ≤ count_of (λ (d : Extent). ltb (place d) (next + slack)) others =
    count_more (λ d. ltb (place d) (from + slack)) (λ d. ltb (place d) (next + slack)) (λ d t. let z : place d < from + slack = ltb-true (place d) (from + slack) t in lt-ltb (place d) (next + slack) (omega arith)) others b used.member
    (le-ltb (place b) (from + slack) x) (lt-ltb (place b) (next + slack) y) in
    omega arith

pub turns_backward_rise : (place : Extent → ℕ) (slack : ℕ) (members others : List Extent) (upto next : ℕ) (a : Extent) → Has members a → place a ≤ upto → next < place a →
    IsUsedBack place slack others upto next → turns_backward place slack members others upto + 1 ≤ turns_backward place slack members others next
turns_backward_rise place slack members others upto next a m le lt used =
    let b = used.by in
    let x : place b + slack ≤ upto = used.near in
    let y : next < place b + slack = used.far in
    let first : count_of (λ (c : Extent). ltb upto (place c)) members + 1 ≤ count_of (λ (c : Extent). ltb next (place c)) members =
    count_more (λ c. ltb upto (place c)) (λ c. ltb next (place c)) (λ c t. let z : upto < place c = ltb-true upto (place c) t in lt-ltb next (place c) (omega arith)) members a m
    (le-ltb upto (place a) le) (lt-ltb next (place a) lt) in
    let second : count_of (λ (d : Extent). ltb upto (place d + slack)) others + 1 ≤ count_of (λ (d : Extent). ltb next (place d + slack)) others =
    count_more (λ d. ltb upto (place d + slack)) (λ d. ltb next (place d + slack)) (λ d t. let z : upto < place d + slack = ltb-true upto (place d + slack) t in lt-ltb next (place d + slack) (omega arith)) others b used.member
    (le-ltb upto (place b + slack) x) (lt-ltb next (place b + slack) y) in
    omega arith

-- what each kind's turn uses up, if the loop goes on
pub containing_uses : (others : List Extent) (a : Extent) (o : Option Extent) (from next : ℕ) → o ≡ first_start others a.start → from ≤ a.end → go_to next ≡ containing_move a o → IsUsed (λ d. d.end) 1 others from next
containing_uses others a None from next asked le is = absurd cc
containing_uses others a (Some b) from next asked le is =
    let g = containing_goes a b next (sym is) in let g0 = g.0 in let g1 = g.1 in
    record { by = b; member = (find_gives (λ d. leb a.start d.start) others b (sym asked)).0; far = omega arith; near = omega arith }

pub contained_in_uses : (others : List Extent) (a : Extent) (o : Option Extent) (from next : ℕ) → o ≡ first_end others a.end → from ≤ a.start → go_to next ≡ contained_in_move a o → IsUsed (λ d. d.start) 1 others from next
contained_in_uses others a None from next asked le is = absurd cc
contained_in_uses others a (Some b) from next asked le is =
    let g = contained_in_goes a b next (sym is) in let g0 = g.0 in let g1 = g.1 in
    record { by = b; member = (find_gives (λ d. leb a.end d.end) others b (sym asked)).0; far = omega arith; near = omega arith }

pub not_containing_uses : (others : List Extent) (a : Extent) (o : Option Extent) (from next : ℕ) → o ≡ first_start others a.start → from ≤ a.start → go_to next ≡ not_containing_move a o → IsUsed (λ d. d.start) 0 others from next
not_containing_uses others a None from next asked le is = absurd cc
not_containing_uses others a (Some b) from next asked le is =
    let g1 = (not_containing_goes a b next (sym is)).1 in
    let x = find_gives (λ d. leb a.start d.start) others b (sym asked) in
    let y : a.start ≤ b.start = leb-true a.start b.start x.1 in
    record { by = b; member = x.0; far = omega arith; near = omega arith }

pub not_contained_in_uses : (others : List Extent) (a : Extent) (o : Option Extent) (from next : ℕ) → o ≡ first_end others a.end → from ≤ a.end → go_to next ≡ not_contained_in_move a o → IsUsed (λ d. d.end) 0 others from next
not_contained_in_uses others a None from next asked le is = absurd cc
not_contained_in_uses others a (Some b) from next asked le is =
    let g1 = (not_contained_in_goes a b next (sym is)).1 in
    let x = find_gives (λ d. leb a.end d.end) others b (sym asked) in
    let y : a.end ≤ b.end = leb-true a.end b.end x.1 in
    record { by = b; member = x.0; far = omega arith; near = omega arith }

pub containing_back_uses : (others : List Extent) (a : Extent) (o : Option Extent) (upto next : ℕ) → o ≡ last_end others a.end → a.start ≤ upto → go_to next ≡ containing_move_back a o → IsUsedBack (λ d. d.start) 1 others upto next
containing_back_uses others a None upto next asked le is = absurd cc
containing_back_uses others a (Some b) upto next asked le is =
    let g = containing_back_goes a b next (sym is) in let g0 = g.0 in let g1 = g.1 in
    record { by = b; member = (find_last_gives (λ d. leb d.end a.end) others b (sym asked)).0; near = omega arith; far = omega arith }

pub contained_in_back_uses : (others : List Extent) (a : Extent) (o : Option Extent) (upto next : ℕ) → o ≡ last_start others a.start → a.end ≤ upto → go_to next ≡ contained_in_move_back a o → IsUsedBack (λ d. d.end) 1 others upto next
contained_in_back_uses others a None upto next asked le is = absurd cc
contained_in_back_uses others a (Some b) upto next asked le is =
    let g = contained_in_back_goes a b next (sym is) in let g0 = g.0 in let g1 = g.1 in
    record { by = b; member = (find_last_gives (λ d. leb d.start a.start) others b (sym asked)).0; near = omega arith; far = omega arith }

pub not_containing_back_uses : (others : List Extent) (a : Extent) (o : Option Extent) (upto next : ℕ) → o ≡ last_end others a.end → a.end ≤ upto → go_to next ≡ not_containing_move_back a o → IsUsedBack (λ d. d.end) 0 others upto next
not_containing_back_uses others a None upto next asked le is = absurd cc
not_containing_back_uses others a (Some b) upto next asked le is =
    let g1 = (not_containing_back_goes a b next (sym is)).1 in
    let x = find_last_gives (λ d. leb d.end a.end) others b (sym asked) in
    let y : b.end ≤ a.end = leb-true b.end a.end x.1 in
    record { by = b; member = x.0; near = omega arith; far = omega arith }

pub not_contained_in_back_uses : (others : List Extent) (a : Extent) (o : Option Extent) (upto next : ℕ) → o ≡ last_start others a.start → a.start ≤ upto → go_to next ≡ not_contained_in_move_back a o → IsUsedBack (λ d. d.start) 0 others upto next
not_contained_in_back_uses others a None upto next asked le is = absurd cc
not_contained_in_back_uses others a (Some b) upto next asked le is =
    let g1 = (not_contained_in_back_goes a b next (sym is)).1 in
    let x = find_last_gives (λ d. leb d.start a.start) others b (sym asked) in
    let y : b.start ≤ a.start = leb-true b.start a.start x.1 in
    record { by = b; member = x.0; near = omega arith; far = omega arith }
