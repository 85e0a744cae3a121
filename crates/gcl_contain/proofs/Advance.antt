-- Rejecting turns advance in both lists.
use Rattle.std.proofs.Common.{◌≡◌, ℕ, zero, suc, ◌+◌, ◌<◌, ◌≤◌, leb, Some, inl, inr, sym, arith}
use Rattle.std.proofs.lemmas.Bool.{leb-true, leb-false, cases_Bool}
use Rattle.gcl_model.specs.Extents.{Extent}
use Rattle.gcl_model.proofs.Covers.{find_gives, find_last_gives}
use Rattle.gcl_model.proofs.Meanings.{contains_tells}
use Rattle.gcl_contain.specs.Moves.{go_to, containing_move, contained_in_move, not_containing_move, not_contained_in_move, containing_move_back, contained_in_move_back, not_containing_move_back, not_contained_in_move_back, before_move}
use Rattle.gcl_contain.specs.Kinds.{containing, contained_in, not_containing, not_contained_in, containing_back, contained_in_back, not_containing_back, not_contained_in_back}
use Rattle.gcl_contain.specs.Laws.{ForwardAdvances, BackwardAdvances}
use Rattle.gcl_contain.proofs.Accesses.{start_is_place, end_is_place, ahead_by_place}

-- when each move goes on, and where to
pub containing_goes : (a b : Extent) (k : ℕ) → containing_move a (Some b) ≡ go_to k → (a.end < b.end) × (k ≡ b.end)
containing_goes a b k is =
    elim (cases_Bool (leb b.end a.end)) [ inl t ↦ let h = rw t at is in absurd cc | inr f ↦ let h = rw f at is in (leb-false b.end a.end f, sym cc) ]

pub contained_in_goes : (a b : Extent) (k : ℕ) → contained_in_move a (Some b) ≡ go_to k → (a.start < b.start) × (k ≡ b.start)
contained_in_goes a b k is =
    elim (cases_Bool (leb b.start a.start)) [ inl t ↦ let h = rw t at is in absurd cc | inr f ↦ let h = rw f at is in (leb-false b.start a.start f, sym cc) ]

pub not_containing_goes : (a b : Extent) (k : ℕ) → not_containing_move a (Some b) ≡ go_to k → (b.end ≤ a.end) × (k ≡ b.start + 1)
not_containing_goes a b k is =
    elim (cases_Bool (leb b.end a.end)) [ inl t ↦ let h = rw t at is in (leb-true b.end a.end t, sym cc) | inr f ↦ let h = rw f at is in absurd cc ]

pub not_contained_in_goes : (a b : Extent) (k : ℕ) → not_contained_in_move a (Some b) ≡ go_to k → (b.start ≤ a.start) × (k ≡ b.end + 1)
not_contained_in_goes a b k is =
    elim (cases_Bool (leb b.start a.start)) [ inl t ↦ let h = rw t at is in (leb-true b.start a.start t, sym cc) | inr f ↦ let h = rw f at is in absurd cc ]

pub containing_back_goes : (a b : Extent) (k : ℕ) → containing_move_back a (Some b) ≡ go_to k → (b.start < a.start) × (k ≡ b.start)
containing_back_goes a b k is =
    elim (cases_Bool (leb a.start b.start)) [ inl t ↦ let h = rw t at is in absurd cc | inr f ↦ let h = rw f at is in (leb-false a.start b.start f, sym cc) ]

pub contained_in_back_goes : (a b : Extent) (k : ℕ) → contained_in_move_back a (Some b) ≡ go_to k → (b.end < a.end) × (k ≡ b.end)
contained_in_back_goes a b k is =
    elim (cases_Bool (leb a.end b.end)) [ inl t ↦ let h = rw t at is in absurd cc | inr f ↦ let h = rw f at is in (leb-false a.end b.end f, sym cc) ]

before_goes : (n k : ℕ) → before_move n ≡ go_to k → n ≡ k + 1
before_goes zero k is = absurd cc
before_goes (suc n) k is = let e : n ≡ k = cc in omega arith

pub not_containing_back_goes : (a b : Extent) (k : ℕ) → not_containing_move_back a (Some b) ≡ go_to k → (a.start ≤ b.start) × (b.end ≡ k + 1)
not_containing_back_goes a b k is =
    elim (cases_Bool (leb a.start b.start)) [ inl t ↦ (leb-true a.start b.start t, before_goes b.end k (rw t at is)) | inr f ↦ let h = rw f at is in absurd cc ]

pub not_contained_in_back_goes : (a b : Extent) (k : ℕ) → not_contained_in_move_back a (Some b) ≡ go_to k → (a.end ≤ b.end) × (b.start ≡ k + 1)
not_contained_in_back_goes a b k is =
    elim (cases_Bool (leb a.end b.end)) [ inl t ↦ (leb-true a.end b.end t, before_goes b.start k (rw t at is)) | inr f ↦ let h = rw f at is in absurd cc ]

pub containing_advances : ForwardAdvances containing
containing_advances members others a b next_a next_b k next_k r s m one found two =
    let n = find_gives (λ c. leb k c.end) members next_a found in
    let x = find_gives (λ d. leb a.start d.start) others b one.asked in
    let y = find_gives (λ d. leb next_a.start d.start) others next_b two.asked in
    let p = containing_goes a b k one.goes in
    let q = containing_goes next_a next_b next_k two.goes in
    let far : k ≤ next_a.end = leb-true k next_a.end n.1 in
    let p0 = p.0 in let p1 = p.1 in let q0 = q.0 in (
      ahead_by_place (λ c. c.end) end_is_place members r a next_a (contains_tells members a m) n.0 (omega arith),
      ahead_by_place (λ c. c.end) end_is_place others s b next_b x.0 y.0 (omega arith),
    )

pub contained_in_advances : ForwardAdvances contained_in
contained_in_advances members others a b next_a next_b k next_k r s m one found two =
    let n = find_gives (λ c. leb k c.start) members next_a found in
    let x = find_gives (λ d. leb a.end d.end) others b one.asked in
    let y = find_gives (λ d. leb next_a.end d.end) others next_b two.asked in
    let p = contained_in_goes a b k one.goes in
    let q = contained_in_goes next_a next_b next_k two.goes in
    let far : k ≤ next_a.start = leb-true k next_a.start n.1 in
    let p0 = p.0 in let p1 = p.1 in let q0 = q.0 in (
      ahead_by_place (λ c. c.start) start_is_place members r a next_a (contains_tells members a m) n.0 (omega arith),
      ahead_by_place (λ c. c.start) start_is_place others s b next_b x.0 y.0 (omega arith),
    )

pub not_containing_advances : ForwardAdvances not_containing
not_containing_advances members others a b next_a next_b k next_k r s m one found two =
    let n = find_gives (λ c. leb k c.start) members next_a found in
    let x = find_gives (λ d. leb a.start d.start) others b one.asked in
    let y = find_gives (λ d. leb next_a.start d.start) others next_b two.asked in
    let p1 = (not_containing_goes a b k one.goes).1 in
    let far : k ≤ next_a.start = leb-true k next_a.start n.1 in
    let x1 : a.start ≤ b.start = leb-true a.start b.start x.1 in
    let y1 : next_a.start ≤ next_b.start = leb-true next_a.start next_b.start y.1 in (
      ahead_by_place (λ c. c.start) start_is_place members r a next_a (contains_tells members a m) n.0 (omega arith),
      ahead_by_place (λ c. c.start) start_is_place others s b next_b x.0 y.0 (omega arith),
    )

pub not_contained_in_advances : ForwardAdvances not_contained_in
not_contained_in_advances members others a b next_a next_b k next_k r s m one found two =
    let n = find_gives (λ c. leb k c.end) members next_a found in
    let x = find_gives (λ d. leb a.end d.end) others b one.asked in
    let y = find_gives (λ d. leb next_a.end d.end) others next_b two.asked in
    let p1 = (not_contained_in_goes a b k one.goes).1 in
    let far : k ≤ next_a.end = leb-true k next_a.end n.1 in
    let x1 : a.end ≤ b.end = leb-true a.end b.end x.1 in
    let y1 : next_a.end ≤ next_b.end = leb-true next_a.end next_b.end y.1 in (
      ahead_by_place (λ c. c.end) end_is_place members r a next_a (contains_tells members a m) n.0 (omega arith),
      ahead_by_place (λ c. c.end) end_is_place others s b next_b x.0 y.0 (omega arith),
    )

pub containing_back_advances : BackwardAdvances containing_back
containing_back_advances members others a b next_a next_b k next_k r s m one found two =
    let n = find_last_gives (λ c. leb c.start k) members next_a found in
    let x = find_last_gives (λ d. leb d.end a.end) others b one.asked in
    let y = find_last_gives (λ d. leb d.end next_a.end) others next_b two.asked in
    let p = containing_back_goes a b k one.goes in
    let q = containing_back_goes next_a next_b next_k two.goes in
    let near : next_a.start ≤ k = leb-true next_a.start k n.1 in
    let p0 = p.0 in let p1 = p.1 in let q0 = q.0 in (
      ahead_by_place (λ c. c.start) start_is_place members r next_a a n.0 (contains_tells members a m) (omega arith),
      ahead_by_place (λ c. c.start) start_is_place others s next_b b y.0 x.0 (omega arith),
    )

pub contained_in_back_advances : BackwardAdvances contained_in_back
contained_in_back_advances members others a b next_a next_b k next_k r s m one found two =
    let n = find_last_gives (λ c. leb c.end k) members next_a found in
    let x = find_last_gives (λ d. leb d.start a.start) others b one.asked in
    let y = find_last_gives (λ d. leb d.start next_a.start) others next_b two.asked in
    let p = contained_in_back_goes a b k one.goes in
    let q = contained_in_back_goes next_a next_b next_k two.goes in
    let near : next_a.end ≤ k = leb-true next_a.end k n.1 in
    let p0 = p.0 in let p1 = p.1 in let q0 = q.0 in (
      ahead_by_place (λ c. c.end) end_is_place members r next_a a n.0 (contains_tells members a m) (omega arith),
      ahead_by_place (λ c. c.end) end_is_place others s next_b b y.0 x.0 (omega arith),
    )

pub not_containing_back_advances : BackwardAdvances not_containing_back
not_containing_back_advances members others a b next_a next_b k next_k r s m one found two =
    let n = find_last_gives (λ c. leb c.end k) members next_a found in
    let x = find_last_gives (λ d. leb d.end a.end) others b one.asked in
    let y = find_last_gives (λ d. leb d.end next_a.end) others next_b two.asked in
    let p1 = (not_containing_back_goes a b k one.goes).1 in
    let near : next_a.end ≤ k = leb-true next_a.end k n.1 in
    let x1 : b.end ≤ a.end = leb-true b.end a.end x.1 in
    let y1 : next_b.end ≤ next_a.end = leb-true next_b.end next_a.end y.1 in (
      ahead_by_place (λ c. c.end) end_is_place members r next_a a n.0 (contains_tells members a m) (omega arith),
      ahead_by_place (λ c. c.end) end_is_place others s next_b b y.0 x.0 (omega arith),
    )

pub not_contained_in_back_advances : BackwardAdvances not_contained_in_back
not_contained_in_back_advances members others a b next_a next_b k next_k r s m one found two =
    let n = find_last_gives (λ c. leb c.start k) members next_a found in
    let x = find_last_gives (λ d. leb d.start a.start) others b one.asked in
    let y = find_last_gives (λ d. leb d.start next_a.start) others next_b two.asked in
    let p1 = (not_contained_in_back_goes a b k one.goes).1 in
    let near : next_a.start ≤ k = leb-true next_a.start k n.1 in
    let x1 : b.start ≤ a.start = leb-true b.start a.start x.1 in
    let y1 : next_b.start ≤ next_a.start = leb-true next_b.start next_a.start y.1 in (
      ahead_by_place (λ c. c.start) start_is_place members r next_a a n.0 (contains_tells members a m) (omega arith),
      ahead_by_place (λ c. c.start) start_is_place others s next_b b y.0 x.0 (omega arith),
    )
