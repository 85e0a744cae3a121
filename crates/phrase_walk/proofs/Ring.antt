-- Places that are asked in a ring, round after round, and which of them agree.
use Rattle.std.proofs.Common.{◌≡◌, ℕ, ◌+◌, ◌<◌, ◌≤◌, ◌⊎◌, inl, inr, sym, subst, arith}
use Rattle.std.proofs.lemmas.Bool.{cases_lt}

-- of m places in a ring, i is one of the last `agreed` that were asked before the one at `turn`
abbrev pub IsLate : (m turn agreed i : ℕ) → Type 0
IsLate m turn agreed i = ((turn ≤ i + agreed) × (i < turn)) ⊎ (turn + m ≤ i + agreed)

-- x is at least how often i was asked: in each round, and once more if it comes before `turn`
abbrev pub Counts : (rounds turn i x : ℕ) → Type 0
Counts rounds turn i x = (i < turn → rounds + 1 ≤ x) × (turn ≤ i → rounds ≤ x)

-- i agreed and was asked at most once more than it has passed, or it did not and was asked at most as often as it has passed
abbrev pub IsAsked : (m rounds turn agreed : ℕ) (passed : ℕ → ℕ) (Agrees : ℕ → Type 0) (i : ℕ) → Type 0
IsAsked m rounds turn agreed passed Agrees i =
    (IsLate m turn agreed i × Agrees i × Counts rounds turn i (passed i + 1)) ⊎ ((IsLate m turn agreed i → ⊥) × Counts rounds turn i (passed i))

-- this holds of each of the m places
abbrev pub IsRing : (m rounds turn agreed : ℕ) (passed : ℕ → ℕ) (Agrees : ℕ → Type 0) → Type 0
IsRing m rounds turn agreed passed Agrees = (i : ℕ) → i < m → IsAsked m rounds turn agreed passed Agrees i

never_late : (m i : ℕ) → i < m → IsLate m 0 0 i → ⊥
never_late m i lt (inl (a, b)) = omega (arith, a, b)
never_late m i lt (inr a) = omega (arith, a)

-- none was asked
pub ring_start : (m : ℕ) (passed : ℕ → ℕ) (Agrees : ℕ → Type 0) → IsRing m 0 0 0 passed Agrees
ring_start m passed Agrees i lt = inr (never_late m i lt, ((λ a. absurd (omega (arith, a))), (λ a. omega arith)))

-- the place at `turn` is not late, so it was asked no more often than it has passed
turn_not_late : (m turn agreed : ℕ) → agreed < m → IsLate m turn agreed turn → ⊥
turn_not_late m turn agreed few (inl (a, b)) = omega (arith, b)
turn_not_late m turn agreed few (inr a) = omega (arith, a, few)

turn_asked : (m rounds turn agreed : ℕ) (passed : ℕ → ℕ) (Agrees : ℕ → Type 0) → agreed < m → IsAsked m rounds turn agreed passed Agrees turn → rounds ≤ passed turn
turn_asked m rounds turn agreed passed Agrees few (inl (late, holds, counts)) = absurd (turn_not_late m turn agreed few late)
turn_asked m rounds turn agreed passed Agrees few (inr (not, counts)) = counts.1 (omega arith)

counts_on : (rounds turn i x : ℕ) → (i ≡ turn → ⊥) → Counts rounds turn i x → Counts rounds (turn + 1) i x
counts_on rounds turn i x other c = ((λ a. c.0 (omega (arith, a, other))), (λ a. c.1 (omega (arith, a))))

counts_here : (rounds turn i x : ℕ) → i ≡ turn → rounds ≤ x → Counts rounds (turn + 1) i (x + 1)
counts_here rounds turn i x here le = ((λ a. omega (arith, le)), (λ a. absurd (omega (arith, a, here))))

counts_more : (rounds turn i x y : ℕ) → x ≤ y → Counts rounds turn i x → Counts rounds turn i y
counts_more rounds turn i x y le c =
    ((λ a. let b : rounds + 1 ≤ x = c.0 a in omega (arith, b, le)), (λ a. let b : rounds ≤ x = c.1 a in omega (arith, b, le)))

late_on : (m turn agreed i : ℕ) → IsLate m turn agreed i → IsLate m (turn + 1) (agreed + 1) i
late_on m turn agreed i (inl (a, b)) = inl (omega (arith, a), omega (arith, b))
late_on m turn agreed i (inr a) = inr (omega (arith, a))

late_back : (m turn agreed i : ℕ) → (i ≡ turn → ⊥) → IsLate m (turn + 1) (agreed + 1) i → IsLate m turn agreed i
late_back m turn agreed i other (inl (a, b)) = inl (omega (arith, a), omega (arith, b, other))
late_back m turn agreed i other (inr a) = inr (omega (arith, a))

late_alone : (m turn i : ℕ) → i < m → (i ≡ turn → ⊥) → IsLate m (turn + 1) 1 i → ⊥
late_alone m turn i lt other (inl (a, b)) = other (omega (arith, a, b))
late_alone m turn i lt other (inr a) = omega (arith, a, lt)

module _ (m rounds turn agreed : ℕ) (few : agreed < m) (passed : ℕ → ℕ) (Agrees : ℕ → Type 0) where
  stays_elsewhere : (i : ℕ) → (i ≡ turn → ⊥) → IsAsked m rounds turn agreed passed Agrees i → IsAsked m rounds (turn + 1) (agreed + 1) passed Agrees i
  stays_elsewhere i other (inl (late, holds, counts)) = inl (late_on m turn agreed i late, holds, counts_on rounds turn i (passed i + 1) other counts)
  stays_elsewhere i other (inr (not, counts)) = inr ((λ late. not (late_back m turn agreed i other late)), counts_on rounds turn i (passed i) other counts)

  -- the place at `turn` agrees, too
  pub ring_stays : Agrees turn → IsRing m rounds turn agreed passed Agrees → IsRing m rounds (turn + 1) (agreed + 1) passed Agrees
  ring_stays holds ring i lt =
      elim (cases_lt i turn) [
        | inl before ↦ stays_elsewhere i (λ e. omega (arith, e, before)) (ring i lt)
        | inr from ↦
            elim (cases_lt turn i) [
              | inl behind ↦ stays_elsewhere i (λ e. omega (arith, e, behind)) (ring i lt)
              | inr upto ↦ here (omega (arith, from, upto))
            ]
      ]
    where
      here : i ≡ turn → IsAsked m rounds (turn + 1) (agreed + 1) passed Agrees i
      here e =
          let le : rounds ≤ passed turn = turn_asked m rounds turn agreed passed Agrees few (ring turn (subst (λ n. n < m) e lt)) in
          inl (
            inl (omega (arith, e), omega (arith, e)),
            subst Agrees (sym e) holds,
            counts_here rounds turn i (passed i) e (subst (λ n. rounds ≤ passed n) (sym e) le),
          )

  module _ (later : ℕ → ℕ) (Follows : ℕ → Type 0) (rises : (i : ℕ) → i < m → passed i ≤ later i) (passes : (i : ℕ) → i < m → Agrees i → passed i + 1 ≤ later i) where
    moves_elsewhere : (i : ℕ) → i < m → (i ≡ turn → ⊥) → IsAsked m rounds turn agreed passed Agrees i → IsAsked m rounds (turn + 1) 1 later Follows i
    moves_elsewhere i lt other (inl (late, holds, counts)) =
        inr (late_alone m turn i lt other, counts_more rounds (turn + 1) i (passed i + 1) (later i) (passes i lt holds) (counts_on rounds turn i (passed i + 1) other counts))
    moves_elsewhere i lt other (inr (not, counts)) =
        inr (late_alone m turn i lt other, counts_more rounds (turn + 1) i (passed i) (later i) (rises i lt) (counts_on rounds turn i (passed i) other counts))

    -- the place at `turn` leads on, and it alone agrees
    pub ring_moves : Follows turn → IsRing m rounds turn agreed passed Agrees → IsRing m rounds (turn + 1) 1 later Follows
    ring_moves holds ring i lt =
        elim (cases_lt i turn) [
          | inl before ↦ moves_elsewhere i lt (λ e. omega (arith, e, before)) (ring i lt)
          | inr from ↦
              elim (cases_lt turn i) [
                | inl behind ↦ moves_elsewhere i lt (λ e. omega (arith, e, behind)) (ring i lt)
                | inr upto ↦ here (omega (arith, from, upto))
              ]
        ]
      where
        here : i ≡ turn → IsAsked m rounds (turn + 1) 1 later Follows i
        here e =
            let le : rounds ≤ passed turn = turn_asked m rounds turn agreed passed Agrees few (ring turn (subst (λ n. n < m) e lt)) in
            let more : passed i ≤ later i = rises i lt in
            let same : rounds ≤ passed i = subst (λ n. rounds ≤ passed n) (sym e) le in
            inl (
              inl (omega (arith, e), omega (arith, e)),
              subst Follows (sym e) holds,
              counts_here rounds turn i (later i) e (omega (arith, more, same)),
            )

late_wrapped : (m agreed i : ℕ) → i < m → IsLate m m agreed i → IsLate m 0 agreed i
late_wrapped m agreed i lt (inl (a, b)) = inr (omega (arith, a))
late_wrapped m agreed i lt (inr a) = inr (omega (arith, a))

late_unwrapped : (m agreed i : ℕ) → i < m → IsLate m 0 agreed i → IsLate m m agreed i
late_unwrapped m agreed i lt (inl (a, b)) = absurd (omega (arith, b))
late_unwrapped m agreed i lt (inr a) = inl (omega (arith, a), lt)

counts_wrapped : (m rounds i x : ℕ) → i < m → Counts rounds m i x → Counts (rounds + 1) 0 i x
counts_wrapped m rounds i x lt c = ((λ a. absurd (omega (arith, a))), (λ a. c.0 lt))

-- a round is over
pub ring_wraps : (m rounds agreed : ℕ) (passed : ℕ → ℕ) (Agrees : ℕ → Type 0) → IsRing m rounds m agreed passed Agrees → IsRing m (rounds + 1) 0 agreed passed Agrees
ring_wraps m rounds agreed passed Agrees ring i lt = over (ring i lt)
  where
    over : IsAsked m rounds m agreed passed Agrees i → IsAsked m (rounds + 1) 0 agreed passed Agrees i
    over (inl (late, holds, counts)) = inl (late_wrapped m agreed i lt late, holds, counts_wrapped m rounds i (passed i + 1) lt counts)
    over (inr (not, counts)) = inr ((λ late. not (late_unwrapped m agreed i lt late)), counts_wrapped m rounds i (passed i) lt counts)

all_late : (m turn i : ℕ) → turn ≤ m → IsLate m turn m i
all_late m turn i within =
    elim (cases_lt i turn) [
      | inl before ↦ inl (omega (arith, within), before)
      | inr from ↦ inr (omega (arith, from))
    ]

-- if as many agreed as there are, each did
pub ring_agrees : (m rounds turn : ℕ) (passed : ℕ → ℕ) (Agrees : ℕ → Type 0) → turn ≤ m → IsRing m rounds turn m passed Agrees → (i : ℕ) → i < m → Agrees i
ring_agrees m rounds turn passed Agrees within ring i lt = over (ring i lt)
  where
    over : IsAsked m rounds turn m passed Agrees i → Agrees i
    over (inl (late, holds, counts)) = holds
    over (inr (not, counts)) = absurd (not (all_late m turn i within))

-- no more rounds were made than a place can pass
pub ring_rounds : (m rounds turn agreed : ℕ) (passed most : ℕ → ℕ) (Agrees : ℕ → Type 0) → ((i : ℕ) → i < m → passed i ≤ most i) → ((i : ℕ) → i < m → Agrees i → passed i + 1 ≤ most i) →
    IsRing m rounds turn agreed passed Agrees → (i : ℕ) → i < m → rounds ≤ most i
ring_rounds m rounds turn agreed passed most Agrees within passes ring i lt = over (ring i lt)
  where
    less : (x : ℕ) → x ≤ most i → Counts rounds turn i x → rounds ≤ most i
    less x le c =
        elim (cases_lt i turn) [
          | inl before ↦ let a : rounds + 1 ≤ x = c.0 before in omega (arith, a, le)
          | inr from ↦ let a : rounds ≤ x = c.1 from in omega (arith, a, le)
        ]

    over : IsAsked m rounds turn agreed passed Agrees i → rounds ≤ most i
    over (inl (late, holds, counts)) = less (passed i + 1) (passes i lt holds) counts
    over (inr (not, counts)) = less (passed i) (within i lt) counts
