-- How many look-ups a ring of tokens takes.
use Rattle.std.proofs.Common.{◌≡◌, ℕ, ◌+◌, ◌*◌, ◌<◌, ◌≤◌, inl, inr, sym, subst, arith}
use Rattle.std.proofs.lemmas.Bool.{cases_lt}
use Rattle.std.proofs.Math.Nat.{mul-le-mul_right}
use Rattle.phrase_walk.proofs.Ring.{IsRing, ring_start, ring_stays, ring_moves, ring_wraps}

-- the m places of a ring were asked as often as the look-ups from `old` to `now` say, at `most` for each
pub record IsAskedWithin (m turn agreed : ℕ) (passed : ℕ → ℕ) (Agrees : ℕ → Type 0) (most old now : ℕ) : Type 0 where
  pub rounds : ℕ
  pub ring : IsRing m rounds turn agreed passed Agrees
  pub cost : now ≤ old + (rounds * m + turn) * most

-- one step more, at `most` at the most
pub one_asked : (old now after n most : ℕ) → now ≤ old + n * most → after ≤ now + most → after ≤ old + (n + 1) * most
one_asked old now after n most le step = omega arith

pub asked_start : (m most old : ℕ) (passed : ℕ → ℕ) (Agrees : ℕ → Type 0) → IsAskedWithin m 0 0 passed Agrees most old old
asked_start m most old passed Agrees = record { rounds = 0; ring = ring_start m passed Agrees; cost = omega arith }

module _ (m turn agreed : ℕ) (few : agreed < m) (passed : ℕ → ℕ) (Agrees : ℕ → Type 0) (most old now after : ℕ) (step : after ≤ now + most) (asked : IsAskedWithin m turn agreed passed Agrees most old now) where
  pub asked_stays : Agrees turn → IsAskedWithin m (turn + 1) (agreed + 1) passed Agrees most old after
  asked_stays holds =
      record {
        rounds = asked.rounds;
        ring = ring_stays m asked.rounds turn agreed few passed Agrees holds asked.ring;
        cost = let le = one_asked old now after (asked.rounds * m + turn) most asked.cost step in omega (arith, le);
      }

  pub asked_moves : (later : ℕ → ℕ) (Follows : ℕ → Type 0) → ((i : ℕ) → i < m → passed i ≤ later i) → ((i : ℕ) → i < m → Agrees i → passed i + 1 ≤ later i) → Follows turn →
      IsAskedWithin m (turn + 1) 1 later Follows most old after
  asked_moves later Follows rises passes holds =
      record {
        rounds = asked.rounds;
        ring = ring_moves m asked.rounds turn agreed few passed Agrees later Follows rises passes holds asked.ring;
        cost = let le = one_asked old now after (asked.rounds * m + turn) most asked.cost step in omega (arith, le);
      }

asked_wraps : (m agreed : ℕ) (passed : ℕ → ℕ) (Agrees : ℕ → Type 0) (most old now : ℕ) → IsAskedWithin m m agreed passed Agrees most old now → IsAskedWithin m 0 agreed passed Agrees most old now
asked_wraps m agreed passed Agrees most old now asked =
    record {
      rounds = asked.rounds + 1;
      ring = ring_wraps m asked.rounds agreed passed Agrees asked.ring;
      cost = let le : now ≤ old + (asked.rounds * m + m) * most = asked.cost in omega (arith, le);
    }

-- the next turn, of this round or of the next one
pub asked_turns : (m turn next agreed : ℕ) (passed : ℕ → ℕ) (Agrees : ℕ → Type 0) (most old now : ℕ) → turn < m → (turn + 1 ≡ m → next ≡ 0) → (turn + 1 < m → next ≡ turn + 1) →
    IsAskedWithin m (turn + 1) agreed passed Agrees most old now → (next < m) × IsAskedWithin m next agreed passed Agrees most old now
asked_turns m turn next agreed passed Agrees most old now within wraps goes_on asked =
    elim (cases_lt (turn + 1) m) [
      | inl less ↦
          let e : next ≡ turn + 1 = goes_on less in
          (omega (arith, e, less), subst (λ n. IsAskedWithin m n agreed passed Agrees most old now) (sym e) asked)
      | inr over ↦
          let end : turn + 1 ≡ m = omega (arith, over, within) in
          let e : next ≡ 0 = wraps end in (
            omega (arith, e, within),
            subst (λ n. IsAskedWithin m n agreed passed Agrees most old now) (sym e)
                (asked_wraps m agreed passed Agrees most old now (subst (λ n. IsAskedWithin m n agreed passed Agrees most old now) end asked)),
          )
    ]

-- the look-ups up to here and one more are within the bound, if no more rounds were made than c
pub asked_bound : (m turn c most old now after rounds : ℕ) → turn < m → rounds ≤ c → now ≤ old + (rounds * m + turn) * most → after ≤ now + most → after ≤ old + (c + 1) * m * most
asked_bound m turn c most old now after rounds within few le step =
    let a : rounds * m ≤ c * m = mul-le-mul_right m few in
    let b : (rounds * m + turn + 1) * most ≤ (c * m + m) * most = mul-le-mul_right most (omega (arith, a, within)) in
    omega (arith, b, le, step)

-- which is the lesser of two bounds
pub rounds_within : (m c most old now : ℕ) → now ≤ old + (c + 1) * m * most → now ≤ old + (c + 2) * (2 * m) * most
rounds_within m c most old now le = omega (arith, le)
