-- How often a number occurs in a list: two lists that do not fall are equal if this agrees for every number.
use Rattle.std.proofs.Common.{◌≡◌, ◌⊎◌, ℕ, suc, ◌+◌, ◌<◌, ◌≤◌, cond, eqb, List, [], ◌∷◌, ◌++◌, length, get_or, inl, inr, refl, sym, ap, ◌∙◌, arith, le_refl, zero-add}
use Rattle.std.specs.List.{sum_by}
use Rattle.std.specs.List.Sorted.{IsNonDecreasingBy}
use Rattle.std.proofs.lemmas.Bool.{cases_Bool, cases_lt, eqb-true, eq-eqb}
use Rattle.std.proofs.lemmas.List.Sums.{sum_by-cons, sum_by-append}
use Rattle.posting_code.specs.Postings.{RiseWithin}
use Rattle.index_shard.specs.Tables.{has_address}

-- 1 if the numbers are equal, and else 0
abbrev pub one : ℕ → ℕ → ℕ
one p q = cond (eqb q p) 1 0

abbrev pub times : ℕ → List ℕ → ℕ
times p xs = sum_by (one p) xs

pub times-cons : (p x : ℕ) (xs : List ℕ) → times p (x ∷ xs) ≡ one p x + times p xs
times-cons p x xs = sum_by-cons (one p) x xs

pub times-append : (p : ℕ) (xs ys : List ℕ) → times p (xs ++ ys) ≡ times p xs + times p ys
times-append p xs ys = sum_by-append (one p) xs ys

pub one_same : (p : ℕ) → one p p ≡ 1
one_same p = ap (λ b. cond b 1 0) (eq-eqb p p refl)

pub one_other : (p x : ℕ) → (x ≡ p → ⊥) → one p x ≡ 0
one_other p x other = elim (cases_Bool (eqb x p)) [ inl e ↦ absurd (other (eqb-true x p e)) | inr e ↦ rw e refl ]

-- no member is less than the one before it, or than low
abbrev pub DoesNotFall : ℕ → List ℕ → Type 0
DoesNotFall low [] = Unit {0}
DoesNotFall low (x ∷ xs) = (low ≤ x) × DoesNotFall x xs

pub none_below : (low p : ℕ) (xs : List ℕ) → DoesNotFall low xs → p < low → times p xs ≡ 0
none_below low p [] up lt = refl
none_below low p (x ∷ xs) up lt =
    let from = up.0 in
    let other = one_other p x (λ same. omega arith) in
    let rest = none_below x p xs up.1 (omega arith) in
    times-cons p x xs ∙ omega (arith, other, rest)

pub equal_by_times : (low : ℕ) (xs ys : List ℕ) → DoesNotFall low xs → DoesNotFall low ys → ((p : ℕ) → times p xs ≡ times p ys) → xs ≡ ys
equal_by_times low [] [] up down same = refl
equal_by_times low (x ∷ xs) [] up down same =
    let have = same x in
    let mine = times-cons x x xs in
    let here = one_same x in
    let none : times x [] ≡ 0 = refl in
    absurd (omega (arith, have, mine, here, none))
equal_by_times low [] (y ∷ ys) up down same =
    let have = same y in
    let mine = times-cons y y ys in
    let here = one_same y in
    let none : times y [] ≡ 0 = refl in
    absurd (omega (arith, have, mine, here, none))
equal_by_times low (x ∷ xs) (y ∷ ys) up down same =
    elim (cases_lt x y) [
      | inl lt ↦ absurd (missed x y xs ys (λ p. same p) down.1 lt)
      | inr le ↦ elim (cases_lt y x) [
        | inl lt ↦ absurd (missed y x ys xs (λ p. sym (same p)) up.1 lt)
        | inr ge ↦
            let is : x ≡ y = omega arith in
            let down_from : DoesNotFall x ys = rw is (down.1) in
            ap (λ z. z ∷ xs) is
            ∙ ap (λ l. y ∷ l)
            (equal_by_times x xs ys up.1 down_from
            (λ p.
            let have = same p in
            let mine = times-cons p x xs in
            let others = times-cons p y ys in
            let head : one p x ≡ one p y = ap (one p) is in
            omega (arith, have, mine, others, head)))
      ]
    ]
  where
    missed : (x y : ℕ) (xs ys : List ℕ) → ((p : ℕ) → times p (x ∷ xs) ≡ times p (y ∷ ys)) → DoesNotFall y ys → x < y → ⊥
    missed x y xs ys same up lt =
        let have = same x in
        let mine = times-cons x x xs in
        let here = one_same x in
        let none = none_below y x (y ∷ ys) (le_refl y, up) lt in
        omega (arith, have, mine, here, none)

-- what rises strictly does not fall
pub rising_up : (low end : ℕ) (xs : List ℕ) → RiseWithin low end xs → DoesNotFall low xs
rising_up low end [] r = tt
rising_up low end (x ∷ xs) r = (r.0, earlier x (x + 1) xs (rising_up (x + 1) end xs r.2) (omega arith))
  where
    earlier : (low later : ℕ) (xs : List ℕ) → DoesNotFall later xs → low ≤ later → DoesNotFall low xs
    earlier low later [] up le = tt
    earlier low later (x ∷ xs) up le = let from = up.0 in (omega arith, up.1)

-- so does a sorted list
pub sorted_up : (xs : List ℕ) → IsNonDecreasingBy (λ x. x) xs → DoesNotFall 0 xs
sorted_up xs sorted = from 0 xs (λ lt. omega arith) sorted
  where
    from : (low : ℕ) (xs : List ℕ) → (0 < length xs → low ≤ get_or xs 0 0) → IsNonDecreasingBy (λ x. x) xs → DoesNotFall low xs
    from low [] le sorted = tt
    from low (x ∷ xs) le sorted = (le (omega arith), from x xs (λ lt. sorted 0 1 0 (omega arith) (omega arith)) (λ i j d ij lt. sorted (suc i) (suc j) d (omega arith) (omega arith)))

-- in a rising list a number occurs once if it is a member, and else not at all
pub times_rising : (low end p : ℕ) (xs : List ℕ) → RiseWithin low end xs → times p xs ≡ cond (has_address xs p) 1 0
times_rising low end p [] r = refl
times_rising low end p (x ∷ xs) r =
    elim (cases_Bool (eqb x p)) [
      | inl e ↦
          let is = eqb-true x p e in
          let rest = none_below (x + 1) p xs (rising_up (x + 1) end xs r.2) (omega arith) in
          times-cons p x xs ∙ (rw (e, rest) refl)
      | inr e ↦ times-cons p x xs ∙ (rw (e, zero-add (times p xs)) (times_rising (x + 1) end p xs r.2))
    ]

-- outside of its bounds it has none
pub times_outside : (low end p : ℕ) (xs : List ℕ) → RiseWithin low end xs → (p < low) ⊎ (end ≤ p) → times p xs ≡ 0
times_outside low end p xs r (inl before) = none_below low p xs (rising_up low end xs r) before
times_outside low end p [] r (inr after) = refl
times_outside low end p (x ∷ xs) r (inr after) =
    let below = r.1 in
    let other = one_other p x (λ same. omega (arith, same, below, after)) in
    let rest = times_outside (x + 1) end p xs r.2 (inr after) in
    times-cons p x xs ∙ omega (arith, other, rest)
