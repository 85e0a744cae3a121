-- The place where a rising list passes a number has the nearest members.
use Rattle.std.proofs.Common.{◌≡◌, ℕ, zero, suc, ◌+◌, ◌-◌, ◌^◌, ◌<◌, ◌≤◌, min, true, false, cond, leb, List, [], ◌∷◌, length, drop, get_or, find, Option, Some, None, refl, sym, ap, ◌∙◌, arith}
use Rattle.std.specs.List.{slice_get}
use Rattle.std.proofs.lemmas.Bool.{le-leb, lt-leb}
use Rattle.gcl_model.specs.Access.{later_or, find_last}
use Rattle.posting_code.specs.Postings.{RiseWithin, ArePostings}
use Rattle.posting_code.proofs.Rising.{rise_index}

-- members up to one that is below k can be left out
skips_past : (low end k : ℕ) (xs : List ℕ) (n : ℕ) → RiseWithin low end xs → n < length xs → get_or xs n 0 < k → find (λ p. leb k p) xs ≡ find (λ p. leb k p) (drop (suc n) xs)
skips_past low end k [] n r within lt = absurd (omega arith)
skips_past low end k (x ∷ xs) zero r within lt = let e : leb k x ≡ false = lt-leb k x lt in rw e refl
skips_past low end k (x ∷ xs) (suc n) r within lt =
    let above = (rise_index (x + 1) end xs n r.2 (omega arith)).0 in
    let e : leb k x ≡ false = lt-leb k x (omega arith) in
    rw e (skips_past (x + 1) end k xs n r.2 (omega arith) lt)

-- if a member at or after k comes first, it is the answer
first_beyond : (k : ℕ) (xs : List ℕ) (n : ℕ) → (n < length xs → k ≤ get_or xs n 0) → find (λ p. leb k p) (drop n xs) ≡ slice_get xs n
first_beyond k [] zero after = refl
first_beyond k [] (suc n) after = refl
first_beyond k (x ∷ xs) zero after = let e : leb k x ≡ true = le-leb k x (after (omega arith)) in rw e refl
first_beyond k (x ∷ xs) (suc n) after = first_beyond k xs n (λ lt. after (omega arith))

-- the least member at or after k is at the border of those below k
pub least_at_border : (k : ℕ) (xs : List ℕ) (n : ℕ) → ArePostings xs → n ≤ length xs → (0 < n → get_or xs (n - 1) 0 < k) → (n < length xs → k ≤ get_or xs n 0) → slice_get xs n ≡ find (λ p. leb k p) xs
least_at_border k xs zero r within before after = sym (first_beyond k xs zero after)
least_at_border k xs (suc n) r within before after =
    let back : suc n - 1 ≡ n = omega arith in
    let below : get_or xs n 0 < k = let b = before (omega arith) in let b = rw back at b in b in
    sym (skips_past 0 (2 ^ 56) k xs n r (omega arith) below ∙ first_beyond k xs (suc n) after)

-- if every member is greater than k there is none up to k
none_up_to : (low end k : ℕ) (xs : List ℕ) → RiseWithin low end xs → k < low → find_last (λ p. leb p k) xs ≡ None
none_up_to low end k [] r lt = refl
none_up_to low end k (x ∷ xs) r lt =
    let from = r.0 in
    let e : leb x k ≡ false = lt-leb x k (omega arith) in
    rw (none_up_to (x + 1) end k xs r.2 (omega arith), e) refl

none_before_first : (low end k : ℕ) (xs : List ℕ) → RiseWithin low end xs → (0 < length xs → k < get_or xs 0 0) → find_last (λ p. leb p k) xs ≡ None
none_before_first low end k [] r after = refl
none_before_first low end k (x ∷ xs) r after = let lt : k < x = after (omega arith) in none_up_to x end k (x ∷ xs) (omega arith, r.1, r.2) lt

later_or_member : (xs : List ℕ) (n : ℕ) (o : Option ℕ) → n < length xs → later_or (slice_get xs n) o ≡ slice_get xs n
later_or_member [] n o lt = absurd (omega arith)
later_or_member (x ∷ xs) zero o lt = refl
later_or_member (x ∷ xs) (suc n) o lt = later_or_member xs n o (omega arith)

last_member : (low end k : ℕ) (xs : List ℕ) (n : ℕ) → RiseWithin low end xs → n < length xs → get_or xs n 0 ≤ k → (suc n < length xs → k < get_or xs (suc n) 0) → find_last (λ p. leb p k) xs ≡ slice_get xs n
last_member low end k [] n r within le after = absurd (omega arith)
last_member low end k (x ∷ xs) zero r within le after =
    let e : leb x k ≡ true = le-leb x k le in
    rw (none_before_first (x + 1) end k xs r.2 (λ lt. after (omega arith)), e) refl
last_member low end k (x ∷ xs) (suc n) r within le after =
    ap (λ o. later_or o (cond (leb x k) (Some x) None)) (last_member (x + 1) end k xs n r.2 (omega arith) le (λ lt. after (omega arith)))
    ∙ later_or_member xs n (cond (leb x k) (Some x) None) (omega arith)

-- the border of those below k + 1: a place is far below the greatest number, at which the sum stops
pub record IsBorderAbove (xs : List ℕ) (k above n : ℕ) : Type 0 where
  pub rising : ArePostings xs
  pub above_is : above ≡ min (k + 1) (2 ^ 64 - 1)
  pub within : n ≤ length xs
  pub before : 0 < n → get_or xs (n - 1) 0 < above
  pub after : n < length xs → above ≤ get_or xs n 0

after_border : (xs : List ℕ) (k above n : ℕ) → IsBorderAbove xs k above n → n < length xs → k < get_or xs n 0
after_border xs k above n b lt =
    let small = (rise_index 0 (2 ^ 56) xs n b.rising lt).1 in
    let from = b.after lt in
    let is = b.above_is in
    omega (arith, small, from, is)

pub none_at_border : (xs : List ℕ) (k above n : ℕ) → IsBorderAbove xs k above n → n ≡ 0 → None ≡ find_last (λ p. leb p k) xs
none_at_border xs k above zero b is = sym (none_before_first 0 (2 ^ 56) k xs b.rising (λ lt. after_border xs k above zero b lt))
none_at_border xs k above (suc n) b is = absurd (omega arith)

-- the greatest member up to k is just before that border
pub greatest_before_border : (xs : List ℕ) (k above n last : ℕ) → IsBorderAbove xs k above n → n ≡ last + 1 → slice_get xs last ≡ find_last (λ p. leb p k) xs
greatest_before_border xs k above n last b is =
    let within = b.within in
    let back : n - 1 ≡ last = omega arith in
    let next : n ≡ suc last = omega arith in
    let low : get_or xs last 0 < above = let low = b.before (omega arith) in let low = rw back at low in low in
    let above_is = b.above_is in
    sym (last_member 0 (2 ^ 56) k xs last b.rising (omega arith) (omega (arith, low, above_is))
    (λ lt. let beyond = after_border xs k above n b (omega (arith, lt, next)) in let beyond = rw next at beyond in beyond))
