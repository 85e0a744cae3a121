-- The member of a rising list that is nearest to an address, by the place where a search ended.
use Rattle.std.proofs.Common.{◌≡◌, ℕ, zero, suc, ◌+◌, ◌-◌, ◌*◌, ◌^◌, ◌<◌, ◌≤◌, min, true, false, cond, leb, ltb, List, [], ◌∷◌, length, drop, get_or, Option, Some, None, IfSome, inl, inr, refl, sym, ap, ◌∙◌, subst, arith, le_refl}
use Rattle.std.specs.List.{slice_get}
use Rattle.std.specs.Option.{option_or}
use Rattle.std.proofs.lemmas.Bool.{cases_Bool, cases_lt, le-leb, lt-leb, lt-ltb, le-ltb, ltb-true, ltb-false}
use Rattle.std.proofs.lemmas.List.{length-take, length-drop, get_or-take, get_or-drop}
use Rattle.std.proofs.lemmas.Option.{slice_get_past}
use Rattle.posting_code.specs.Packed.{last_of}
use Rattle.posting_code.specs.Postings.{RiseWithin, ArePostings, block_of, blocks_of}
use Rattle.posting_code.proofs.Rising.{rise_index}
use Rattle.posting_access.specs.Search.{least_from, greatest_to}
use Rattle.posting_code.proofs.Around.{block_rises}
use Rattle.posting_access.proofs.Searches.{IsNear, greatest_near, greatest_none, least_near, least_not_found}
use Rattle.term_fingers.specs.Lists.{AreBelow, EndBetween, TellsNearest, one_below, size_below}

pub block_is_few : (xs : List ℕ) (b : ℕ) → length (block_of xs b) ≤ 64
block_is_few xs b = omega (arith, length-take 64 (drop (64 * b) xs))

-- if the member before place n is less than k, and the one at n is not, the one at n is the least at or after k
least_at : (low end : ℕ) (xs : List ℕ) (n k : ℕ) → RiseWithin low end xs → n ≤ length xs → ((m : ℕ) → n ≡ suc m → get_or xs m 0 < k) → (n < length xs → k ≤ get_or xs n 0) → least_from xs k ≡ slice_get xs n
least_at low end [] zero k r within before after = refl
least_at low end [] (suc n) k r within before after = absurd (omega arith)
least_at low end (x ∷ xs) zero k r within before after = rw (le-leb k x (after (omega arith))) refl
least_at low end (x ∷ xs) (suc zero) k r within before after =
    let lt : x < k = before zero refl in
    rw (lt-leb k x lt) (least_at (x + 1) end xs zero k r.2 (omega arith) (λ m e. absurd (omega arith)) (λ h. after (omega arith)))
least_at low end (x ∷ xs) (suc (suc n)) k r within before after =
    let lt : get_or xs n 0 < k = before (suc n) refl in
    let above = (rise_index (x + 1) end xs n r.2 (omega arith)).0 in
    let less : x < k = omega arith in
    rw (lt-leb k x less) (least_at (x + 1) end xs (suc n) k r.2 (omega arith) (λ m e. before (suc m) (ap suc e)) (λ h. after (omega arith)))

none_at : (low end : ℕ) (xs : List ℕ) (k : ℕ) → RiseWithin low end xs → (0 < length xs → k < get_or xs 0 0) → greatest_to xs k ≡ None
none_at low end [] k r after = refl
none_at low end (x ∷ xs) k r after = let lt : k < x = after (omega arith) in greatest_none x end (x ∷ xs) k (omega arith, r.1, r.2) lt

-- if the member at place n is at most k, and the one after it is not, the one at n is the greatest at or before k
greatest_at : (low end : ℕ) (xs : List ℕ) (n k : ℕ) → RiseWithin low end xs → n < length xs → get_or xs n 0 ≤ k → ((m : ℕ) → m ≡ suc n → m < length xs → k < get_or xs m 0) → greatest_to xs k ≡ Some (get_or xs n 0)
greatest_at low end [] n k r within before after = absurd (omega arith)
greatest_at low end (x ∷ xs) zero k r within before after =
    rw (none_at (x + 1) end xs k r.2 (λ h. after (suc zero) refl (omega arith)), le-leb x k before) refl
greatest_at low end (x ∷ xs) (suc n) k r within before after =
    rw (greatest_at (x + 1) end xs n k r.2 (omega arith) before (λ m e lt. after (suc m) (ap suc e) (omega arith))) refl

-- what comes after the members below k is the least at or after k
pub least_below : (xs : List ℕ) (n k : ℕ) → ArePostings xs → AreBelow xs k n → least_from xs k ≡ slice_get xs n
least_below xs n k r below = least_at 0 (2 ^ 56) xs n k r below.within (λ m e. let back : n - 1 ≡ m = omega (arith, e) in subst (λ i. get_or xs i 0 < k) back (below.before (omega (arith, e)))) below.after

-- if the last is below k, none is at or after k
pub none_behind : (xs : List ℕ) (k : ℕ) → ArePostings xs → 0 < length xs → get_or xs (length xs - 1) 0 < k → None ≡ least_from xs k
none_behind xs k r some below =
    sym (least_below xs (length xs) k r record { within = le_refl (length xs); before = λ _. below; after = λ lt. absurd (omega (arith, lt)) } ∙ slice_get_past xs (length xs) (le_refl (length xs)))

-- if none is below what comes right after k, none is at or before k
pub greatest_before : (xs : List ℕ) (n k next : ℕ) → ArePostings xs → ((u : ℕ) → u < 2 ^ 56 → next ≤ u → k < u) → AreBelow xs next n → n ≡ 0 → None ≡ greatest_to xs k
greatest_before xs n k next r above below none =
    sym (none_at 0 (2 ^ 56) xs k r (λ lt. above (get_or xs 0 0) (rise_index 0 (2 ^ 56) xs 0 r lt).1 (subst (λ i. i < length xs → next ≤ get_or xs i 0) none below.after lt)))

-- else the last that is below it is the greatest at or before k
pub greatest_below : (xs : List ℕ) (n at k next : ℕ) → ArePostings xs → ((u : ℕ) → u < 2 ^ 56 → u < next → u ≤ k) → ((u : ℕ) → u < 2 ^ 56 → next ≤ u → k < u) → AreBelow xs next n → n ≡ at + 1 →
    Some (get_or xs at 0) ≡ greatest_to xs k
greatest_below xs n at k next r upto above below is =
    let back : n - 1 ≡ at = omega (arith, is) in
    let within : at < length xs = omega (arith, is, below.within) in
    let less : get_or xs at 0 < next = subst (λ i. get_or xs i 0 < next) back (below.before (omega (arith, is))) in
    sym (greatest_at 0 (2 ^ 56) xs at k r within
    (upto (get_or xs at 0) (rise_index 0 (2 ^ 56) xs at r within).1 less)
    (λ m e lt.
    let same : n ≡ m = omega (arith, is, e) in
    above (get_or xs m 0) (rise_index 0 (2 ^ 56) xs m r lt).1 (subst (λ i. i < length xs → next ≤ get_or xs i 0) same below.after lt)))

-- the place where a search for the members below k ended
pub below_border : (xs : List ℕ) (n k : ℕ) → n ≤ length xs → (0 < n → ltb (get_or xs (n - 1) 0) k ≡ true) → (n < length xs → ltb (get_or xs n 0) k ≡ false) → AreBelow xs k n
below_border xs n k within before after = record { within = within; before = λ some. ltb-true _ _ (before some); after = λ lt. ltb-false _ _ (after lt) }

-- a member is at most one that comes after it
pub climbs : (low end : ℕ) (xs : List ℕ) (i j : ℕ) → RiseWithin low end xs → i ≤ j → j < length xs → get_or xs i 0 ≤ get_or xs j 0
climbs low end [] i j r le lt = absurd (omega (arith, lt))
climbs low end (x ∷ xs) zero zero r le lt = le_refl x
climbs low end (x ∷ xs) zero (suc j) r le lt = let above = (rise_index (x + 1) end xs j r.2 (omega (arith, lt))).0 in omega (arith, above)
climbs low end (x ∷ xs) (suc i) zero r le lt = absurd (omega (arith, le))
climbs low end (x ∷ xs) (suc i) (suc j) r le lt = climbs (x + 1) end xs i j r.2 (omega (arith, le)) (omega (arith, lt))

-- a member is less than the one after it
rises_on : (low end : ℕ) (xs : List ℕ) (i : ℕ) → RiseWithin low end xs → suc i < length xs → get_or xs i 0 < get_or xs (suc i) 0
rises_on low end [] i r lt = absurd (omega arith)
rises_on low end (x ∷ xs) zero r lt = let above = (rise_index (x + 1) end xs zero r.2 (omega arith)).0 in omega (arith, above)
rises_on low end (x ∷ xs) (suc i) r lt = rises_on (x + 1) end xs i r.2 (omega arith)

-- if a member is k or more, the look-up ends in the list
least_met : (xs : List ℕ) (n k : ℕ) (o : Option ℕ) → n < length xs → k ≤ get_or xs n 0 → option_or (least_from xs k) o ≡ least_from xs k
least_met [] n k o lt le = absurd (omega arith)
least_met (x ∷ xs) zero k o lt le = rw (le-leb k x le) refl
least_met (x ∷ xs) (suc n) k o lt le =
    elim (cases_Bool (leb k x)) [
      | inl e ↦ rw e refl
      | inr e ↦ rw e (least_met xs n k o (omega arith) le)
    ]

-- between the ends of a block it is the last one that begins at k or before
near_ends : (xs part : List ℕ) (b k : ℕ) → ArePostings xs → part ≡ block_of xs b → 0 < length part → get_or part 0 0 ≤ k → k ≤ get_or part (length part - 1) 0 → IsNear xs k (b + 1)
near_ends xs part b k r is some first last =
    let behind = drop (64 * b) xs in
    let size : length part ≡ min 64 (length xs - 64 * b) = ap length is ∙ length-take 64 behind ∙ ap (min 64) (length-drop (64 * b) xs) in
    let member : (i : ℕ) → i < length part → get_or xs (64 * b + i) 0 ≡ get_or part i 0 =
    λ i lt. sym (get_or-drop (64 * b) xs i 0) ∙ sym (get_or-take 64 behind i 0 (omega (arith, lt, size))) ∙ ap (λ ys. get_or ys i 0) (sym is) in
    let begin = member 0 some in
    let ends = member (length part - 1) (omega (arith, some)) in
    record {
      rising = r;
      within = omega (arith, size, some);
      before = λ _. let same : 64 * b + 0 ≡ 64 * (b + 1 - 1) = omega arith in subst (λ i. get_or xs i 0 ≤ k) same (omega (arith, begin, first));
      after = λ more.
          let next : suc (64 * b + (length part - 1)) ≡ 64 * (b + 1) = omega (arith, size, some, more) in
          let above = rises_on 0 (2 ^ 56) xs (64 * b + (length part - 1)) r (omega (arith, size, some, more)) in
          subst (λ i. k < get_or xs i 0) next (omega (arith, last, ends, above));
    }

-- so its members give both look-ups
pub tells_nearest : (xs part : List ℕ) (b k : ℕ) → ArePostings xs → part ≡ block_of xs b → 0 < length part → get_or part 0 0 ≤ k → k ≤ get_or part (length part - 1) 0 → TellsNearest xs part k
tells_nearest xs part b k r is some first last =
    let near = near_ends xs part b k r is some first last in
    let within = near.within in
    record {
      rising = subst ArePostings (sym is) (block_rises xs b r);
      least =
          least_near xs k b (b + 1) near (omega arith) (omega (arith, within))
          ∙ ap (λ ys. option_or (least_from ys k) (slice_get xs (64 * (b + 1)))) (sym is)
          ∙ least_met part (length part - 1) k (slice_get xs (64 * (b + 1))) (omega (arith, some)) last;
      greatest = greatest_near xs k b (b + 1) near refl ∙ ap (λ ys. greatest_to ys k) (sym is);
    }

-- an equation of two options, said of the one that was found if it is some
pub as_wanted : (found wanted : Option ℕ) → found ≡ wanted → IfSome found (λ p. Some p ≡ wanted)
as_wanted None wanted is = tt
as_wanted (Some p) wanted is = is

-- if a block ends below k, and the one after it begins above k, the latter begins with the least at or after k
pub least_behind_block : (xs part : List ℕ) (b next k : ℕ) → ArePostings xs → part ≡ block_of xs b → next ≡ b + 1 → next < blocks_of xs → 0 < length part → get_or part (length part - 1) 0 < k → k < get_or xs (64 * next) 0 →
    slice_get xs (64 * next) ≡ least_from xs k
least_behind_block xs part b next k r is on within some last above =
    let behind = drop (64 * b) xs in
    let begin : get_or xs (64 * b + 0) 0 ≡ get_or part 0 0 = sym (get_or-drop (64 * b) xs 0 0) ∙ sym (get_or-take 64 behind 0 0 (omega arith)) ∙ ap (λ ys. get_or ys 0 0) (sym is) in
    let rises : ArePostings part = subst ArePostings (sym is) (block_rises xs b r) in
    let up : get_or part 0 0 ≤ get_or part (length part - 1) 0 = climbs 0 (2 ^ 56) part 0 (length part - 1) rises (omega arith) (omega (arith, some)) in
    let near : IsNear xs k next = record {
      rising = r;
      within = omega (arith, within);
      before = λ _. let same : 64 * b + 0 ≡ 64 * (next - 1) = omega (arith, on) in subst (λ i. get_or xs i 0 ≤ k) same (omega (arith, begin, up, last));
      after = λ _. above;
    } in
    least_not_found xs k b next near (omega (arith, on)) (omega (arith, within)) (subst (λ ys. None ≡ least_from ys k) is (none_behind part k rises some last))

pub below-lt : (u k : ℕ) → u < k → one_below u k ≡ 1
below-lt u k lt = ap (λ b. cond b 1 0) (lt-ltb u k lt)

pub below-ge : (u k : ℕ) → k ≤ u → one_below u k ≡ 0
below-ge u k ge = ap (λ b. cond b 1 0) (le-ltb u k ge)

part-lt : (u k size : ℕ) → u < k → size_below u k size ≡ size
part-lt u k size lt = ap (λ b. cond b size 0) (lt-ltb u k lt)

part-ge : (u k size : ℕ) → k ≤ u → size_below u k size ≡ 0
part-ge u k size ge = ap (λ b. cond b size 0) (le-ltb u k ge)

-- a part is known by its ends
part_is : (xs : List ℕ) (k size n m : ℕ) → n ≡ m → m + size ≤ length xs → (0 < m → get_or xs (m - 1) 0 < k) → (m + size < length xs → k ≤ get_or xs (m + size) 0) → (n + size ≤ length xs) × EndBetween xs k n (n + size)
part_is xs k size n m same within before after = subst (λ i. (i + size ≤ length xs) × EndBetween xs k i (i + size)) (sym same) (within, record { before = before; after = after })

-- of four parts those that end below k come first, and the members below k end in the one after them
pub quarter_ends : (xs : List ℕ) (k i size a b d : ℕ) → ArePostings xs → 0 < size → i + 4 * size ≤ length xs → EndBetween xs k i (i + 4 * size) →
    a ≡ size_below (get_or xs (i + size - 1) 0) k size → b ≡ size_below (get_or xs (i + 2 * size - 1) 0) k size → d ≡ size_below (get_or xs (i + 3 * size - 1) 0) k size →
    (i + a + b + d + size ≤ length xs) × EndBetween xs k (i + a + b + d) (i + a + b + d + size)
quarter_ends xs k i size a b d r some fits ends ea eb ed =
    let up_2 : get_or xs (i + size - 1) 0 ≤ get_or xs (i + 2 * size - 1) 0 = climbs 0 (2 ^ 56) xs (i + size - 1) (i + 2 * size - 1) r (omega arith) (omega (arith, some, fits)) in
    let up_3 : get_or xs (i + 2 * size - 1) 0 ≤ get_or xs (i + 3 * size - 1) 0 = climbs 0 (2 ^ 56) xs (i + 2 * size - 1) (i + 3 * size - 1) r (omega arith) (omega (arith, some, fits)) in
    elim (cases_lt (get_or xs (i + size - 1) 0) k) [
      | inr ge_1 ↦
          let same : i + a + b + d ≡ i = omega (arith, ea ∙ part-ge _ k size ge_1, eb ∙ part-ge _ k size (omega (arith, ge_1, up_2)), ed ∙ part-ge _ k size (omega (arith, ge_1, up_2, up_3))) in
          part_is xs k size (i + a + b + d) i same (omega (arith, fits)) ends.before
          (λ lt. let up : get_or xs (i + size - 1) 0 ≤ get_or xs (i + size) 0 = climbs 0 (2 ^ 56) xs (i + size - 1) (i + size) r (omega arith) lt in omega (arith, ge_1, up))
      | inl lt_1 ↦
          elim (cases_lt (get_or xs (i + 2 * size - 1) 0) k) [
            | inr ge_2 ↦
                let same : i + a + b + d ≡ i + size = omega (arith, ea ∙ part-lt _ k size lt_1, eb ∙ part-ge _ k size ge_2, ed ∙ part-ge _ k size (omega (arith, ge_2, up_3))) in
                part_is xs k size (i + a + b + d) (i + size) same (omega (arith, fits)) (λ _. lt_1)
                (λ lt. let up : get_or xs (i + 2 * size - 1) 0 ≤ get_or xs (i + size + size) 0 = climbs 0 (2 ^ 56) xs (i + 2 * size - 1) (i + size + size) r (omega arith) lt in omega (arith, ge_2, up))
            | inl lt_2 ↦
                elim (cases_lt (get_or xs (i + 3 * size - 1) 0) k) [
                  | inr ge_3 ↦
                      let same : i + a + b + d ≡ i + 2 * size = omega (arith, ea ∙ part-lt _ k size lt_1, eb ∙ part-lt _ k size lt_2, ed ∙ part-ge _ k size ge_3) in
                      part_is xs k size (i + a + b + d) (i + 2 * size) same (omega (arith, fits)) (λ _. lt_2)
                      (λ lt. let up : get_or xs (i + 3 * size - 1) 0 ≤ get_or xs (i + 2 * size + size) 0 = climbs 0 (2 ^ 56) xs (i + 3 * size - 1) (i + 2 * size + size) r (omega arith) lt in omega (arith, ge_3, up))
                  | inl lt_3 ↦
                      let same : i + a + b + d ≡ i + 3 * size = omega (arith, ea ∙ part-lt _ k size lt_1, eb ∙ part-lt _ k size lt_2, ed ∙ part-lt _ k size lt_3) in
                      let end : i + 4 * size ≡ i + 3 * size + size = omega arith in
                      part_is xs k size (i + a + b + d) (i + 3 * size) same (omega (arith, fits)) (λ _. lt_3)
                      (subst (λ j. j < length xs → k ≤ get_or xs j 0) end ends.after)
                ]
          ]
    ]

-- if they end at one member, that one decides
pub below_one : (xs : List ℕ) (k at n : ℕ) → at + 1 ≤ length xs → EndBetween xs k at (at + 1) → n ≡ at + one_below (get_or xs at 0) k → AreBelow xs k n
below_one xs k at n within ends is =
    elim (cases_lt (get_or xs at 0) k) [
      | inl lt ↦
          let same : at + 1 ≡ n = omega (arith, is, below-lt _ k lt) in
          let back : at ≡ at + 1 - 1 = omega arith in
          subst (AreBelow xs k) same record { within = within; before = λ _. subst (λ i. get_or xs i 0 < k) back lt; after = ends.after }
      | inr ge ↦
          let same : at ≡ n = omega (arith, is, below-ge _ k ge) in
          subst (AreBelow xs k) same record { within = omega (arith, within); before = ends.before; after = λ _. ge }
    ]

-- a place with one below k right before it, and the fourth after it not below k, begins four that they end in
pub ends_soon : (xs : List ℕ) (k n : ℕ) → ArePostings xs → get_or xs (n - 1) 0 < k → k ≤ get_or xs (n + 3) 0 → EndBetween xs k n (n + 4)
ends_soon xs k n r less more = record {
  before = λ _. less;
  after = λ lt. let up : get_or xs (n + 3) 0 ≤ get_or xs (n + 4) 0 = climbs 0 (2 ^ 56) xs (n + 3) (n + 4) r (omega arith) lt in omega (arith, more, up);
}

-- the last member is at the last place
pub last_is : (xs : List ℕ) → 0 < length xs → get_or xs (length xs - 1) 0 ≡ last_of xs
last_is [] some = absurd (omega (arith, some))
last_is (x ∷ []) some = refl
last_is (x ∷ y ∷ ys) some =
    let behind : length (x ∷ y ∷ ys) - 1 ≡ suc (length (y ∷ ys) - 1) = omega arith in
    ap (λ i. get_or (x ∷ y ∷ ys) i 0) behind ∙ last_is (y ∷ ys) (omega arith)
