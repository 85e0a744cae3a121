-- A walk through two rising lists together, and what it says of a version's text.
use Rattle.std.proofs.Common.{◌≡◌, ℕ, zero, suc, ◌+◌, ◌-◌, ◌*◌, ◌^◌, ◌<◌, ◌≤◌, min, true, false, List, [], ◌∷◌, length, take, drop, get_or, Option, Some, None, slice_get, inl, inr, refl, sym, ap, ◌∙◌, subst, arith, bytes_eq, eqb}
use Rattle.std.specs.Option.{option_map}
use Rattle.std.proofs.lemmas.Bool.{true≢false, cases_Bool, cases_lt, or_cases, and_parts, eqb-true}
use Rattle.std.proofs.lemmas.List.{length-take, length-drop, get_or-take, get_or-drop}
use Rattle.std.proofs.lemmas.Option.{get_or_from_slice_get, slice_get_within}
use Rattle.gcl_model.specs.Limits.{address_end}
use Rattle.gcl_model.specs.Slots.{SlotRange}
use Rattle.gcl_model.specs.Texts.{Word, is_word, holds, places, any_pair}
use Rattle.gcl_model.proofs.Pairs.{no_pair}
use Rattle.posting_code.specs.Postings.{RiseWithin, ArePostings, block_of}
use Rattle.posting_code.proofs.Rising.{rise_index, rise_wider}
use Rattle.posting_code.proofs.Around.{block_rises}
use Rattle.index_shard.specs.Tables.{TermEntry, IsTable, addresses_at, place_of, postings_of, words_of}
use Rattle.index_shard.proofs.ShardWords.{places_are_postings}
use Rattle.index_shard.proofs.TableLaws.{all_at, at_its_place}
use Rattle.live_version.specs.Contents.{SlotContent, VersionContent, IsSlot, IsVersion, live_of}
use Rattle.live_version.proofs.PartWords.{held_in_slot}
use Rattle.live_version.proofs.WordLemmas.{postings_rise}
use Rattle.term_fingers.specs.Lists.{ArePassed, IsAt, LackPairs, one_below, shard_at, addresses_in, list_of, places_of}
use Rattle.term_fingers.proofs.Nearest.{below-lt, below-ge, climbs}
use Rattle.term_fingers.proofs.Places.{place_known}

module _ (first second : List ℕ) (k : ℕ) (rise : ArePostings first) (rise_behind : ArePostings second) where
  -- if what is before the two places is below k, and below k + 1, nothing was passed
  pub passed_start : (i j : ℕ) → i ≤ length first → j ≤ length second → (0 < i → get_or first (i - 1) 0 < k) → (0 < j → get_or second (j - 1) 0 < k + 1) → ArePassed first second k i j
  passed_start i j a b before behind = λ x y xl yl ge same. (
    elim (cases_lt x i) [
      | inr le ↦ le
      | inl lt ↦
          let up : get_or first x 0 ≤ get_or first (i - 1) 0 = climbs 0 (2 ^ 56) first x (i - 1) rise (omega (arith, lt)) (omega (arith, lt, a)) in
          let low : get_or first (i - 1) 0 < k = before (omega (arith, lt)) in
          absurd (omega (arith, up, low, ge))
    ],
    elim (cases_lt y j) [
      | inr le ↦ le
      | inl lt ↦
          let up : get_or second y 0 ≤ get_or second (j - 1) 0 = climbs 0 (2 ^ 56) second y (j - 1) rise_behind (omega (arith, lt)) (omega (arith, lt, b)) in
          let low : get_or second (j - 1) 0 < k + 1 = behind (omega (arith, lt)) in
          absurd (omega (arith, up, low, ge, same))
    ],
  )

  -- if the member of the second list lies farther on, the first list's is passed
  passed_first : (i j : ℕ) → j < length second → get_or first i 0 + 1 < get_or second j 0 → ArePassed first second k i j → ArePassed first second k (i + 1) j
  passed_first i j within less passed = λ x y xl yl ge same.
      let p = passed x y xl yl ge same in
      let from : i ≤ x = p.0 in
      elim (cases_lt i x) [
        | inl lt ↦ (omega (arith, lt), p.1)
        | inr le ↦
            let at : x ≡ i = omega (arith, from, le) in
            let here : get_or first i 0 + 1 ≡ get_or second y 0 = subst (λ n. get_or first n 0 + 1 ≡ get_or second y 0) at same in
            let up : get_or second j 0 ≤ get_or second y 0 = climbs 0 (2 ^ 56) second j y rise_behind p.1 yl in
            absurd (omega (arith, here, up, less))
      ]

  -- if it lies less far, it is passed itself
  passed_second : (i j : ℕ) → i < length first → get_or second j 0 < get_or first i 0 + 1 → ArePassed first second k i j → ArePassed first second k i (j + 1)
  passed_second i j within less passed = λ x y xl yl ge same.
      let p = passed x y xl yl ge same in
      let from : j ≤ y = p.1 in
      elim (cases_lt j y) [
        | inl lt ↦ (p.0, omega (arith, lt))
        | inr le ↦
            let at : y ≡ j = omega (arith, from, le) in
            let here : get_or first x 0 + 1 ≡ get_or second j 0 = subst (λ n. get_or first x 0 + 1 ≡ get_or second n 0) at same in
            let up : get_or first i 0 ≤ get_or first x 0 = climbs 0 (2 ^ 56) first i x rise p.0 xl in
            absurd (omega (arith, here, up, less))
      ]

  -- one of the two places moves on within its list, so less is left
  pub record IsStep (i j u w : ℕ) : Type 0 where
    pub passed : ArePassed first second k (i + u) (j + w)
    pub within : i + u ≤ length first
    pub within_behind : j + w ≤ length second
    pub nearer : length first - (i + u) + (length second - (j + w)) < length first - i + (length second - j)

  steps_on : (i j : ℕ) → i < length first → j < length second → (get_or first i 0 + 1 ≡ get_or second j 0 → ⊥) → ArePassed first second k i j →
      IsStep i j (one_below (get_or first i 0 + 1) (get_or second j 0)) (one_below (get_or second j 0) (get_or first i 0 + 1))
  steps_on i j a b other passed =
      let wanted = get_or first i 0 + 1 in
      let met = get_or second j 0 in
      elim (cases_lt wanted met) [
        | inl lt ↦
            let u : one_below wanted met ≡ 1 = below-lt wanted met lt in
            let w : one_below met wanted ≡ 0 = below-ge met wanted (omega (arith, lt)) in
            subst (λ n. IsStep i j n (one_below met wanted)) (sym u)
            (subst (λ n. IsStep i j 1 n) (sym w)
            (let still : j ≡ j + 0 = omega arith in
            record { passed = subst (ArePassed first second k (i + 1)) still (passed_first i j b lt passed); within = omega (arith, a); within_behind = omega (arith, b); nearer = omega (arith, a, b) }))
        | inr le ↦
            let less : met < wanted = omega (arith, le, other) in
            let u : one_below wanted met ≡ 0 = below-ge wanted met le in
            let w : one_below met wanted ≡ 1 = below-lt met wanted less in
            subst (λ n. IsStep i j n (one_below met wanted)) (sym u)
            (subst (λ n. IsStep i j 0 n) (sym w)
            (let still : i ≡ i + 0 = omega arith in
            record { passed = subst (λ n. ArePassed first second k n (j + 1)) still (passed_second i j a less passed); within = omega (arith, a); within_behind = omega (arith, b); nearer = omega (arith, a, b) }))
      ]

  -- the same by how far each moves on
  pub steps_by : (i j u w : ℕ) → i < length first → j < length second → (get_or first i 0 + 1 ≡ get_or second j 0 → ⊥) → ArePassed first second k i j →
      u ≡ one_below (get_or first i 0 + 1) (get_or second j 0) → w ≡ one_below (get_or second j 0) (get_or first i 0 + 1) → IsStep i j u w
  steps_by i j u w a b other passed eu ew =
      subst (λ n. IsStep i j n w) (sym eu) (subst (λ n. IsStep i j (one_below (get_or first i 0 + 1) (get_or second j 0)) n) (sym ew) (steps_on i j a b other passed))

  -- of two and two, of which none come right after each other, the first list's are passed if the other's last one lies farther on
  passed_two_first : (i j : ℕ) → i + 1 < length first → j + 1 < length second → (get_or first i 0 + 1 ≡ get_or second j 0 → ⊥) → (get_or first (i + 1) 0 + 1 ≡ get_or second j 0 → ⊥) →
      get_or first (i + 1) 0 + 1 < get_or second (j + 1) 0 → ArePassed first second k i j → ArePassed first second k (i + 2) j
  passed_two_first i j a b near far less passed = λ x y xl yl ge same.
      let p = passed x y xl yl ge same in
      let from : i ≤ x = p.0 in
      let behind : j ≤ y = p.1 in
      let rest : j < y → get_or second (j + 1) 0 ≤ get_or second y 0 = λ lt. climbs 0 (2 ^ 56) second (j + 1) y rise_behind (omega (arith, lt)) yl in
      elim (cases_lt (i + 1) x) [
        | inl lt ↦ (omega (arith, lt), p.1)
        | inr upto ↦
            elim (cases_lt i x) [
              | inl lt ↦
                  let at : x ≡ i + 1 = omega (arith, lt, upto) in
                  let here : get_or first (i + 1) 0 + 1 ≡ get_or second y 0 = subst (λ n. get_or first n 0 + 1 ≡ get_or second y 0) at same in
                  elim (cases_lt j y) [
                    | inl more ↦ absurd (omega (arith, here, rest more, less))
                    | inr le ↦
                        let met : y ≡ j = omega (arith, behind, le) in
                        absurd (far (subst (λ n. get_or first (i + 1) 0 + 1 ≡ get_or second n 0) met here))
                  ]
              | inr le_x ↦
                  let at : x ≡ i = omega (arith, from, le_x) in
                  let here : get_or first i 0 + 1 ≡ get_or second y 0 = subst (λ n. get_or first n 0 + 1 ≡ get_or second y 0) at same in
                  let up : get_or first i 0 ≤ get_or first (i + 1) 0 = climbs 0 (2 ^ 56) first i (i + 1) rise (omega arith) a in
                  elim (cases_lt j y) [
                    | inl more ↦ absurd (omega (arith, here, rest more, less, up))
                    | inr le ↦
                        let met : y ≡ j = omega (arith, behind, le) in
                        absurd (near (subst (λ n. get_or first i 0 + 1 ≡ get_or second n 0) met here))
                  ]
            ]
      ]

  -- if it lies less far, those of the second list are
  passed_two_second : (i j : ℕ) → i + 1 < length first → j + 1 < length second → (get_or first i 0 + 1 ≡ get_or second j 0 → ⊥) → (get_or first i 0 + 1 ≡ get_or second (j + 1) 0 → ⊥) →
      get_or second (j + 1) 0 < get_or first (i + 1) 0 + 1 → ArePassed first second k i j → ArePassed first second k i (j + 2)
  passed_two_second i j a b near near_last less passed = λ x y xl yl ge same.
      let p = passed x y xl yl ge same in
      let from : i ≤ x = p.0 in
      let behind : j ≤ y = p.1 in
      elim (cases_lt (j + 1) y) [
        | inl lt ↦ (p.0, omega (arith, lt))
        | inr upto ↦
            elim (cases_lt i x) [
              | inl lt ↦
                  let up : get_or first (i + 1) 0 ≤ get_or first x 0 = climbs 0 (2 ^ 56) first (i + 1) x rise (omega (arith, lt)) xl in
                  let low : get_or second y 0 ≤ get_or second (j + 1) 0 = climbs 0 (2 ^ 56) second y (j + 1) rise_behind upto b in
                  absurd (omega (arith, same, up, low, less))
              | inr le_x ↦
                  let at : x ≡ i = omega (arith, from, le_x) in
                  let here : get_or first i 0 + 1 ≡ get_or second y 0 = subst (λ n. get_or first n 0 + 1 ≡ get_or second y 0) at same in
                  elim (cases_lt j y) [
                    | inl more ↦
                        let met : y ≡ j + 1 = omega (arith, more, upto) in
                        absurd (near_last (subst (λ n. get_or first i 0 + 1 ≡ get_or second n 0) met here))
                    | inr le ↦
                        let met : y ≡ j = omega (arith, behind, le) in
                        absurd (near (subst (λ n. get_or first i 0 + 1 ≡ get_or second n 0) met here))
                  ]
            ]
      ]

  -- so of two and two those of one list are passed
  twos_on : (i j : ℕ) → i + 1 < length first → j + 1 < length second → (get_or first i 0 + 1 ≡ get_or second j 0 → ⊥) → (get_or first i 0 + 1 ≡ get_or second (j + 1) 0 → ⊥) →
      (get_or first (i + 1) 0 + 1 ≡ get_or second j 0 → ⊥) → (get_or first (i + 1) 0 + 1 ≡ get_or second (j + 1) 0 → ⊥) → ArePassed first second k i j →
      IsStep i j (2 * one_below (get_or first (i + 1) 0 + 1) (get_or second (j + 1) 0)) (2 * one_below (get_or second (j + 1) 0) (get_or first (i + 1) 0 + 1))
  twos_on i j a b near near_last far far_last passed =
      let wanted = get_or first (i + 1) 0 + 1 in
      let met = get_or second (j + 1) 0 in
      elim (cases_lt wanted met) [
        | inl lt ↦
            let u : 2 * one_below wanted met ≡ 2 = ap (λ n. 2 * n) (below-lt wanted met lt) in
            let w : 2 * one_below met wanted ≡ 0 = ap (λ n. 2 * n) (below-ge met wanted (omega (arith, lt))) in
            subst (λ n. IsStep i j n (2 * one_below met wanted)) (sym u)
            (subst (λ n. IsStep i j 2 n) (sym w)
            (let still : j ≡ j + 0 = omega arith in
            record { passed = subst (ArePassed first second k (i + 2)) still (passed_two_first i j a b near far lt passed); within = omega (arith, a); within_behind = omega (arith, b); nearer = omega (arith, a, b) }))
        | inr le ↦
            let less : met < wanted = omega (arith, le, far_last) in
            let u : 2 * one_below wanted met ≡ 0 = ap (λ n. 2 * n) (below-ge wanted met le) in
            let w : 2 * one_below met wanted ≡ 2 = ap (λ n. 2 * n) (below-lt met wanted less) in
            subst (λ n. IsStep i j n (2 * one_below met wanted)) (sym u)
            (subst (λ n. IsStep i j 0 n) (sym w)
            (let still : i ≡ i + 0 = omega arith in
            record { passed = subst (λ n. ArePassed first second k n (j + 2)) still (passed_two_second i j a b near near_last less passed); within = omega (arith, a); within_behind = omega (arith, b); nearer = omega (arith, a, b) }))
      ]

  -- the same by how far each moves on
  pub twos_by : (i j u w : ℕ) → i + 1 < length first → j + 1 < length second → (get_or first i 0 + 1 ≡ get_or second j 0 → ⊥) → (get_or first i 0 + 1 ≡ get_or second (j + 1) 0 → ⊥) →
      (get_or first (i + 1) 0 + 1 ≡ get_or second j 0 → ⊥) → (get_or first (i + 1) 0 + 1 ≡ get_or second (j + 1) 0 → ⊥) → ArePassed first second k i j →
      u ≡ one_below (get_or first (i + 1) 0 + 1) (get_or second (j + 1) 0) → w ≡ one_below (get_or second (j + 1) 0) (get_or first (i + 1) 0 + 1) → IsStep i j (2 * u) (2 * w)
  twos_by i j u w a b near near_last far far_last passed eu ew =
      subst (λ n. IsStep i j (2 * n) (2 * w)) (sym eu)
      (subst (λ n. IsStep i j (2 * one_below (get_or first (i + 1) 0 + 1) (get_or second (j + 1) 0)) (2 * n)) (sym ew) (twos_on i j a b near near_last far far_last passed))

  -- so there is no pair before an address, if all members below it are before the place that was reached
  pub none_passed : (i j r : ℕ) → ArePassed first second k i j → ((x : ℕ) → x < length first → get_or first x 0 < r → x < i) → (p : ℕ) → k ≤ p → p < r → IsAt first p → IsAt second (p + 1) → ⊥
  none_passed i j r passed before p ge lt here behind =
      let is : get_or first here.place 0 ≡ p = here.is in
      let next : get_or second behind.place 0 ≡ p + 1 = behind.is in
      let from : i ≤ here.place = (passed here.place behind.place here.within behind.within (omega (arith, is, ge)) (omega (arith, is, next))).0 in
      let less : here.place < i = before here.place here.within (omega (arith, is, lt)) in
      omega (arith, from, less)

-- the members below the one at a place are before it
pub below_place : (xs : List ℕ) (i x : ℕ) → ArePostings xs → x < length xs → get_or xs x 0 < get_or xs i 0 → x < i
below_place xs i x r within less =
    elim (cases_lt x i) [
      | inl lt ↦ lt
      | inr le ↦ let up : get_or xs i 0 ≤ get_or xs x 0 = climbs 0 (2 ^ 56) xs i x r le within in absurd (omega (arith, up, less))
    ]

-- the member of a block at a place is that of the list
pub block_member : (xs part : List ℕ) (b i : ℕ) → part ≡ block_of xs b → i < length part → (64 * b + i < length xs) × (get_or xs (64 * b + i) 0 ≡ get_or part i 0)
block_member xs part b i is lt =
    let behind = drop (64 * b) xs in
    let size : length part ≡ min 64 (length xs - 64 * b) = ap length is ∙ length-take 64 behind ∙ ap (min 64) (length-drop (64 * b) xs) in
    (omega (arith, lt, size), sym (get_or-drop (64 * b) xs i 0) ∙ sym (get_or-take 64 behind i 0 (omega (arith, lt, size))) ∙ ap (λ ys. get_or ys i 0) (sym is))

-- a member of the list between the ends of a block is one of the block
in_block : (xs part : List ℕ) (b p : ℕ) → ArePostings xs → part ≡ block_of xs b → 0 < length part → get_or part 0 0 ≤ p → p ≤ get_or part (length part - 1) 0 → IsAt xs p → IsAt part p
in_block xs part b p r is some low high at =
    let first = block_member xs part b 0 is some in
    let last = block_member xs part b (length part - 1) is (omega (arith, some)) in
    let value : get_or xs at.place 0 ≡ p = at.is in
    let within : at.place < length xs = at.within in
    let begins : get_or xs (64 * b + 0) 0 ≡ get_or part 0 0 = first.1 in
    let ends : get_or xs (64 * b + (length part - 1)) 0 ≡ get_or part (length part - 1) 0 = last.1 in
    let start : 64 * b ≤ at.place =
    elim (cases_lt at.place (64 * b)) [
      | inr le ↦ le
      | inl lt ↦
          let up : get_or xs at.place 0 < get_or xs (64 * b + 0) 0 = rises 0 (2 ^ 56) xs at.place (64 * b + 0) r (omega (arith, lt)) first.0 in
          absurd (omega (arith, up, value, begins, low))
    ] in
    let stop : at.place ≤ 64 * b + (length part - 1) =
    elim (cases_lt (64 * b + (length part - 1)) at.place) [
      | inr le ↦ le
      | inl lt ↦
          let up : get_or xs (64 * b + (length part - 1)) 0 < get_or xs at.place 0 = rises 0 (2 ^ 56) xs (64 * b + (length part - 1)) at.place r lt within in
          absurd (omega (arith, up, value, ends, high))
    ] in
    let inside : at.place - 64 * b < length part = omega (arith, start, stop, some) in
    let back : 64 * b + (at.place - 64 * b) ≡ at.place = omega (arith, start) in
    record {
      place = at.place - 64 * b;
      within = inside;
      is = sym (block_member xs part b (at.place - 64 * b) is inside).1 ∙ ap (λ n. get_or xs n 0) back ∙ value;
    }
  where
    rises : (low end : ℕ) (xs : List ℕ) (i j : ℕ) → RiseWithin low end xs → i < j → j < length xs → get_or xs i 0 < get_or xs j 0
    rises low end [] i j r lt within = absurd (omega (arith, within))
    rises low end (x ∷ xs) zero zero r lt within = absurd (omega (arith, lt))
    rises low end (x ∷ xs) zero (suc j) r lt within = let above = (rise_index (x + 1) end xs j r.2 (omega (arith, within))).0 in omega (arith, above)
    rises low end (x ∷ xs) (suc i) zero r lt within = absurd (omega (arith, lt))
    rises low end (x ∷ xs) (suc i) (suc j) r lt within = rises (x + 1) end xs i j r.2 (omega (arith, lt)) (omega (arith, within))

-- the member of a block is one of the list
pub at_of_block : (xs part : List ℕ) (b i : ℕ) → part ≡ block_of xs b → i < length part → IsAt xs (get_or part i 0)
at_of_block xs part b i is lt = let m = block_member xs part b i is lt in record { place = 64 * b + i; within = m.0; is = m.1 }

-- if both blocks have no pair up to an address that they reach, the lists have none
pub lists_lack : (xs ys part behind : List ℕ) (b d k r : ℕ) → ArePostings xs → ArePostings ys → part ≡ block_of xs b → behind ≡ block_of ys d → 0 < length part → 0 < length behind →
    get_or part 0 0 ≤ k → get_or behind 0 0 ≤ k + 1 → r ≤ get_or part (length part - 1) 0 + 1 → r ≤ get_or behind (length behind - 1) 0 →
    ((p : ℕ) → k ≤ p → p < r → IsAt part p → IsAt behind (p + 1) → ⊥) → LackPairs xs ys k r
lists_lack xs ys part behind b d k r rise rise_behind is is_behind some some_behind low low_behind high high_behind none = record {
  none = λ p ge lt here next.
      none p ge lt
      (in_block xs part b p rise is some (omega (arith, ge, low)) (omega (arith, lt, high)) here)
      (in_block ys behind d (p + 1) rise_behind is_behind some_behind (omega (arith, ge, low_behind)) (omega (arith, lt, high_behind)) next);
  around = λ more. record {
    low = get_or part 0 0;
    begins = at_of_block xs part b 0 is some;
    from = low;
    high = get_or behind (length behind - 1) 0;
    ends = at_of_block ys behind d (length behind - 1) is_behind (omega (arith, some_behind));
    upto = high_behind;
  };
}

-- the addresses at a place of a table rise inside its range
addresses_rise : (range : SlotRange) (es : List TermEntry) (i : ℕ) → IsTable range es → RiseWithin range.first (range.last + 1) (addresses_at es i)
addresses_rise range [] i table = tt
addresses_rise range (e ∷ es) zero table = table.0.rising
addresses_rise range (e ∷ es) (suc i) table = addresses_rise range es i table.2

-- a slot at a place of a version is one
pub slot_is : (v : VersionContent) (number : ℕ) (slot : SlotContent) → IsVersion v → slice_get v.slots number ≡ Some slot → IsSlot slot
slot_is v number slot is at = subst IsSlot (get_or_from_slice_get v.slots number slot slot at) (all_at IsSlot v.slots number slot is.slots (slice_get_within v.slots number slot at))

-- the lists in the slots of a version are postings
pub list_rises : (v : VersionContent) (number place : ℕ) → IsVersion v → ArePostings (list_of v.slots number place)
list_rises v number place is = by_slot (slice_get v.slots number) refl
  where
    by_slot : (o : Option SlotContent) → slice_get v.slots number ≡ o → ArePostings (addresses_in (option_map (λ (slot : SlotContent). slot.shard) (slice_get v.slots number)) place)
    by_slot None at = subst (λ o. ArePostings (addresses_in (option_map (λ (slot : SlotContent). slot.shard) o) place)) (sym at) tt
    by_slot (Some slot) at =
        let shard = (slot_is v number slot is at).shard in
        let last : slot.shard.range.last < address_end = shard.in_range in
        subst (λ o. ArePostings (addresses_in (option_map (λ (slot : SlotContent). slot.shard) o) place)) (sym at)
        (rise_wider slot.shard.range.first 0 (slot.shard.range.last + 1) (2 ^ 56) (addresses_at slot.shard.table place) (addresses_rise slot.shard.range slot.shard.table place shard.table) (omega arith) (omega (arith, last)))

-- so the members that a finger holds rise
pub members_rise : (v : VersionContent) (number place block count : ℕ) (members : List ℕ) → IsVersion v → (0 < count → take count members ≡ block_of (list_of v.slots number place) block) → ArePostings (take count members)
members_rise v number place block zero members is are = tt
members_rise v number place block (suc count) members is are = subst ArePostings (sym (are (omega arith))) (block_rises (list_of v.slots number place) block (list_rises v number place is))

-- an address that holds a token is one of its places
place_held : (words : List Word) (token : List ℕ) (p : ℕ) → holds words token p ≡ true → IsAt (places words token) p
place_held [] token p held = absurd (true≢false (sym held))
place_held (w ∷ ws) token p held =
    elim (or_cases (is_word token p w) (holds ws token p) held) [
      | inl h ↦
          let parts = and_parts (eqb w.address p) (bytes_eq w.token token) h in
          rw parts.1 record { place = 0; within = omega arith; is = eqb-true w.address p parts.0 }
      | inr h ↦
          let rest = place_held ws token p h in
          elim (cases_Bool (bytes_eq w.token token)) [
            | inl b ↦ rw b record { place = suc rest.place; within = omega (arith, rest.within); is = rest.is }
            | inr b ↦ rw b rest
          ]
    ]

-- what a member of a list that rises between two ends lies between
at_within : (low end : ℕ) (xs : List ℕ) (p : ℕ) → RiseWithin low end xs → IsAt xs p → (low ≤ p) × (p < end)
at_within low end xs p r at = subst (λ q. (low ≤ q) × (q < end)) at.is (rise_index low end xs at.place r at.within)

module _ (v : VersionContent) (is : IsVersion v) (number : ℕ) (slot : SlotContent) (at : slice_get v.slots number ≡ Some slot) where
  -- the list at the place of a term in a slot has the term's postings
  pub list_is : (term : List ℕ) (place : ℕ) (found : List (Option ℕ)) → take (length v.slots) found ≡ places_of term v.slots → slice_get found number ≡ Some (Some place) →
      list_of v.slots number place ≡ postings_of slot.shard.table term
  list_is term place found all here =
      let shard : shard_at v.slots number ≡ Some slot.shard = ap (option_map (λ (slot : SlotContent). slot.shard)) at in
      let known : place_of slot.shard.table term ≡ Some place =
      sym (place_known v.slots number term slot.shard found None shard all) ∙ get_or_from_slice_get found number (Some place) None here in
      ap (λ o. addresses_in o place) shard ∙ (at_its_place slot.shard.table term place known).1

  -- its members lie inside the slot's range
  pub postings_within : (term : List ℕ) (p : ℕ) → IsAt (postings_of slot.shard.table term) p → (slot.range.first ≤ p) × (p < slot.range.last + 1)
  postings_within term p here =
      let good = slot_is v number slot is at in
      subst (λ (range : SlotRange). (range.first ≤ p) × (p < range.last + 1)) good.indexed
      (at_within slot.shard.range.first (slot.shard.range.last + 1) (postings_of slot.shard.table term) p (postings_rise slot.shard term good.shard) here)

  -- an address of the slot's range that holds the term in the version is one of its postings there
  held_at : (term : List ℕ) (p : ℕ) → slot.range.first ≤ p → p ≤ slot.range.last → holds (live_of v.slots) term p ≡ true → IsAt (postings_of slot.shard.table term) p
  held_at term p from upto held =
      subst (λ ps. IsAt ps p) (places_are_postings slot.shard term (slot_is v number slot is at).shard)
      (place_held (words_of slot.shard) term p (held_in_slot v number slot term p is at from upto held))

  -- if the postings of two terms have no pair between their members, the version has none there
  slot_lacks : (a b : List ℕ) (k r : ℕ) → LackPairs (postings_of slot.shard.table a) (postings_of slot.shard.table b) k r → any_pair (live_of v.slots) a b k r ≡ false
  slot_lacks a b k r lack =
      no_pair (live_of v.slots) a b k r
      (λ p ge lt held behind.
      let around = lack.around (omega (arith, ge, lt)) in
      let low : slot.range.first ≤ around.low = (postings_within a around.low around.begins).0 in
      let high : around.high < slot.range.last + 1 = (postings_within b around.high around.ends).1 in
      let from : around.low ≤ k = around.from in
      let upto : r ≤ around.high = around.upto in
      lack.none p ge lt
      (held_at a p (omega (arith, low, from, ge)) (omega (arith, high, upto, lt)) held)
      (held_at b (p + 1) (omega (arith, low, from, ge)) (omega (arith, high, upto, lt)) behind))

-- if the lists at the places of two terms in a slot have no pair between their members, the version has none there
pub version_lacks : (v : VersionContent) (number place place_behind : ℕ) (a b : List ℕ) (found found_behind : List (Option ℕ)) (k r : ℕ) → IsVersion v →
    take (length v.slots) found ≡ places_of a v.slots → take (length v.slots) found_behind ≡ places_of b v.slots → slice_get found number ≡ Some (Some place) → slice_get found_behind number ≡ Some (Some place_behind) →
    LackPairs (list_of v.slots number place) (list_of v.slots number place_behind) k r → any_pair (live_of v.slots) a b k r ≡ false
version_lacks v number place place_behind a b found found_behind k r is all all_behind here here_behind lack = by_slot (slice_get v.slots number) refl
  where
    by_slot : (o : Option SlotContent) → slice_get v.slots number ≡ o → any_pair (live_of v.slots) a b k r ≡ false
    by_slot None at =
        let none : list_of v.slots number place ≡ [] = ap (λ o. addresses_in (option_map (λ (slot : SlotContent). slot.shard) o) place) at in
        no_pair (live_of v.slots) a b k r
        (λ p ge lt held behind.
        let around = lack.around (omega (arith, ge, lt)) in
        let nothing = subst (λ ps. IsAt ps around.low) none around.begins in
        omega (arith, nothing.within))
    by_slot (Some slot) at =
        slot_lacks v is number slot at a b k r
        (subst (λ ps. LackPairs ps (postings_of slot.shard.table b) k r) (list_is v is number slot at a place found all here)
        (subst (λ ps. LackPairs (list_of v.slots number place) ps k r) (list_is v is number slot at b place_behind found_behind all_behind here_behind) lack))
