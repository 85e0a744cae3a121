-- The text between two addresses is a text and a part of the whole one, and a look-up in it is one in the whole one.
use Rattle.std.proofs.Common.{◌≡◌, ℕ, ◌+◌, ◌<◌, ◌≤◌, Bool, true, false, cond, ◌&&◌, ◌||◌, leb, ltb, eqb, List, [], ◌∷◌, Option, Some, None, inl, inr, refl, sym, ap, ◌∙◌, arith, find, filter, bytes_eq, min, max, le_refl}
use Rattle.std.proofs.lemmas.Bool.{true≢false, and_parts, and_from, leb-true, leb-false, le-leb, lt-leb, ltb-true, lt-ltb, cases_Bool, eqb-true}
use Rattle.gcl_model.specs.Access.{later_or, find_last}
use Rattle.gcl_model.specs.Texts.{Text, Word, is_word, holds, places, next_place, previous_place, AreRisingBelow, IsText}
use Rattle.gcl_model.proofs.Minimal.{same_truth}
use Rattle.gcl_locality.specs.Agreement.{has_address}
use Rattle.text_window.specs.Within.{within, up_to_high, from_low}
use Rattle.text_window.specs.Laws.{WindowsAreParts}

-- an address from `low` to `high`
abbrev inside : (low high : ℕ) → ℕ → Bool
inside low high p = leb low p && leb p high

inside_from : (low high p : ℕ) → low ≤ p → p ≤ high → inside low high p ≡ true
inside_from low high p ge le = and_from (leb low p) (leb p high) (le-leb low p ge) (le-leb p high le)

inside_tells : (low high p : ℕ) → inside low high p ≡ true → (low ≤ p) × (p ≤ high)
inside_tells low high p e = let parts = and_parts (leb low p) (leb p high) e in (leb-true low p parts.0, leb-true p high parts.1)

-- the words between two addresses rise
rising_inside : (next end low high from start : ℕ) (words : List Word) → start ≤ max from low → min next (high + 1) ≤ end → AreRisingBelow next from words → AreRisingBelow end start (filter (λ w. inside low high w.address) words)
rising_inside next end low high from start [] begins ends r = tt
rising_inside next end low high from start (w ∷ ws) begins ends r =
    let ge = r.0 in
    let lt = r.1 in
    elim (cases_Bool (inside low high w.address)) [
      | inl e ↦ let at = inside_tells low high w.address e in
          let ge_low = at.0 in
          let le_high = at.1 in
          rw e (omega arith, omega arith, rising_inside next end low high (w.address + 1) (w.address + 1) ws (omega arith) ends r.2)
      | inr e ↦ rw e (rising_inside next end low high (w.address + 1) start ws (omega arith) ends r.2)
    ]

-- the part of a text is a text
pub within_is_text : (text : Text) (low high : ℕ) → IsText text → IsText (within text low high)
within_is_text text low high is =
    let ordered = is.ordered in
    let in_range = is.in_range in
    record {
      ordered = omega arith;
      in_range = omega arith;
      rising = rising_inside text.next (within text low high).next low high text.first (within text low high).first text.words (omega arith) (omega arith) is.rising;
    }

-- each token is between the two addresses where it was
holds_inside : (low high : ℕ) (words : List Word) (token : List ℕ) (p : ℕ) → inside low high p ≡ true → holds words token p ≡ holds (filter (λ w. inside low high w.address) words) token p
holds_inside low high [] token p at = refl
holds_inside low high (w ∷ ws) token p at =
    let rest = holds_inside low high ws token p at in
    elim (cases_Bool (inside low high w.address)) [
      | inl e ↦ rw e (ap (λ b. is_word token p w || b) rest)
      | inr e ↦ elim (cases_Bool (eqb w.address p)) [
        | inl same ↦ absurd (true≢false (sym (ap (inside low high) (eqb-true w.address p same) ∙ at) ∙ e))
        | inr other ↦ rw e (ap (λ b. (b && bytes_eq w.token token) || holds ws token p) other ∙ rest)
      ]
    ]

same_address : (text : Text) (low high p : ℕ) → text.first ≤ text.next → low ≤ p → p ≤ high → has_address text p ≡ has_address (within text low high) p
same_address text low high p ordered ge le =
    let part = within text low high in
    same_truth (has_address text p) (has_address part p)
    (λ e.
    let at = and_parts (leb text.first p) (ltb p text.next) e in
    let from = leb-true text.first p at.0 in
    let below = ltb-true p text.next at.1 in
    and_from (leb part.first p) (ltb p part.next) (le-leb part.first p (omega arith)) (lt-ltb p part.next (omega arith)))
    (λ e.
    let at = and_parts (leb part.first p) (ltb p part.next) e in
    let from = leb-true part.first p at.0 in
    let below = ltb-true p part.next at.1 in
    and_from (leb text.first p) (ltb p text.next) (le-leb text.first p (omega arith)) (lt-ltb p text.next (omega arith)))

pub windows_are_parts : WindowsAreParts
windows_are_parts text low high is =
    let ordered = is.ordered in
    record {
      same = λ p ge le. record {
        address = same_address text low high p ordered ge le;
        words = λ token. holds_inside low high text.words token p (inside_from low high p ge le);
      };
      first = omega arith;
      next = omega arith;
    }

-- places that rise, all at or after an address
abbrev AreRisingPlaces : ℕ → List ℕ → Type 0
AreRisingPlaces from [] = Unit {0}
AreRisingPlaces from (p ∷ ps) = (from ≤ p) × AreRisingPlaces (p + 1) ps

rising_sooner : (from later : ℕ) (ps : List ℕ) → from ≤ later → AreRisingPlaces later ps → AreRisingPlaces from ps
rising_sooner from later [] le r = tt
rising_sooner from later (p ∷ ps) le r = let ge = r.0 in (omega arith, r.1)

places_rise : (next from : ℕ) (words : List Word) (token : List ℕ) → AreRisingBelow next from words → AreRisingPlaces from (places words token)
places_rise next from [] token r = tt
places_rise next from (w ∷ ws) token r =
    let ge = r.0 in
    let rest = places_rise next (w.address + 1) ws token r.2 in
    elim (cases_Bool (bytes_eq w.token token)) [
      | inl e ↦ rw e (ge, rest)
      | inr e ↦ rw e (rising_sooner from (w.address + 1) (places ws token) (omega arith) rest)
    ]

-- the places of the part are those of the whole text there
places_inside : (low high : ℕ) (words : List Word) (token : List ℕ) → places (filter (λ w. inside low high w.address) words) token ≡ filter (inside low high) (places words token)
places_inside low high [] token = refl
places_inside low high (w ∷ ws) token =
    let rest = places_inside low high ws token in
    elim (cases_Bool (inside low high w.address)) [
      | inl e ↦ elim (cases_Bool (bytes_eq w.token token)) [
        | inl t ↦ rw e (rw t (rw e (ap (λ ps. w.address ∷ ps) rest)))
        | inr f ↦ rw e (rw f rest)
      ]
      | inr e ↦ elim (cases_Bool (bytes_eq w.token token)) [ inl t ↦ rw e (rw t (rw e rest)) | inr f ↦ rw e (rw f rest) ]
    ]

-- none lies between the two addresses if all lie above
none_above : (low high from : ℕ) (test : ℕ → Bool) (ps : List ℕ) → high < from → AreRisingPlaces from ps → find test (filter (inside low high) ps) ≡ None
none_above low high from test [] above r = refl
none_above low high from test (p ∷ ps) above r =
    let ge = r.0 in
    elim (cases_Bool (inside low high p)) [
      | inl e ↦ let at = inside_tells low high p e in let le = at.1 in absurd (omega arith)
      | inr e ↦ rw e (none_above low high (p + 1) test ps (omega arith) r.1)
    ]

-- the first one at or after k is the first at or after k and `low`, if that is no greater than `high`
first_inside : (low high k from : ℕ) (ps : List ℕ) → AreRisingPlaces from ps → find (λ p. leb k p) (filter (inside low high) ps) ≡ up_to_high (find (λ p. leb (max k low) p) ps) high
first_inside low high k from [] r = refl
first_inside low high k from (p ∷ ps) r =
    elim (cases_Bool (leb (max k low) p)) [
      | inl e ↦
          let ge = leb-true (max k low) p e in
          elim (cases_Bool (leb p high)) [
            | inl h ↦ rw e (rw (and_from (leb low p) (leb p high) (le-leb low p (omega arith)) h) (rw h (rw (le-leb k p (omega arith)) refl)))
            | inr h ↦
                let above = leb-false p high h in
                none_above low high p (λ p. leb k p) (p ∷ ps) above (le_refl p, r.1) ∙ rw e (rw h refl)
          ]
      | inr e ↦
          let below = leb-false (max k low) p e in
          let rest = first_inside low high k (p + 1) ps r.1 in
          elim (cases_Bool (inside low high p)) [
            | inl i ↦ let at = inside_tells low high p i in
                let ge_low = at.0 in
                rw e (rw i (rw (lt-leb k p (omega arith)) rest))
            | inr i ↦ rw e (rw i rest)
          ]
    ]

-- what is found is no less than where the places begin
last_from : (test : ℕ → Bool) (from : ℕ) (ps : List ℕ) (q : ℕ) → AreRisingPlaces from ps → find_last test ps ≡ Some q → from ≤ q
last_from test from [] q r e = absurd cc
last_from test from (p ∷ ps) q r e = step (find_last test ps) (test p) (λ x is. last_from test (p + 1) ps x r.1 is) e
  where
    step : (o : Option ℕ) (b : Bool) → ((x : ℕ) → o ≡ Some x → p + 1 ≤ x) → later_or o (cond b (Some p) None) ≡ Some q → from ≤ q
    step None true later h = let ge = r.0 in let same : p ≡ q = cc in omega arith
    step None false later h = absurd cc
    step (Some x) b later h = let ge = r.0 in let after = later x refl in let same : x ≡ q = cc in omega arith

-- the last one up to k is the last up to k and `high`, if that is no less than `low`
last_inside : (low high k from : ℕ) (ps : List ℕ) → AreRisingPlaces from ps → find_last (λ p. leb p k) (filter (inside low high) ps) ≡ from_low (find_last (λ p. leb p (min k high)) ps) low
last_inside low high k from [] r = refl
last_inside low high k from (p ∷ ps) r =
    step (find_last (λ p. leb p (min k high)) ps) (λ q is. last_from (λ p. leb p (min k high)) (p + 1) ps q r.1 is) (last_inside low high k (p + 1) ps r.1)
  where
    step : (o : Option ℕ) → ((q : ℕ) → o ≡ Some q → p + 1 ≤ q) → find_last (λ p. leb p k) (filter (inside low high) ps) ≡ from_low o low
        → find_last (λ p. leb p k) (filter (inside low high) (p ∷ ps)) ≡ from_low (later_or o (cond (leb p (min k high)) (Some p) None)) low
    step None later is =
        elim (cases_Bool (inside low high p)) [
          | inl e ↦
              let at = inside_tells low high p e in
              let ge = at.0 in
              let le = at.1 in
              rw e (ap (λ l. later_or l (cond (leb p k) (Some p) None)) is ∙ elim (cases_Bool (leb p k)) [
                | inl t ↦ let le_k = leb-true p k t in rw t (rw (le-leb p (min k high) (omega arith)) (rw (le-leb low p ge) refl))
                | inr f ↦ let gt = leb-false p k f in rw f (rw (lt-leb p (min k high) (omega arith)) refl)
              ])
          | inr e ↦
              rw e (is ∙ elim (cases_Bool (leb p (min k high))) [
                | inl t ↦
                    let le = leb-true p (min k high) t in
                    elim (cases_Bool (leb low p)) [
                      | inl l ↦ absurd (true≢false (sym (and_from (leb low p) (leb p high) l (le-leb p high (omega arith))) ∙ e))
                      | inr g ↦ rw t (rw g refl)
                    ]
                | inr f ↦ rw f refl
              ])
        ]
    step (Some q) later is =
        let lt = later q refl in
        elim (cases_Bool (inside low high p)) [
          | inl e ↦
              let at = inside_tells low high p e in
              let ge = at.0 in
              rw e (ap (λ l. later_or l (cond (leb p k) (Some p) None)) is ∙ rw (le-leb low q (omega arith)) refl)
          | inr e ↦ rw e is
        ]

-- above `high` there is none
none_from : (low high k : ℕ) (ps : List ℕ) → high < k → find (λ p. leb k p) (filter (inside low high) ps) ≡ None
none_from low high k [] above = refl
none_from low high k (p ∷ ps) above =
    elim (cases_Bool (inside low high p)) [
      | inl e ↦
          let at = inside_tells low high p e in
          let le = at.1 in
          rw e (rw (lt-leb k p (omega arith)) (none_from low high k ps above))
      | inr e ↦ rw e (none_from low high k ps above)
    ]

-- and below `low`
none_upto : (low high k : ℕ) (ps : List ℕ) → k < low → find_last (λ p. leb p k) (filter (inside low high) ps) ≡ None
none_upto low high k [] below = refl
none_upto low high k (p ∷ ps) below =
    elim (cases_Bool (inside low high p)) [
      | inl e ↦
          let at = inside_tells low high p e in
          let ge = at.0 in
          rw e (rw (lt-leb p k (omega arith)) (rw (none_upto low high k ps below) refl))
      | inr e ↦ rw e (none_upto low high k ps below)
    ]

-- what the part holds, from what was found in the whole text
pub next_within : (text : Text) (low high k asked : ℕ) (token : List ℕ) (found result : Option ℕ) → IsText text → asked ≡ max k low → found ≡ next_place text.words token asked → result ≡ up_to_high found high
    → result ≡ next_place (within text low high).words token k
next_within text low high k asked token found result sound from is given =
    given
    ∙ ap (λ o. up_to_high o high) (is ∙ ap (next_place text.words token) from)
    ∙ sym (first_inside low high k text.first (places text.words token) (places_rise text.next text.first text.words token sound.rising))
    ∙ sym (ap (find (λ p. leb k p)) (places_inside low high text.words token))

pub previous_within : (text : Text) (low high k asked : ℕ) (token : List ℕ) (found result : Option ℕ) → IsText text → asked ≡ min k high → found ≡ previous_place text.words token asked → result ≡ from_low found low
    → result ≡ previous_place (within text low high).words token k
previous_within text low high k asked token found result sound from is given =
    given
    ∙ ap (λ o. from_low o low) (is ∙ ap (previous_place text.words token) from)
    ∙ sym (last_inside low high k text.first (places text.words token) (places_rise text.next text.first text.words token sound.rising))
    ∙ sym (ap (find_last (λ p. leb p k)) (places_inside low high text.words token))

-- if no look-up is needed
pub none_next : (text : Text) (low high k : ℕ) (token : List ℕ) → high < k → None ≡ next_place (within text low high).words token k
none_next text low high k token above = sym (ap (find (λ p. leb k p)) (places_inside low high text.words token) ∙ none_from low high k (places text.words token) above)

pub none_previous : (text : Text) (low high k : ℕ) (token : List ℕ) → k < low → None ≡ previous_place (within text low high).words token k
none_previous text low high k token below = sym (ap (find_last (λ p. leb p k)) (places_inside low high text.words token) ∙ none_upto low high k (places text.words token) below)
