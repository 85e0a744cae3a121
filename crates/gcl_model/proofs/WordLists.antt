-- Words at rising addresses: what joining and filtering keep, and where a look-up finds nothing.
use Rattle.std.proofs.Common.{◌≡◌, ℕ, ◌+◌, ◌<◌, ◌≤◌, Bool, false, leb, List, [], ◌∷◌, ◌++◌, map, filter, find, None, inl, inr, ap, ◌∙◌, arith, refl, bytes_eq}
use Rattle.std.specs.Option.{option_or}
use Rattle.std.proofs.lemmas.Bool.{lt-leb, cases_Bool}
use Rattle.std.proofs.lemmas.List.{map-append}
use Rattle.std.proofs.lemmas.List.Elements.{filter-append}
use Rattle.std.proofs.lemmas.List.Folds.{find-append}
use Rattle.gcl_model.specs.Access.{later_or, find_last}
use Rattle.gcl_model.specs.Texts.{Word, AreRisingBelow, places, next_place, previous_place}
use Rattle.gcl_model.proofs.Lists.{find_last-append}

-- what rises at or after a later address also rises at or after an earlier one
pub rising_earlier : (next low later : ℕ) (words : List Word) → low ≤ later → AreRisingBelow next later words → AreRisingBelow next low words
rising_earlier next low later [] le r = tt
rising_earlier next low later (w ∷ ws) le r = let h = r.0 in (omega arith, r.1, r.2)

pub rising_filter : (next low : ℕ) (test : Word → Bool) (words : List Word) → AreRisingBelow next low words → AreRisingBelow next low (filter test words)
rising_filter next low test [] r = tt
rising_filter next low test (w ∷ ws) r =
    let le = r.0 in
    let rest = rising_filter next (w.address + 1) test ws r.2 in
    elim (cases_Bool (test w)) [
      | inl e ↦ rw e (r.0, r.1, rest)
      | inr e ↦ rw e (rising_earlier next low (w.address + 1) (filter test ws) (omega arith) rest)
    ]

pub rising_append : (low mid end : ℕ) (xs ys : List Word) → AreRisingBelow mid low xs → AreRisingBelow end mid ys → low ≤ mid → mid ≤ end → AreRisingBelow end low (xs ++ ys)
rising_append low mid end [] ys p q le le' = rising_earlier end low mid ys le q
rising_append low mid end (x ∷ xs) ys p q le le' = let h = p.1 in (p.0, omega arith, rising_append (x.address + 1) mid end xs ys p.2 q (omega arith) le')

pub places-append : (xs ys : List Word) (token : List ℕ) → places (xs ++ ys) token ≡ places xs token ++ places ys token
places-append xs ys token =
    ap (map (λ w. w.address)) (filter-append (λ w. bytes_eq w.token token) xs ys)
    ∙ map-append (λ w. w.address) (filter (λ w. bytes_eq w.token token) xs) (filter (λ w. bytes_eq w.token token) ys)

-- the next place among words that are joined is that among the first of them, or among the others
pub next_place-append : (xs ys : List Word) (token : List ℕ) (k : ℕ) → next_place (xs ++ ys) token k ≡ option_or (next_place xs token k) (next_place ys token k)
next_place-append xs ys token k = ap (find (λ p. leb k p)) (places-append xs ys token) ∙ find-append (λ p. leb k p) (places xs token) (places ys token)

-- the previous place is that among the others, or among the first of them
pub previous_place-append : (xs ys : List Word) (token : List ℕ) (k : ℕ) → previous_place (xs ++ ys) token k ≡ later_or (previous_place ys token k) (previous_place xs token k)
previous_place-append xs ys token k = ap (find_last (λ p. leb p k)) (places-append xs ys token) ∙ find_last-append (λ p. leb p k) (places xs token) (places ys token)

-- words before k have no next place, and words after it no previous one
pub none_next : (next low : ℕ) (words : List Word) (token : List ℕ) (k : ℕ) → AreRisingBelow next low words → next ≤ k → next_place words token k ≡ None
none_next next low [] token k r le = refl
none_next next low (w ∷ ws) token k r le =
    let under : w.address < next = r.1 in
    let rest : next_place ws token k ≡ None = none_next next (w.address + 1) ws token k r.2 le in
    let before : leb k w.address ≡ false = lt-leb k w.address (omega arith) in
    elim (cases_Bool (bytes_eq w.token token)) [ inl t ↦ rw (t, before) rest | inr f ↦ rw f rest ]

pub none_previous : (next low : ℕ) (words : List Word) (token : List ℕ) (k : ℕ) → AreRisingBelow next low words → k < low → previous_place words token k ≡ None
none_previous next low [] token k r lt = refl
none_previous next low (w ∷ ws) token k r lt =
    let from : low ≤ w.address = r.0 in
    let rest : previous_place ws token k ≡ None = none_previous next (w.address + 1) ws token k r.2 (omega arith) in
    let after : leb w.address k ≡ false = lt-leb w.address k (omega arith) in
    elim (cases_Bool (bytes_eq w.token token)) [ inl t ↦ rw (t, rest, after) refl | inr f ↦ rw f rest ]
