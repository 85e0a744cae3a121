-- How many places of the tokens are between two addresses.
use Rattle.std.proofs.Common.{◌≡◌, ℕ, suc, ◌+◌, ◌<◌, ◌≤◌, Bool, true, false, cond, ◌&&◌, leb, ltb, eqb, List, [], ◌∷◌, length, filter, min, inl, inr, refl, sym, subst, arith, bytes_eq, le_refl}
use Rattle.std.proofs.lemmas.Bool.{true≢false, or_cases, and_parts, and_from, cases_Bool, leb-true, le-leb, ltb-true, lt-ltb, le-ltb, eqb-true}
use Rattle.std.proofs.lemmas.List.Sums.{length-filter, count_by-le-length}
use Rattle.gcl_model.specs.Texts.{Word, is_word, holds, places}
use Rattle.gcl_model.specs.Cost.{fewest_places}
use Rattle.phrase_walk.specs.Rounds.{places_between, fewest_between}
use Rattle.phrase_walk.specs.Starts.{token_at}

-- what passes the one test passes the other one, too
pub fewer_filter : {X : Type 0} (p q : X → Bool) → ((x : X) → p x ≡ true → q x ≡ true) → (xs : List X) → length (filter p xs) ≤ length (filter q xs)
fewer_filter p q each [] = le_refl 0
fewer_filter {X} p q each (x ∷ xs) = here (p x) (q x) (each x) (fewer_filter p q each xs)
  where
    here : (b c : Bool) → (b ≡ true → c ≡ true) → length (filter p xs) ≤ length (filter q xs) → length (cond b (x ∷ filter p xs) (filter p xs)) ≤ length (cond c (x ∷ filter q xs) (filter q xs))
    here true true h le = omega arith
    here true false h le = absurd (true≢false (sym (h refl)))
    here false true h le = omega arith
    here false false h le = le

-- what passes either of two tests passes the third, and nothing passes both
both_filters : {X : Type 0} (p q r : X → Bool) → ((x : X) → p x ≡ true → r x ≡ true) → ((x : X) → q x ≡ true → r x ≡ true) → ((x : X) → p x ≡ true → q x ≡ true → ⊥) → (xs : List X) →
    length (filter p xs) + length (filter q xs) ≤ length (filter r xs)
both_filters p q r first second apart [] = le_refl 0
both_filters {X} p q r first second apart (x ∷ xs) = here (p x) (q x) (r x) (first x) (second x) (apart x) (both_filters p q r first second apart xs)
  where
    here : (a b c : Bool) → (a ≡ true → c ≡ true) → (b ≡ true → c ≡ true) → (a ≡ true → b ≡ true → ⊥) → length (filter p xs) + length (filter q xs) ≤ length (filter r xs) →
        length (cond a (x ∷ filter p xs) (filter p xs)) + length (cond b (x ∷ filter q xs) (filter q xs)) ≤ length (cond c (x ∷ filter r xs) (filter r xs))
    here true true c f s n le = absurd (n refl refl)
    here true false true f s n le = omega arith
    here true false false f s n le = absurd (true≢false (sym (f refl)))
    here false true true f s n le = omega arith
    here false true false f s n le = absurd (true≢false (sym (s refl)))
    here false false true f s n le = omega arith
    here false false false f s n le = le

-- a place is between two addresses
place_between : (from to p : ℕ) → from ≤ p → p < to → (leb from p && ltb p to) ≡ true
place_between from to p ge lt = and_from (leb from p) (ltb p to) (le-leb from p ge) (lt-ltb p to lt)

between_place : (from to p : ℕ) → (leb from p && ltb p to) ≡ true → (from ≤ p) × (p < to)
between_place from to p e = let parts = and_parts (leb from p) (ltb p to) e in (leb-true from p parts.0, ltb-true p to parts.1)

-- between addresses that are further apart there are as many or more
pub between_wider : (words : List Word) (token : List ℕ) (from to low high : ℕ) → low ≤ from → to ≤ high → places_between words token from to ≤ places_between words token low high
between_wider words token from to low high ge le =
    fewer_filter (λ p. leb from p && ltb p to) (λ p. leb low p && ltb p high)
    (λ p e.
    let a : from ≤ p = (between_place from to p e).0 in
    let b : p < to = (between_place from to p e).1 in
    place_between low high p (omega arith) (omega arith))
    (places words token)

-- and at most as many as there are
pub between_most : (words : List Word) (token : List ℕ) (from to : ℕ) → places_between words token from to ≤ length (places words token)
between_most words token from to =
    let test : ℕ → Bool = λ p. leb from p && ltb p to in
    omega (arith, length-filter test (places words token), count_by-le-length test (places words token))

-- what is before an address and what is at or after it are not the same
pub between_parts : (words : List Word) (token : List ℕ) (from at to : ℕ) → from ≤ at → at ≤ to → places_between words token from at + places_between words token at to ≤ places_between words token from to
between_parts words token from at to ge le =
    both_filters (λ p. leb from p && ltb p at) (λ p. leb at p && ltb p to) (λ p. leb from p && ltb p to)
    (λ p e.
    let a : from ≤ p = (between_place from at p e).0 in
    let b : p < at = (between_place from at p e).1 in
    place_between from to p a (omega arith))
    (λ p e.
    let a : at ≤ p = (between_place at to p e).0 in
    let b : p < to = (between_place at to p e).1 in
    place_between from to p (omega arith) b)
    (λ p e f.
    let a : p < at = (between_place from at p e).1 in
    let b : at ≤ p = (between_place at to p f).0 in
    omega arith)
    (places words token)

-- an address that holds the token is one more
pub between_more : (words : List Word) (token : List ℕ) (q from x y : ℕ) → holds words token q ≡ true → from ≤ q → x ≤ q → q < y → places_between words token from x + 1 ≤ places_between words token from y
between_more [] token q from x y e ge le lt = absurd (true≢false (sym e))
between_more (w ∷ ws) token q from x y e ge le lt =
    elim (or_cases (is_word token q w) (holds ws token q) e) [
      | inl h ↦
          let parts = and_parts (eqb w.address q) (bytes_eq w.token token) h in
          let at : w.address ≡ q = eqb-true w.address q parts.0 in
          let rest : places_between ws token from x ≤ places_between ws token from y = between_wider ws token from x from y (le_refl from) (omega arith) in
          rw (parts.1, le-leb from w.address (omega arith), le-ltb w.address x (omega arith), lt-ltb w.address y (omega arith)) (omega arith)
      | inr h ↦
          let rest : places_between ws token from x + 1 ≤ places_between ws token from y = between_more ws token q from x y h ge le lt in
          elim (cases_Bool (bytes_eq w.token token)) [
            | inl b ↦ rw b (grows (leb from w.address && ltb w.address x) (leb from w.address && ltb w.address y)
                (λ t.
                let low : from ≤ w.address = (between_place from x w.address t).0 in
                let high : w.address < x = (between_place from x w.address t).1 in
                place_between from y w.address low (omega arith)) rest)
            | inr b ↦ rw b rest
          ]
    ]
  where
    grows : (a b : Bool) → (a ≡ true → b ≡ true) → places_between ws token from x + 1 ≤ places_between ws token from y →
        length (cond a (w.address ∷ filter (λ p. leb from p && ltb p x) (places ws token)) (filter (λ p. leb from p && ltb p x) (places ws token))) + 1
        ≤ length (cond b (w.address ∷ filter (λ p. leb from p && ltb p y) (places ws token)) (filter (λ p. leb from p && ltb p y) (places ws token)))
    grows true true h rest = omega arith
    grows true false h rest = absurd (true≢false (sym (h refl)))
    grows false true h rest = omega arith
    grows false false h rest = rest

less_of_both : (n p q : ℕ) → n ≤ p → n ≤ q → n ≤ min p q
less_of_both n p q a b = omega arith

both_less : (a b c d : ℕ) → a ≤ c → b ≤ d → min a b ≤ min c d
both_less a b c d x y = omega arith

parts_less : (a b c d e f : ℕ) → a + c ≤ e → b + d ≤ f → min a b + min c d ≤ min e f
parts_less a b c d e f x y = omega arith

first_less : (words : List Word) (token : List ℕ) (from to n : ℕ) → n ≤ places_between words token (from + 0) (to + 0) → n ≤ places_between words token from to
first_less words token from to n le =
    let low : from + 0 ≡ from = omega arith in
    let high : to + 0 ≡ to = omega arith in
    subst (λ h. n ≤ places_between words token from h) high (subst (λ l. n ≤ places_between words token l (to + 0)) low le)

next_less : (words : List Word) (token : List ℕ) (from to n i : ℕ) → n ≤ places_between words token (from + suc i) (to + suc i) → n ≤ places_between words token (from + 1 + i) (to + 1 + i)
next_less words token from to n i le =
    let low : from + suc i ≡ from + 1 + i = omega arith in
    let high : to + suc i ≡ to + 1 + i = omega arith in
    subst (λ h. n ≤ places_between words token (from + 1 + i) h) high (subst (λ l. n ≤ places_between words token l (to + suc i)) low le)

-- what is at most the number of places of each token in its part is so of the rarest
pub fewest_between_of_each : (words : List Word) (tokens : List (List ℕ)) (from to n : ℕ) → 1 ≤ length tokens → ((i : ℕ) → i < length tokens → n ≤ places_between words (token_at tokens i) (from + i) (to + i)) →
    n ≤ fewest_between words tokens from to
fewest_between_of_each words [] from to n some each = absurd (omega arith)
fewest_between_of_each words (token ∷ []) from to n some each = first_less words token from to n (each 0 (omega arith))
fewest_between_of_each words (token ∷ next ∷ tokens) from to n some each =
    less_of_both n (places_between words token from to) (fewest_between words (next ∷ tokens) (from + 1) (to + 1))
    (first_less words token from to n (each 0 (omega arith)))
    (fewest_between_of_each words (next ∷ tokens) (from + 1) (to + 1) n (omega arith)
    (λ i lt. next_less words (token_at (next ∷ tokens) i) from to n i (each (suc i) (omega arith))))

-- the parts of the tokens are as wide as the first one's, and lie as it does
pub fewest_between_wider : (words : List Word) (tokens : List (List ℕ)) (from to low high : ℕ) → low ≤ from → to ≤ high → fewest_between words tokens from to ≤ fewest_between words tokens low high
fewest_between_wider words [] from to low high ge le = le_refl 0
fewest_between_wider words (token ∷ []) from to low high ge le = between_wider words token from to low high ge le
fewest_between_wider words (token ∷ next ∷ tokens) from to low high ge le =
    both_less (places_between words token from to) (fewest_between words (next ∷ tokens) (from + 1) (to + 1)) (places_between words token low high) (fewest_between words (next ∷ tokens) (low + 1) (high + 1))
    (between_wider words token from to low high ge le)
    (fewest_between_wider words (next ∷ tokens) (from + 1) (to + 1) (low + 1) (high + 1) (omega arith) (omega arith))

pub fewest_between_parts : (words : List Word) (tokens : List (List ℕ)) (from at to : ℕ) → from ≤ at → at ≤ to → fewest_between words tokens from at + fewest_between words tokens at to ≤ fewest_between words tokens from to
fewest_between_parts words [] from at to ge le = le_refl 0
fewest_between_parts words (token ∷ []) from at to ge le = between_parts words token from at to ge le
fewest_between_parts words (token ∷ next ∷ tokens) from at to ge le =
    parts_less (places_between words token from at) (fewest_between words (next ∷ tokens) (from + 1) (at + 1)) (places_between words token at to) (fewest_between words (next ∷ tokens) (at + 1) (to + 1))
    (places_between words token from to) (fewest_between words (next ∷ tokens) (from + 1) (to + 1))
    (between_parts words token from at to ge le)
    (fewest_between_parts words (next ∷ tokens) (from + 1) (at + 1) (to + 1) (omega arith) (omega arith))

pub fewest_between_most : (words : List Word) (tokens : List (List ℕ)) (from to : ℕ) → fewest_between words tokens from to ≤ fewest_places words tokens
fewest_between_most words [] from to = le_refl 0
fewest_between_most words (token ∷ []) from to = between_most words token from to
fewest_between_most words (token ∷ next ∷ tokens) from to =
    both_less (places_between words token from to) (fewest_between words (next ∷ tokens) (from + 1) (to + 1)) (length (places words token)) (fewest_places words (next ∷ tokens))
    (between_most words token from to)
    (fewest_between_most words (next ∷ tokens) (from + 1) (to + 1))
