-- The first bytes of two terms as numbers, against the order of the terms.
use Rattle.std.proofs.Common.{◌≡◌, ℕ, zero, suc, ◌+◌, ◌-◌, ◌*◌, ◌^◌, ◌<◌, ◌≤◌, List, [], ◌∷◌, length, drop, get_or, nat_cmp, inl, inr, refl, sym, ap, ◌∙◌, subst, arith}
use Rattle.std.specs.declared.cmp.Ordering.TheVariants.{Less, Equal, Greater}
use Rattle.std.specs.Ordering.{ordering_reverse, ordering_then}
use Rattle.std.specs.Cmp.{nat_cmp_is}
use Rattle.std.specs.Cmp.Lexicographic.{slice_cmp}
use Rattle.std.proofs.lemmas.Cmp.{nat_list_cmp_total}
use Rattle.std.proofs.lemmas.Bool.{cases_lt}
use Rattle.index_shard.specs.Kept.{leading, AreBytes}

later : (x : ℕ) (xs : List ℕ) → AreBytes (x ∷ xs) → AreBytes xs
later x xs bytes = λ k. bytes (suc k)

-- a lower number stays lower, whatever bytes are read after it
lower : (n h k : ℕ) (a b : List ℕ) → AreBytes a → h < k → leading n h a < leading n k b
lower zero h k a b bytes lt = lt
lower (suc n) h k [] [] bytes lt = lower n (h * 256) (k * 256) [] [] bytes (omega (arith, lt))
lower (suc n) h k [] (y ∷ ys) bytes lt = lower n (h * 256) (k * 256 + y) [] ys bytes (omega (arith, lt))
lower (suc n) h k (x ∷ xs) [] bytes lt = let low = bytes 0 in lower n (h * 256 + x) (k * 256) xs [] (later x xs bytes) (omega (arith, lt, low))
lower (suc n) h k (x ∷ xs) (y ∷ ys) bytes lt = let low = bytes 0 in lower n (h * 256 + x) (k * 256 + y) xs ys (later x xs bytes) (omega (arith, lt, low))

-- bytes that are not there count least
pub least : (n h k : ℕ) (b : List ℕ) → h ≤ k → leading n h [] ≤ leading n k b
least zero h k b le = le
least (suc n) h k [] le = least n (h * 256) (k * 256) [] (omega (arith, le))
least (suc n) h k (y ∷ ys) le = least n (h * 256) (k * 256 + y) ys (omega (arith, le))

pub at_least : (n h : ℕ) → h ≤ leading n h []
at_least zero h = omega arith
at_least (suc n) h = let more = at_least n (h * 256) in omega (arith, more)

-- if the numbers differ, they decide the order
heads_tell : (n h : ℕ) (a b : List ℕ) → AreBytes a → AreBytes b → leading n h a < leading n h b → slice_cmp nat_cmp a b ≡ Less
heads_tell zero h a b first second lt = absurd (omega (arith, lt))
heads_tell (suc n) h [] [] first second lt = absurd (omega (arith, lt))
heads_tell (suc n) h [] (y ∷ ys) first second lt = refl
heads_tell (suc n) h (x ∷ xs) [] first second lt = let le = least n (h * 256) (h * 256 + x) xs (omega arith) in absurd (omega (arith, lt, le))
heads_tell (suc n) h (x ∷ xs) (y ∷ ys) first second lt =
    elim (cases_lt x y) [
      | inl before ↦ ap (λ o. ordering_then o (slice_cmp nat_cmp xs ys)) (sym (nat_cmp_is x y Less before))
      | inr past ↦ elim (cases_lt y x) [
        | inl behind ↦ let greater = lower n (h * 256 + y) (h * 256 + x) ys xs (later y ys second) (omega (arith, behind)) in absurd (omega (arith, lt, greater))
        | inr level ↦
            let same : x ≡ y = omega (arith, past, level) in
            ap (λ o. ordering_then o (slice_cmp nat_cmp xs ys)) (sym (nat_cmp_is x y Equal same))
            ∙ heads_tell n (h * 256 + x) xs ys (later x xs first) (later y ys second) (subst (λ z. leading n (h * 256 + x) xs < leading n (h * 256 + z) ys) (sym same) lt)
      ]
    ]

-- one more on both sides changes no order
next_cmp : (a b : ℕ) → nat_cmp (suc a) (suc b) ≡ nat_cmp a b
next_cmp a b =
    elim (cases_lt a b) [
      | inl before ↦ sym (nat_cmp_is (suc a) (suc b) Less (omega (arith, before))) ∙ nat_cmp_is a b Less before
      | inr past ↦ elim (cases_lt b a) [
        | inl behind ↦ sym (nat_cmp_is (suc a) (suc b) Greater (omega (arith, behind))) ∙ nat_cmp_is a b Greater behind
        | inr level ↦ sym (nat_cmp_is (suc a) (suc b) Equal (omega (arith, past, level))) ∙ nat_cmp_is a b Equal (omega (arith, past, level))
      ]
    ]

-- if the numbers are equal and have all bytes of one, the shorter one comes first
pub shorter_first : (n h : ℕ) (a b : List ℕ) → AreBytes a → AreBytes b → length a ≤ n → leading n h a ≡ leading n h b → nat_cmp (length a) (length b) ≡ slice_cmp nat_cmp a b
shorter_first n h [] [] first second few same = refl
shorter_first n h [] (y ∷ ys) first second few same = sym (nat_cmp_is 0 (suc (length ys)) Less (omega arith))
shorter_first zero h (x ∷ xs) b first second few same = absurd (omega (arith, few))
shorter_first (suc n) h (x ∷ xs) [] first second few same = sym (nat_cmp_is (suc (length xs)) 0 Greater (omega arith))
shorter_first (suc n) h (x ∷ xs) (y ∷ ys) first second few same =
    elim (cases_lt x y) [
      | inl before ↦ let lt = lower n (h * 256 + x) (h * 256 + y) xs ys (later x xs first) (omega (arith, before)) in absurd (omega (arith, lt, same))
      | inr past ↦ elim (cases_lt y x) [
        | inl behind ↦ let lt = lower n (h * 256 + y) (h * 256 + x) ys xs (later y ys second) (omega (arith, behind)) in absurd (omega (arith, lt, same))
        | inr level ↦
            let is : x ≡ y = omega (arith, past, level) in
            let rest = subst (λ z. leading n (h * 256 + x) xs ≡ leading n (h * 256 + z) ys) (sym is) same in
            next_cmp (length xs) (length ys)
            ∙ shorter_first n (h * 256 + x) xs ys (later x xs first) (later y ys second) (omega (arith, few)) rest
            ∙ ap (λ o. ordering_then o (slice_cmp nat_cmp xs ys)) (nat_cmp_is x y Equal is)
      ]
    ]

-- so to compare the numbers first gives the order of the terms
pub heads_first : (n : ℕ) (a b : List ℕ) → AreBytes a → AreBytes b → ordering_then (nat_cmp (leading n 0 a) (leading n 0 b)) (slice_cmp nat_cmp a b) ≡ slice_cmp nat_cmp a b
heads_first n a b first second =
    let p = leading n 0 a in
    let q = leading n 0 b in
    let rest = slice_cmp nat_cmp a b in
    elim (cases_lt p q) [
      | inl before ↦ ap (λ o. ordering_then o rest) (sym (nat_cmp_is p q Less before)) ∙ sym (heads_tell n 0 a b first second before)
      | inr past ↦ elim (cases_lt q p) [
        | inl behind ↦
            ap (λ o. ordering_then o rest) (sym (nat_cmp_is p q Greater behind)) ∙ sym (nat_list_cmp_total.antisymm a b ∙ ap ordering_reverse (heads_tell n 0 b a second first behind))
        | inr level ↦ ap (λ o. ordering_then o rest) (sym (nat_cmp_is p q Equal (omega (arith, past, level))))
      ]
    ]

none_next : (n m h b : ℕ) → n ≡ m → b ≡ 0 → leading n (h * 256) [] ≡ leading m (h * 256 + b) []
none_next n m h b same is = let e : h * 256 ≡ h * 256 + b = omega (arith, is) in ap (λ k. leading k (h * 256) []) same ∙ ap (λ k. leading m k []) e

-- one byte more of a number
pub leading_next : (n m h i j : ℕ) (bytes : List ℕ) (b : ℕ) → n ≡ suc m → j ≡ suc i → b ≡ get_or bytes i 0 → leading n h (drop i bytes) ≡ leading m (h * 256 + b) (drop j bytes)
leading_next zero m h i j bytes b n_is j_is is = absurd (omega (arith, n_is))
leading_next (suc n) m h i zero bytes b n_is j_is is = absurd (omega (arith, j_is))
leading_next (suc n) m h zero (suc j) [] b n_is j_is is = none_next n m h b (omega (arith, n_is)) is
leading_next (suc n) m h (suc i) (suc j) [] b n_is j_is is = none_next n m h b (omega (arith, n_is)) is
leading_next (suc n) m h zero (suc j) (x ∷ xs) b n_is j_is is =
    let same : n ≡ m = omega (arith, n_is) in
    let none : 0 ≡ j = omega (arith, j_is) in
    ap (λ k. leading k (h * 256 + x) xs) same ∙ ap (λ k. leading m (h * 256 + k) xs) (sym is) ∙ ap (λ k. leading m (h * 256 + b) (drop k xs)) none
leading_next (suc n) m h (suc i) (suc j) (x ∷ xs) b n_is j_is is = leading_next (suc n) m h i j xs b n_is (omega (arith, j_is)) is

-- and it stays within 64 bits
pub room_next : (n m h b : ℕ) → n ≡ suc m → b < 256 → leading m (h * 256 + b + 1) [] ≤ leading n (h + 1) []
room_next zero m h b n_is byte = absurd (omega (arith, n_is))
room_next (suc n) m h b n_is byte =
    let same : n ≡ m = omega (arith, n_is) in
    subst (λ k. leading m (h * 256 + b + 1) [] ≤ leading k ((h + 1) * 256) []) (sym same) (least m (h * 256 + b + 1) ((h + 1) * 256) [] (omega (arith, byte)))

pub head_room : (n m h b : ℕ) → n ≡ suc m → b < 256 → leading n (h + 1) [] ≤ 2 ^ 64 → (h * 256 + b < 2 ^ 64) × (leading m (h * 256 + b + 1) [] ≤ 2 ^ 64)
head_room n m h b n_is byte room =
    let next = room_next n m h b n_is byte in
    let more = at_least m (h * 256 + b + 1) in
    (omega (arith, room, next, more), omega (arith, room, next))

pub head_done : (i h : ℕ) (bytes : List ℕ) (whole : ℕ) → leading (8 - i) h (drop i bytes) ≡ whole → 8 ≤ i → h ≡ whole
head_done i h bytes whole read past = let none : 0 ≡ 8 - i = omega (arith, past) in ap (λ n. leading n h (drop i bytes)) none ∙ read
