-- Rows of bits.
use Rattle.std.proofs.Common.{◌≡◌, ℕ, ◌+◌, ◌-◌, ◌*◌, ◌/◌, ◌%◌, ◌^◌, ◌<◌, ◌≤◌, true, false, eqb, List, length, length-take, take, replicate, get_or, set, sym, ap, ◌∙◌, inl, inr, arith, bit_or, ext_get_or, length-set, get_or-set_same, get_or-set_other, eq-eqb, w64}
use Rattle.std.specs.Int.{bit_at, trailing_ones}
use Rattle.std.proofs.lemmas.Bool.{cases_eq, cases_lt, eqb-true}
use Rattle.std.proofs.lemmas.List.{length-replicate, get_or-replicate, get_or-take}
use Rattle.std.proofs.lemmas.List.FromFn.{length-map-range_with_len, get_or-map-range_with_len}
use Rattle.std.proofs.lemmas.Nat.Bits.{bit_at_set_same, bit_at_set_other, bit_at-zero, bit_at_ones, bit_at-trailing_ones}
use Rattle.image_read.specs.Bits.{bit_of, bits_of}

pub bits-length : (words : List ℕ) (count : ℕ) → length (bits_of words count) ≡ count
unfolding bits_of
bits-length words count = length-map-range_with_len (bit_of words) 0 count

pub bits-at : (words : List ℕ) (count k : ℕ) → k < count → get_or (bits_of words count) k false ≡ bit_of words k
unfolding bits_of
bits-at words count k lt = get_or-map-range_with_len (bit_of words) 0 count k k false lt (omega arith)

pub bits-zeros : (n count : ℕ) → count ≤ 64 * n → bits_of (replicate n 0) count ≡ replicate count false
bits-zeros n count room =
    ext_get_or false _ _ (bits-length (replicate n 0) count ∙ sym (length-replicate count false))
    (λ k lt.
    let within : k < count = rw bits-length at lt in
    let word : k / 64 < n = omega (arith, within, room) in
    bits-at (replicate n 0) count k within
    ∙ ap (λ x. eqb (bit_at x (k % 64)) 1) (get_or-replicate n (k / 64) 0 0 word)
    ∙ ap (λ x. eqb x 1) (bit_at-zero (k % 64))
    ∙ sym (get_or-replicate count k false false within))

pub bits-set : (words : List ℕ) (count n word : ℕ) → count ≤ 64 * length words → n < count → word ≡ get_or words (n / 64) 0
    → bits_of (set words (n / 64) (bit_or word (1 * 2 ^ (n % 64) % 2 ^ 64))) count ≡ set (bits_of words count) n true
bits-set words count n word room within read =
    let v : ℕ = bit_or word (1 * 2 ^ (n % 64) % 2 ^ 64) in
    let more = set words (n / 64) v in
    let in_row : n < length (bits_of words count) = omega (arith, within, bits-length words count) in
    let word_in : n / 64 < length words = omega (arith, within, room) in
    let low : n % 64 < 64 = omega arith in
    ext_get_or false _ _ (bits-length more count ∙ sym (bits-length words count) ∙ sym (length-set (bits_of words count) n true))
    (λ k lt.
    let k_in : k < count = rw bits-length at lt in
    bits-at more count k k_in
    ∙ (elim (cases_eq k n) as (λ _. bit_of more k ≡ get_or (set (bits_of words count) n true) k false) [
      | inl same ↦
          rw same
          (ap (λ x. eqb (bit_at x (n % 64)) 1) (get_or-set_same words (n / 64) v 0 word_in)
          ∙ eq-eqb _ 1 (bit_at_set_same w64 word (n % 64) low)
          ∙ sym (get_or-set_same (bits_of words count) n true false in_row))
      | inr other ↦
          (elim (cases_eq (k / 64) (n / 64)) as (λ _. bit_of more k ≡ bit_of words k) [
            | inl row ↦
                ap (λ x. eqb (bit_at (get_or more x 0) (k % 64)) 1) row
                ∙ ap (λ x. eqb (bit_at x (k % 64)) 1) (get_or-set_same words (n / 64) v 0 word_in)
                ∙ ap (λ x. eqb x 1) (bit_at_set_other w64 word (n % 64) low (k % 64) (omega arith))
                ∙ ap (λ x. eqb (bit_at x (k % 64)) 1) (read ∙ ap (λ x. get_or words x 0) (sym row))
            | inr apart ↦ ap (λ x. eqb (bit_at x (k % 64)) 1) (get_or-set_other words (n / 64) (k / 64) v 0 apart)
          ])
          ∙ sym (bits-at words count k k_in)
          ∙ sym (get_or-set_other (bits_of words count) n k true false other)
    ]))

-- each bit of a full word is set
pub word_full : (words : List ℕ) (k word : ℕ) → word ≡ get_or words (k / 64) 0 → word ≡ 2 ^ 64 - 1 → bit_of words k ≡ true
word_full words k word is full = ap (λ x. eqb (bit_at x (k % 64)) 1) (sym is ∙ full) ∙ eq-eqb (bit_at (2 ^ 64 - 1) (k % 64)) 1 (bit_at_ones 64 (k % 64) (omega arith))

-- and of any other word one is not
pub word_lacks : (words : List ℕ) (i word : ℕ) → word ≡ get_or words i 0 → word < 2 ^ 64 → (word ≡ 2 ^ 64 - 1 → ⊥) → ((k : ℕ) → k < 64 * (i + 1) → bit_of words k ≡ true) → ⊥
word_lacks words i word is small other full =
    let zero_bit = bit_at-trailing_ones w64 word (omega (arith, small, other)) in
    let t = trailing_ones w64 word in
    let low : t < 64 = zero_bit.0 in
    let k = 64 * i + t in
    let row : k / 64 ≡ i = omega (arith, low) in
    let place : k % 64 ≡ t = omega (arith, low) in
    let set : eqb (bit_at word t) 1 ≡ true =
    ap (λ x. eqb (bit_at x t) 1) is ∙ ap (λ n. eqb (bit_at (get_or words n 0) t) 1) (sym row) ∙ ap (λ n. eqb (bit_at (get_or words (k / 64) 0) n) 1) (sym place) ∙ full k (omega (arith, low)) in
    let one = eqb-true (bit_at word t) 1 set in
    let none = zero_bit.1 in
    omega (arith, one, none)

-- if the bits of the first words are set and those behind them, all are
pub full_marks : (words front : List ℕ) (count : ℕ) → front ≡ take (count / 64) words → count ≤ 64 * length words → ((k : ℕ) → k < 64 * length front → bit_of front k ≡ true) →
    ((k : ℕ) → 64 * (count / 64) ≤ k → k < count → get_or (bits_of words count) k false ≡ true) → (k : ℕ) → k < count → get_or (bits_of words count) k false ≡ true
full_marks words front count is room full behind k lt = elim (cases_lt k (64 * (count / 64))) [
  | inl low ↦
      let row : k / 64 < count / 64 = omega (arith, low) in
      let long = ap length is ∙ length-take (count / 64) words in
      bits-at words count k lt ∙ ap (λ x. eqb (bit_at x (k % 64)) 1) (sym (ap (λ l. get_or l (k / 64) 0) is ∙ get_or-take (count / 64) words (k / 64) 0 row)) ∙ full k (omega (arith, long, row, room))
  | inr high ↦ behind k high lt
]

-- and they are set if all are
pub front_marks : (words front : List ℕ) (count : ℕ) → front ≡ take (count / 64) words → count ≤ 64 * length words → ((k : ℕ) → k < count → get_or (bits_of words count) k false ≡ true) → (k : ℕ) → k < 64 * length front → bit_of front k ≡ true
front_marks words front count is room full k lt =
    let long = ap length is ∙ length-take (count / 64) words in
    let within : k < count = omega (arith, lt, long, room) in
    let row : k / 64 < count / 64 = omega (arith, lt, long, room) in
    ap (λ x. eqb (bit_at x (k % 64)) 1) (ap (λ l. get_or l (k / 64) 0) is ∙ get_or-take (count / 64) words (k / 64) 0 row) ∙ sym (bits-at words count k within) ∙ full k within
