-- Which made file has a name.
use Rattle.std.proofs.Common.{◌≡◌, ℕ, zero, suc, ◌+◌, ◌-◌, ◌^◌, ◌<◌, ◌≤◌, Bool, true, false, List, [], ◌∷◌, length, take, drop, get_or, Option, None, Some, refl, sym, ap, ◌∙◌, arith}
use Rattle.std.specs.Prelude.{bytes_eq, find, decimal}
use Rattle.std.specs.List.{range_with_len}
use Rattle.std.proofs.lemmas.List.{take_rest}
use Rattle.std.proofs.lemmas.Slice.Eq.{bytes_eq-Decides}
use Rattle.std.proofs.lemmas.Fmt.{decimal_injective}
use Rattle.std.proofs.lemmas.Bool.{false_from_ne_true, cond-true, cond-false}
use Rattle.made_corpus.specs.MadeFiles.{name_of, file_named}

-- no number of the range passes
find-none : (p : ℕ → Bool) (a n : ℕ) → ((k : ℕ) → a ≤ k → k < a + n → p k ≡ false) → find p (range_with_len a n) ≡ None
find-none p a zero none = refl
find-none p a (suc n) none =
    cond-false (p a) (Some a) (find p (range_with_len (a + 1) n)) (none a (omega arith) (omega arith))
    ∙ find-none p (a + 1) n (λ k low high. none k (omega arith) (omega arith))

-- one number of the range passes, and none before it
find-at : (p : ℕ → Bool) (a d n k : ℕ) → k ≡ a + d → d < n → p k ≡ true → ((j : ℕ) → j < k → p j ≡ false) → find p (range_with_len a n) ≡ Some k
find-at p a d zero k is few here before = absurd (omega arith)
find-at p a zero (suc n) k is few here before =
    let same : k ≡ a = omega arith in
    rw same (cond-true (p a) (Some a) (find p (range_with_len (a + 1) n)) (ap p (sym same) ∙ here))
find-at p a (suc d) (suc n) k is few here before =
    cond-false (p a) (Some a) (find p (range_with_len (a + 1) n)) (before a (omega arith)) ∙ find-at p (a + 1) d n k (omega arith) (omega arith) here before

-- a name that is that of no file
pub file_named-none : (count : ℕ) (name : List ℕ) → ((i : ℕ) → i < count → name ≡ name_of i → ⊥) → file_named count name ≡ None
file_named-none count name none =
    find-none (λ i. bytes_eq name (name_of i)) 0 count
    (λ k low high. false_from_ne_true (bytes_eq name (name_of k)) (λ same. none k (omega arith) ((bytes_eq-Decides name (name_of k)).0 same)))

-- the name of a file
pub file_named-some : (count : ℕ) (name : List ℕ) (i : ℕ) → i < count → count < 2 ^ 64 → name ≡ name_of i → file_named count name ≡ Some i
file_named-some count name i before fits is =
    find-at (λ j. bytes_eq name (name_of j)) 0 i count i (omega arith) before ((bytes_eq-Decides name (name_of i)).1 is)
    (λ j low. false_from_ne_true (bytes_eq name (name_of j)) (λ same.
    let both : decimal j ≡ decimal i = ap (drop 1) (sym ((bytes_eq-Decides name (name_of j)).0 same) ∙ is) in
    let one : j ≡ i = decimal_injective j i (omega arith) (omega arith) both in
    absurd (omega arith)))

-- what begins with an m
pub begins_m : (name : List ℕ) → 0 < length name → get_or name 0 0 ≡ 109 → name ≡ 109 ∷ drop 1 name
begins_m [] some here = absurd (omega arith)
begins_m (b ∷ name) some here = ap (λ first. first ∷ name) here

no_number : (said : Option ℕ) (i : ℕ) → said ≡ None → said ≡ Some i → ⊥
no_number said i none some = cc

one_number : (said : Option ℕ) (n i : ℕ) → said ≡ Some n → said ≡ Some i → n ≡ i
one_number said n i some other = cc

-- what is after the m is no number
pub file_named-no_number : (count : ℕ) (name : List ℕ) (said : Option ℕ) → count < 2 ^ 64 → said ≡ None →
    ((n : ℕ) → n < 2 ^ 64 → take (length name - 1) (drop 1 name) ≡ decimal n → said ≡ Some n) → file_named count name ≡ None
file_named-no_number count name said fits none each =
    file_named-none count name (λ i before is. no_number said i none (each i (omega arith) (take_rest name 1 ∙ ap (drop 1) is)))

-- it is a number, and there are no more files than that
pub file_named-over : (count : ℕ) (name : List ℕ) (said : Option ℕ) (n : ℕ) → count < 2 ^ 64 → count ≤ n → said ≡ Some n →
    ((k : ℕ) → k < 2 ^ 64 → take (length name - 1) (drop 1 name) ≡ decimal k → said ≡ Some k) → file_named count name ≡ None
file_named-over count name said n fits over some each =
    file_named-none count name (λ i before is.
    let same : n ≡ i = one_number said n i some (each i (omega arith) (take_rest name 1 ∙ ap (drop 1) is)) in
    absurd (omega arith))

-- it is the number of a file
pub file_named-number : (count : ℕ) (name : List ℕ) (n : ℕ) → count < 2 ^ 64 → n < count → 0 < length name → get_or name 0 0 ≡ 109 → decimal n ≡ take (length name - 1) (drop 1 name) →
    file_named count name ≡ Some n
file_named-number count name n fits before some here is =
    file_named-some count name n before fits (begins_m name some here ∙ ap (λ rest. 109 ∷ rest) (sym (is ∙ take_rest name 1)))
