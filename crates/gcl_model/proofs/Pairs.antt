-- Two tokens side by side: what it means that there is no such pair somewhere.
use Rattle.std.proofs.Common.{◌≡◌, ℕ, ◌+◌, ◌<◌, ◌≤◌, Bool, true, false, ◌&&◌, leb, ltb, eqb, List, [], ◌∷◌, inl, inr, refl, sym, ap, ◌∙◌, arith, bytes_eq}
use Rattle.std.specs.List.{list_any}
use Rattle.std.proofs.lemmas.Bool.{true≢false, cases_Bool, or_cases, or_left, or_right, and_parts, and_from, leb-true, le-leb, ltb-true, lt-ltb, eqb-true, eq-eqb}
use Rattle.gcl_model.specs.Texts.{Word, is_word, holds, places, any_pair}

-- if an address that passes a test holds a token, some place of the token passes
place_passes : (test : ℕ → Bool) (words : List Word) (token : List ℕ) (p : ℕ) → holds words token p ≡ true → test p ≡ true → list_any test (places words token) ≡ true
place_passes test [] token p held e = absurd (true≢false (sym held))
place_passes test (w ∷ ws) token p held e =
    elim (or_cases (is_word token p w) (holds ws token p) held) [
      | inl h ↦
          let parts = and_parts (eqb w.address p) (bytes_eq w.token token) h in
          rw parts.1 (or_left (test w.address) (list_any test (places ws token)) (ap test (eqb-true w.address p parts.0) ∙ e))
      | inr h ↦
          let rest = place_passes test ws token p h e in
          elim (cases_Bool (bytes_eq w.token token)) [ inl b ↦ rw b (or_right (test w.address) (list_any test (places ws token)) rest) | inr b ↦ rw b rest ]
    ]

-- if no address that passes a test holds a token, no place of the token passes
no_place_passes : (test : ℕ → Bool) (words : List Word) (token : List ℕ) → ((p : ℕ) → holds words token p ≡ true → test p ≡ true → ⊥) → list_any test (places words token) ≡ false
no_place_passes test [] token none = refl
no_place_passes test (w ∷ ws) token none =
    let rest = no_place_passes test ws token (λ p held e. none p (or_right (is_word token p w) (holds ws token p) held) e) in
    elim (cases_Bool (bytes_eq w.token token)) [
      | inl b ↦ elim (cases_Bool (test w.address)) [
        | inl t ↦ absurd (none w.address (or_left (is_word token w.address w) (holds ws token w.address) (and_from (eqb w.address w.address) (bytes_eq w.token token) (eq-eqb w.address w.address refl) b)) t)
        | inr f ↦ rw (b, f) rest
      ]
      | inr b ↦ rw b rest
    ]

-- a pair that occurs there is found
pub pair_there : (words : List Word) (first second : List ℕ) (k r p : ℕ) → k ≤ p → p < r → holds words first p ≡ true → holds words second (p + 1) ≡ true → any_pair words first second k r ≡ true
pair_there words first second k r p ge lt held behind =
    place_passes (λ q. leb k q && (ltb q r && holds words second (q + 1))) words first p held
    (and_from (leb k p) (ltb p r && holds words second (p + 1)) (le-leb k p ge) (and_from (ltb p r) (holds words second (p + 1)) (lt-ltb p r lt) behind))

-- if there is no pair at any address, none is found
pub no_pair : (words : List Word) (first second : List ℕ) (k r : ℕ) → ((p : ℕ) → k ≤ p → p < r → holds words first p ≡ true → holds words second (p + 1) ≡ true → ⊥) → any_pair words first second k r ≡ false
no_pair words first second k r none =
    no_place_passes (λ q. leb k q && (ltb q r && holds words second (q + 1))) words first
    (λ p held e.
    let parts = and_parts (leb k p) (ltb p r && holds words second (p + 1)) e in
    let both = and_parts (ltb p r) (holds words second (p + 1)) parts.1 in
    none p (leb-true k p parts.0) (ltb-true p r both.0) held both.1)

-- there is none at or after an address and before that same address
pub no_pair_yet : (words : List Word) (first second : List ℕ) (k : ℕ) → any_pair words first second k k ≡ false
no_pair_yet words first second k = no_pair words first second k k (λ p ge lt held behind. omega (arith, ge, lt))
