-- The members of a term: one for each place of it.
use Rattle.std.proofs.Common.{◌≡◌, ℕ, zero, suc, ◌+◌, ◌-◌, ◌<◌, ◌≤◌, Bool, true, false, eqb, List, [], ◌∷◌, ◌++◌, cond, length, map, flat_map, filter, bytes_eq, refl, sym, ap, ◌∙◌, subst, arith, le_refl, inl, inr}
use Rattle.std.specs.List.{range_with_len}
use Rattle.std.proofs.lemmas.Bool.{cases_Bool, cases_lt, eq-eqb, ne_eqb}
use Rattle.std.proofs.lemmas.List.{length-map}
use Rattle.std.proofs.lemmas.List.Elements.{filter-append}
use Rattle.gcl_model.specs.Extents.{Extent, extent}
use Rattle.gcl_model.specs.Forms.{term}
use Rattle.gcl_model.specs.Meaning.{concordance, is_term}
use Rattle.gcl_model.specs.Texts.{Text, Word, IsText, AreRisingBelow, holds, places}
use Rattle.gcl_model.proofs.Places.{point}

-- no address before the words holds a token
holds_before : (next low : ℕ) (words : List Word) (token : List ℕ) (p : ℕ) → AreRisingBelow next low words → p < low → holds words token p ≡ false
holds_before next low [] token p r lt = refl
holds_before next low (w ∷ ws) token p r lt =
    let first = r.0 in
    let other : eqb w.address p ≡ false = ne_eqb w.address p (λ is. absurd (omega (arith, is, first, lt))) in
    rw other (holds_before next (w.address + 1) ws token p r.2 (omega (arith, first, lt)))

-- among the addresses starting at p, those that a test passes as words hold a token are its places
pub marked : (test : ℕ → Bool) (words : List Word) (token : List ℕ) (n p end : ℕ) → end ≡ p + n → AreRisingBelow end p words → ((q : ℕ) → p ≤ q → test q ≡ holds words token q) → filter test (range_with_len p n) ≡ places words token
marked test [] token zero p end is r tells = refl
marked test (w ∷ ws) token zero p end is r tells = let a = r.0 in let b = r.1 in absurd (omega (arith, a, b, is))
marked test [] token (suc n) p end is r tells =
    let none : test p ≡ false = tells p (le_refl p) in
    rw none (marked test [] token n (p + 1) end (omega (arith, is)) tt (λ q le. tells q (omega (arith, le))))
marked test (w ∷ ws) token (suc n) p end is r tells =
    let a = r.0 in
    elim (cases_lt p w.address) [
      | inl before ↦
          let none : test p ≡ false = tells p (le_refl p) ∙ holds_before end (p + 1) (w ∷ ws) token p (omega (arith, before), r.1, r.2) (omega arith) in
          rw none (marked test (w ∷ ws) token n (p + 1) end (omega (arith, is)) (omega (arith, before), r.1, r.2) (λ q le. tells q (omega (arith, le))))
      | inr upto ↦
          let at : w.address ≡ p = omega (arith, a, upto) in
          let here : eqb w.address p ≡ true = eq-eqb w.address p at in
          let behind : AreRisingBelow end (p + 1) ws = subst (λ x. AreRisingBelow end (x + 1) ws) at r.2 in
          let no_other = holds_before end (p + 1) ws token p behind (omega arith) in
          let later : (q : ℕ) → p + 1 ≤ q → holds (w ∷ ws) token q ≡ holds ws token q =
          λ q le. let other : eqb w.address q ≡ false = ne_eqb w.address q (λ same. absurd (omega (arith, same, at, le))) in rw other refl in
          let rest = marked test ws token n (p + 1) end (omega (arith, is)) behind (λ q le. tells q (omega (arith, le)) ∙ later q le) in
          elim (cases_Bool (bytes_eq w.token token)) [
            | inl e ↦
                let some : test p ≡ true = tells p (le_refl p) ∙ rw (here, e) refl in
                rw (some, e) (ap (λ ps. p ∷ ps) rest ∙ ap (λ x. x ∷ places ws token) (sym at))
            | inr e ↦
                let none : test p ≡ false = tells p (le_refl p) ∙ rw (here, e) no_other in
                rw (none, e) rest
          ]
    ]

-- a row of extents that are longer than one address
longer : (test : Extent → Bool) (p : ℕ) → ((q : ℕ) → p < q → test (extent p q) ≡ false) → (n q : ℕ) → p < q → filter test (map (λ e. extent p e) (range_with_len q n)) ≡ []
longer test p fails zero q lt = refl
longer test p fails (suc n) q lt = let none = fails q lt in rw none (longer test p fails n (q + 1) (omega (arith, lt)))

-- if single addresses alone pass a test, those are the extents that pass
pub points_pass : (test : Extent → Bool) (at : ℕ → Bool) (next : ℕ) → ((p q : ℕ) → p < q → test (extent p q) ≡ false) → ((p : ℕ) → test (extent p p) ≡ at p) → (n p : ℕ) → p + n ≤ next →
    filter test (flat_map (λ s. map (λ e. extent s e) (range_with_len s (next - s))) (range_with_len p n)) ≡ map point (filter at (range_with_len p n))
points_pass test at next fails tells zero p le = refl
points_pass test at next fails tells (suc n) p le =
    let rest = points_pass test at next fails tells n (p + 1) (omega (arith, le)) in
    let row = λ (s : ℕ). map (λ e. extent s e) (range_with_len s (next - s)) in
    let some : next - p ≡ suc (next - p - 1) = omega (arith, le) in
    let split : filter test (row p ++ flat_map row (range_with_len (p + 1) n)) ≡ filter test (row p) ++ filter test (flat_map row (range_with_len (p + 1) n)) = filter-append test (row p) (flat_map row (range_with_len (p + 1) n)) in
    let none = longer test p (fails p) (next - p - 1) (p + 1) (omega arith) in
    split
    ∙ ap (λ es. filter test (row p) ++ es) rest
    ∙ ap (λ m. filter test (map (λ e. extent p e) (range_with_len p m)) ++ map point (filter at (range_with_len (p + 1) n))) some
    ∙ here (test (extent p p)) (at p) (tells p) (filter test (map (λ e. extent p e) (range_with_len (p + 1) (next - p - 1)))) (filter at (range_with_len (p + 1) n)) none
  where
    here : (b c : Bool) → b ≡ c → (longer : List Extent) (ps : List ℕ) → longer ≡ [] → cond b (extent p p ∷ longer) longer ++ map point ps ≡ map point (cond c (p ∷ ps) ps)
    here true true is longer ps none = ap (λ es. (extent p p ∷ es) ++ map point ps) none
    here false false is longer ps none = ap (λ es. es ++ map point ps) none
    here true false is longer ps none = absurd cc
    here false true is longer ps none = absurd cc

-- the members of a term are its places
pub term_members : (text : Text) (token : List ℕ) → IsText text → concordance text (term token) ≡ map point (places text.words token)
term_members text token sound =
    let ordered = sound.ordered in
    let n = text.next - text.first in
    points_pass (is_term text token) (holds text.words token) text.next
    (λ p q lt. let other : eqb p q ≡ false = ne_eqb p q (λ same. absurd (omega (arith, same, lt))) in rw other refl)
    (λ p. let same : eqb p p ≡ true = eq-eqb p p refl in rw same refl) n text.first (omega (arith, ordered))
    ∙ ap (map point) (marked (holds text.words token) text.words token n text.first text.next (omega (arith, ordered)) sound.rising (λ q le. refl))

pub term_count : (text : Text) (token : List ℕ) → IsText text → length (concordance text (term token)) ≡ length (places text.words token)
term_count text token sound = ap length (term_members text token sound) ∙ length-map (places text.words token) point
