-- What the look-ups of a token say about the places that hold it.
use Rattle.std.proofs.Common.{◌≡◌, ℕ, ◌+◌, ◌<◌, ◌≤◌, true, eqb, List, [], ◌∷◌, Some, None, inl, inr, refl, sym, ap, ◌∙◌, subst, arith, bytes_eq, le_refl}
use Rattle.std.proofs.lemmas.Bool.{true≢false, or_cases, and_parts, and_from, leb-true, le-leb, eqb-true, eq-eqb}
use Rattle.gcl_model.specs.Extents.{extent, covers, all_extents}
use Rattle.gcl_model.specs.Texts.{Text, Word, is_word, holds, next_place, previous_place, AreRisingBelow, IsText}
use Rattle.gcl_model.specs.Forms.{term}
use Rattle.gcl_model.specs.Meaning.{concordance, denotes}
use Rattle.gcl_model.proofs.Covers.{covered_tells, covered_from}
use Rattle.gcl_model.proofs.Minimal.{filter_has, has_filter, has_extent}
use Rattle.gcl_model.proofs.Reach.{at_most, at_least}
use Rattle.gcl_model.proofs.Places.{term_reaches}

-- the address holds the token
abbrev pub Held : Text → List ℕ → ℕ → Type 0
Held text token p = holds text.words token p ≡ true

-- an address that holds a token is one of the text
pub held_within : (next low : ℕ) (words : List Word) (token : List ℕ) (p : ℕ) → AreRisingBelow next low words → holds words token p ≡ true → (low ≤ p) × (p < next)
held_within next low [] token p r e = absurd (true≢false (sym e))
held_within next low (w ∷ ws) token p r e =
    elim (or_cases (is_word token p w) (holds ws token p) e) [
      | inl h ↦
          let at : w.address ≡ p = eqb-true w.address p (and_parts (eqb w.address p) (bytes_eq w.token token) h).0 in
          let ge : low ≤ w.address = r.0 in
          let lt : w.address < next = r.1 in
          (omega arith, omega arith)
      | inr h ↦
          let rest = held_within next (w.address + 1) ws token p r.2 h in
          let ge : low ≤ w.address = r.0 in
          let a : w.address + 1 ≤ p = rest.0 in
          (omega arith, rest.1)
    ]

-- some address between two holds the token
pub record IsHeldIn (text : Text) (token : List ℕ) (k w : ℕ) : Type 0 where
  pub place : ℕ
  pub held : Held text token place
  pub from : k ≤ place
  pub upto : place ≤ w

covers_held : (text : Text) (token : List ℕ) → IsText text → (p k w : ℕ) → Held text token p → k ≤ p → p ≤ w → covers (concordance text (term token)) (extent k w) ≡ true
covers_held text token sound p k w held from upto =
    let within = held_within text.next text.first text.words token p sound.rising held in
    covered_from (concordance text (term token)) (extent p p) (extent k w)
    (filter_has (denotes text (term token)) (all_extents text.first text.next) (extent p p)
    (has_extent text.first text.next p p within.0 (le_refl p) within.1)
    (and_from _ _ (eq-eqb p p refl) held))
    (from, upto)

held_covered : (text : Text) (token : List ℕ) (k w : ℕ) → covers (concordance text (term token)) (extent k w) ≡ true → IsHeldIn text token k w
held_covered text token k w e =
    let c = covered_tells (concordance text (term token)) (extent k w) e in
    let d = and_parts _ _ (has_filter (denotes text (term token)) (all_extents text.first text.next) c.by c.member).1 in
    let one : c.by.start ≡ c.by.end = eqb-true c.by.start c.by.end d.0 in
    let x : k ≤ c.by.start = c.nested.0 in
    let y : c.by.end ≤ w = c.nested.1 in
    record { place = c.by.start; held = d.1; from = x; upto = omega arith }

-- q is the least place of the token at or after k
pub record IsNext (text : Text) (token : List ℕ) (k q : ℕ) : Type 0 where
  pub held : Held text token q
  pub from : k ≤ q
  pub least : (p : ℕ) → Held text token p → k ≤ p → q ≤ p
  pub within : q < text.next

-- q is the greatest place of the token up to k
pub record IsPrevious (text : Text) (token : List ℕ) (k q : ℕ) : Type 0 where
  pub held : Held text token q
  pub upto : q ≤ k
  pub greatest : (p : ℕ) → Held text token p → p ≤ k → p ≤ q

module _ (text : Text) (token : List ℕ) (sound : IsText text) where
  next_least : (k q : ℕ) → next_place text.words token k ≡ Some q → (p : ℕ) → Held text token p → k ≤ p → q ≤ p
  next_least k q is p held from =
      let reach = term_reaches text token sound in
      leb-true q p (sym (reach.forward_is k p ∙ ap (λ o. at_most o p) is) ∙ covers_held text token sound p k p held from (le_refl p))

  pub next_tells : (k q : ℕ) → next_place text.words token k ≡ Some q → IsNext text token k q
  next_tells k q is =
      let reach = term_reaches text token sound in
      let c = held_covered text token k q (reach.forward_is k q ∙ ap (λ o. at_most o q) is ∙ le-leb q q (le_refl q)) in
      let from : k ≤ c.place = c.from in
      let upto : c.place ≤ q = c.upto in
      let least : q ≤ c.place = next_least k q is c.place c.held c.from in
      let same : c.place ≡ q = omega arith in
      let held : Held text token q = subst (Held text token) same c.held in
      record { held = held; from = omega arith; least = next_least k q is; within = (held_within text.next text.first text.words token q sound.rising held).1 }

  pub none_next : (k : ℕ) → next_place text.words token k ≡ None → (p : ℕ) → Held text token p → k ≤ p → ⊥
  none_next k is p held from =
      let reach = term_reaches text token sound in
      true≢false (sym (covers_held text token sound p k p held from (le_refl p)) ∙ reach.forward_is k p ∙ ap (λ o. at_most o p) is)

  previous_greatest : (k q : ℕ) → previous_place text.words token k ≡ Some q → (p : ℕ) → Held text token p → p ≤ k → p ≤ q
  previous_greatest k q is p held upto =
      let reach = term_reaches text token sound in
      leb-true p q (sym (reach.backward_is p k ∙ ap (λ o. at_least o p) is) ∙ covers_held text token sound p p k held (le_refl p) upto)

  pub previous_tells : (k q : ℕ) → previous_place text.words token k ≡ Some q → IsPrevious text token k q
  previous_tells k q is =
      let reach = term_reaches text token sound in
      let c = held_covered text token q k (reach.backward_is q k ∙ ap (λ o. at_least o q) is ∙ le-leb q q (le_refl q)) in
      let from : q ≤ c.place = c.from in
      let upto : c.place ≤ k = c.upto in
      let greatest : c.place ≤ q = previous_greatest k q is c.place c.held c.upto in
      let same : c.place ≡ q = omega arith in
      record { held = subst (Held text token) same c.held; upto = omega arith; greatest = previous_greatest k q is }

  pub none_previous : (k : ℕ) → previous_place text.words token k ≡ None → (p : ℕ) → Held text token p → p ≤ k → ⊥
  none_previous k is p held upto =
      let reach = term_reaches text token sound in
      true≢false (sym (covers_held text token sound p p k held (le_refl p) upto) ∙ reach.backward_is p k ∙ ap (λ o. at_least o p) is)
