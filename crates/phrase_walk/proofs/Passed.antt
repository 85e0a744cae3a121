-- How many places of the tokens a walk has passed.
use Rattle.std.proofs.Common.{◌≡◌, ℕ, ◌+◌, ◌<◌, ◌≤◌, Bool, true, false, cond, ◌&&◌, ltb, eqb, List, [], ◌∷◌, length, inl, inr, sym, arith, bytes_eq, le_refl}
use Rattle.std.proofs.lemmas.Bool.{true≢false, or_cases, and_parts, cases_Bool, ltb-true, lt-ltb, le-ltb, eqb-true}
use Rattle.gcl_model.proofs.Lists.{one_at_most}
use Rattle.gcl_model.specs.Texts.{Word, is_word, holds, places}

-- how many places of the token lie before an address
abbrev pub places_before : List Word → List ℕ → ℕ → ℕ
places_before [] token x = 0
places_before (w ∷ ws) token x = cond (bytes_eq w.token token && ltb w.address x) 1 0 + places_before ws token x

pub before_most : (ws : List Word) (token : List ℕ) (x : ℕ) → places_before ws token x ≤ length (places ws token)
before_most [] token x = omega arith
before_most (w ∷ ws) token x =
    let h : places_before ws token x ≤ length (places ws token) = before_most ws token x in
    elim (cases_Bool (bytes_eq w.token token)) [
      | inl b ↦ rw b (let one : cond (ltb w.address x) 1 0 ≤ 1 = one_at_most (ltb w.address x) in omega arith)
      | inr b ↦ rw b (omega arith)
    ]

one_rises : (b : Bool) (a x y : ℕ) → x ≤ y → cond (b && ltb a x) 1 0 ≤ cond (b && ltb a y) 1 0
one_rises false a x y le = le_refl 0
one_rises true a x y le =
    elim (cases_Bool (ltb a x)) [
      | inl l ↦ let lt : a < x = ltb-true a x l in rw (l, lt-ltb a y (omega arith)) (le_refl 1)
      | inr l ↦ rw l (omega arith)
    ]

pub before_rises : (ws : List Word) (token : List ℕ) (x y : ℕ) → x ≤ y → places_before ws token x ≤ places_before ws token y
before_rises [] token x y le = le_refl 0
before_rises (w ∷ ws) token x y le =
    let a : cond (bytes_eq w.token token && ltb w.address x) 1 0 ≤ cond (bytes_eq w.token token && ltb w.address y) 1 0 = one_rises (bytes_eq w.token token) w.address x y le in
    let b : places_before ws token x ≤ places_before ws token y = before_rises ws token x y le in
    omega arith

pub before_more : (ws : List Word) (token : List ℕ) (q x y : ℕ) → holds ws token q ≡ true → x ≤ q → q < y → places_before ws token x + 1 ≤ places_before ws token y
before_more [] token q x y e ge lt = absurd (true≢false (sym e))
before_more (w ∷ ws) token q x y e ge lt =
    elim (or_cases (is_word token q w) (holds ws token q) e) [
      | inl h ↦
          let parts = and_parts (eqb w.address q) (bytes_eq w.token token) h in
          let at : w.address ≡ q = eqb-true w.address q parts.0 in
          rw (parts.1, le-ltb w.address x (omega arith), lt-ltb w.address y (omega arith))
          (let rest : places_before ws token x ≤ places_before ws token y = before_rises ws token x y (omega arith) in omega arith)
      | inr h ↦
          let a : cond (bytes_eq w.token token && ltb w.address x) 1 0 ≤ cond (bytes_eq w.token token && ltb w.address y) 1 0 = one_rises (bytes_eq w.token token) w.address x y (omega arith) in
          let b : places_before ws token x + 1 ≤ places_before ws token y = before_more ws token q x y h ge lt in
          omega arith
    ]
