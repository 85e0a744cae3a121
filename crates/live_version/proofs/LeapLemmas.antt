-- A look-up that leaps over a dead range finds what the filter of the living does.
use Rattle.std.proofs.Common.{◌≡◌, ℕ, ◌+◌, ◌-◌, ◌<◌, ◌≤◌, Bool, true, false, not, cond, leb, ltb, List, [], ◌∷◌, length, filter, find, Option, Some, None, inl, inr, refl, sym, ap, ◌∙◌, arith}
use Rattle.std.specs.List.{AllByRecursion}
use Rattle.std.proofs.lemmas.Bool.{true≢false, cases_Bool, cases_lt, leb-true, leb-false, le-leb, lt-leb, lt-ltb, le-ltb, or_left, or_right}
use Rattle.gcl_model.specs.Access.{find_last, later_or}
use Rattle.gcl_model.specs.Slots.{SlotRange}
use Rattle.gcl_model.proofs.Lists.{all_weaker, found_passes, one_at_most}
use Rattle.index_shard.specs.Tables.{RiseWithin}
use Rattle.delete_mask.specs.Masks.{is_within, is_dead, dead_range}
use Rattle.delete_mask.proofs.MaskLemmas.{is_within-inside, is_within-bounds, dead_range-within, dead_range-none}
use Rattle.live_version.specs.LookUps.{is_alive}

later_none : (x y : Option ℕ) → later_or x y ≡ None → (x ≡ None) × (y ≡ None)
later_none None y e = (refl, e)
later_none (Some x) y e = absurd cc

module _ (alive : ℕ → Bool) (test : ℕ → Bool) where
  -- if all fail, the living do
  pub find_none : (ps : List ℕ) → find test ps ≡ None → find test (filter alive ps) ≡ None
  find_none [] e = refl
  find_none (p ∷ ps) e =
      elim (cases_Bool (test p)) [
        | inl t ↦ let h = rw t at e in absurd cc
        | inr f ↦ let rest = find_none ps (rw f at e) in elim (cases_Bool (alive p)) [ inl a ↦ rw (a, f) rest | inr a ↦ rw a rest ]
      ]

  -- the first of all is the first of the living, if it lives
  pub find_alive : (ps : List ℕ) (q : ℕ) → find test ps ≡ Some q → alive q ≡ true → find test (filter alive ps) ≡ Some q
  find_alive [] q e lives = absurd cc
  find_alive (p ∷ ps) q e lives =
      elim (cases_Bool (test p)) [
        | inl t ↦
            let h = rw t at e in
            let is : p ≡ q = cc in
            let a : alive p ≡ true = ap alive is ∙ lives in
            rw (a, t) h
        | inr f ↦ let rest = find_alive ps q (rw f at e) lives in elim (cases_Bool (alive p)) [ inl a ↦ rw (a, f) rest | inr a ↦ rw a rest ]
      ]

  pub last_none : (ps : List ℕ) → find_last test ps ≡ None → find_last test (filter alive ps) ≡ None
  last_none [] e = refl
  last_none (p ∷ ps) e =
      let parts = later_none (find_last test ps) (cond (test p) (Some p) None) e in
      let rest = last_none ps parts.0 in
      elim (cases_Bool (alive p)) [
        | inl a ↦ rw a (ap (λ o. later_or o (cond (test p) (Some p) None)) rest ∙ parts.1)
        | inr a ↦ rw a rest
      ]

  last_alive_step : (p : ℕ) (ps : List ℕ) (q : ℕ) → alive q ≡ true → ((r : ℕ) → find_last test ps ≡ Some r → alive r ≡ true → find_last test (filter alive ps) ≡ Some r) →
      (o : Option ℕ) → find_last test ps ≡ o → later_or o (cond (test p) (Some p) None) ≡ Some q → find_last test (filter alive (p ∷ ps)) ≡ Some q
  last_alive_step p ps q lives ih (Some r) is e =
      let same : r ≡ q = cc in
      let rest = ih q (is ∙ ap Some same) lives in
      elim (cases_Bool (alive p)) [
        | inl a ↦ rw a (ap (λ o. later_or o (cond (test p) (Some p) None)) rest)
        | inr a ↦ rw a rest
      ]
  last_alive_step p ps q lives ih None is e =
      elim (cases_Bool (test p)) [
        | inl t ↦
            let h = rw t at e in
            let same : p ≡ q = cc in
            let a : alive p ≡ true = ap alive same ∙ lives in
            rw a (ap (λ o. later_or o (cond (test p) (Some p) None)) (last_none ps is) ∙ e)
        | inr f ↦ let h = rw f at e in absurd cc
      ]

  pub last_alive : (ps : List ℕ) (q : ℕ) → find_last test ps ≡ Some q → alive q ≡ true → find_last test (filter alive ps) ≡ Some q
  last_alive [] q e lives = absurd cc
  last_alive (p ∷ ps) q e lives = last_alive_step p ps q lives (last_alive ps) (find_last test ps) refl e

-- two tests that agree on the living find the same among them
pub find_same : (alive test other : ℕ → Bool) (ps : List ℕ) → AllByRecursion (λ q. alive q ≡ true → test q ≡ other q) ps → find test (filter alive ps) ≡ find other (filter alive ps)
find_same alive test other [] all = refl
find_same alive test other (p ∷ ps) all =
    let rest = find_same alive test other ps all.1 in
    elim (cases_Bool (alive p)) [
      | inl a ↦ rw a (ap (λ b. cond b (Some p) (find test (filter alive ps))) (all.0 a) ∙ ap (λ o. cond (other p) (Some p) o) rest)
      | inr a ↦ rw a rest
    ]

pub last_same : (alive test other : ℕ → Bool) (ps : List ℕ) → AllByRecursion (λ q. alive q ≡ true → test q ≡ other q) ps → find_last test (filter alive ps) ≡ find_last other (filter alive ps)
last_same alive test other [] all = refl
last_same alive test other (p ∷ ps) all =
    let rest = last_same alive test other ps all.1 in
    elim (cases_Bool (alive p)) [
      | inl a ↦ rw a (ap (λ b. later_or (find_last test (filter alive ps)) (cond b (Some p) None)) (all.0 a) ∙ ap (λ o. later_or o (cond (other p) (Some p) None)) rest)
      | inr a ↦ rw a rest
    ]

last_passes_step : (test : ℕ → Bool) (x p : ℕ) (o : Option ℕ) → ((q : ℕ) → o ≡ Some q → test q ≡ true) → later_or o (cond (test x) (Some x) None) ≡ Some p → test p ≡ true
last_passes_step test x p (Some q) ih e = ih p e
last_passes_step test x p None ih e =
    elim (cases_Bool (test x)) [
      | inl t ↦ let h = rw t at e in let is : x ≡ p = cc in ap test (sym is) ∙ t
      | inr f ↦ let h = rw f at e in absurd cc
    ]

last_passes : (test : ℕ → Bool) (ps : List ℕ) (p : ℕ) → find_last test ps ≡ Some p → test p ≡ true
last_passes test [] p e = absurd cc
last_passes test (x ∷ xs) p e = last_passes_step test x p (find_last test xs) (last_passes test xs) e

rise_all : (low end : ℕ) (ps : List ℕ) → RiseWithin low end ps → AllByRecursion (λ q. low ≤ q) ps
rise_all low end [] r = tt
rise_all low end (x ∷ xs) r = let h = r.0 in (h, all_weaker (λ q. x + 1 ≤ q) (λ q. low ≤ q) (λ q le. omega arith) xs (rise_all (x + 1) end xs r.2))

rise_below : (low end : ℕ) (ps : List ℕ) → RiseWithin low end ps → AllByRecursion (λ q. q < end) ps
rise_below low end [] r = tt
rise_below low end (x ∷ xs) r = (r.1, rise_below (x + 1) end xs r.2)

-- those at or after k are not before the first of them
first_is_least : (low end : ℕ) (ps : List ℕ) (k p : ℕ) → RiseWithin low end ps → find (λ q. leb k q) ps ≡ Some p → AllByRecursion (λ q. k ≤ q → p ≤ q) ps
first_is_least low end [] k p r e = tt
first_is_least low end (x ∷ xs) k p r e =
    elim (cases_Bool (leb k x)) [
      | inl t ↦
          let h = rw t at e in
          let is : x ≡ p = cc in
          (λ le. omega arith, all_weaker (λ q. x + 1 ≤ q) (λ q. k ≤ q → p ≤ q) (λ q above le. omega arith) xs (rise_all (x + 1) end xs r.2))
      | inr f ↦ let lt = leb-false k x f in (λ le. absurd (omega arith), first_is_least (x + 1) end xs k p r.2 (rw f at e))
    ]

all_past : (ps : List ℕ) (k : ℕ) → find_last (λ q. leb q k) ps ≡ None → AllByRecursion (λ q. k < q) ps
all_past [] k e = tt
all_past (x ∷ xs) k e =
    let parts = later_none (find_last (λ q. leb q k) xs) (cond (leb x k) (Some x) None) e in
    let here : k < x = elim (cases_Bool (leb x k)) [ inl t ↦ let h = rw t at parts.1 in absurd cc | inr f ↦ leb-false x k f ] in
    (here, all_past xs k parts.0)

last_above_step : (test : ℕ → Bool) (low x p : ℕ) (o : Option ℕ) → low ≤ x → ((q : ℕ) → o ≡ Some q → x + 1 ≤ q) → later_or o (cond (test x) (Some x) None) ≡ Some p → low ≤ p
last_above_step test low x p (Some q) le ih e = let above = ih p e in omega arith
last_above_step test low x p None le ih e =
    elim (cases_Bool (test x)) [
      | inl t ↦ let h = rw t at e in let is : x ≡ p = cc in omega arith
      | inr f ↦ let h = rw f at e in absurd cc
    ]

last_above : (test : ℕ → Bool) (low end : ℕ) (ps : List ℕ) (p : ℕ) → RiseWithin low end ps → find_last test ps ≡ Some p → low ≤ p
last_above test low end [] p r e = absurd cc
last_above test low end (x ∷ xs) p r e = last_above_step test low x p (find_last test xs) r.0 (λ q is. last_above test (x + 1) end xs q r.2 is) e

last_is_greatest_step : (low end x : ℕ) (xs : List ℕ) (k p : ℕ) → RiseWithin low end (x ∷ xs) → ((q : ℕ) → find_last (λ q. leb q k) xs ≡ Some q → AllByRecursion (λ r. r ≤ k → r ≤ q) xs) →
    (o : Option ℕ) → find_last (λ q. leb q k) xs ≡ o → later_or o (cond (leb x k) (Some x) None) ≡ Some p → AllByRecursion (λ q. q ≤ k → q ≤ p) (x ∷ xs)
last_is_greatest_step low end x xs k p r ih (Some q) is e =
    let found : find_last (λ q. leb q k) xs ≡ Some p = is ∙ e in
    let above = last_above (λ q. leb q k) (x + 1) end xs p r.2 found in
    (λ le. omega arith, ih p found)
last_is_greatest_step low end x xs k p r ih None is e =
    elim (cases_Bool (leb x k)) [
      | inl t ↦
          let h = rw t at e in
          let same : x ≡ p = cc in
          (λ le. omega arith, all_weaker (λ q. k < q) (λ q. q ≤ k → q ≤ p) (λ q lt le. absurd (omega arith)) xs (all_past xs k is))
      | inr f ↦ let h = rw f at e in absurd cc
    ]

-- those at or before k are not after the last of them
last_is_greatest : (low end : ℕ) (ps : List ℕ) (k p : ℕ) → RiseWithin low end ps → find_last (λ q. leb q k) ps ≡ Some p → AllByRecursion (λ q. q ≤ k → q ≤ p) ps
last_is_greatest low end [] k p r e = tt
last_is_greatest low end (x ∷ xs) k p r e = last_is_greatest_step low end x xs k p r (λ q is. last_is_greatest (x + 1) end xs k q r.2 is) (find_last (λ q. leb q k) xs) refl e

-- with one address all of its dead range is dead
range_is_dead : (mask : List SlotRange) (p q : ℕ) (dead : SlotRange) → dead_range mask p ≡ Some dead → is_within dead q ≡ true → is_dead mask q ≡ true
range_is_dead [] p q dead e within = absurd cc
range_is_dead (range ∷ mask) p q dead e within =
    elim (cases_Bool (is_within range p)) [
      | inl t ↦
          let h = rw t at e in
          let same : range ≡ dead = cc in
          or_left (is_within range q) (is_dead mask q) (ap (λ r. is_within r q) same ∙ within)
      | inr f ↦ or_right (is_within range q) (is_dead mask q) (range_is_dead mask p q dead (rw f at e) within)
    ]

not_alive : (mask : List SlotRange) (p q : ℕ) (dead : SlotRange) → dead_range mask p ≡ Some dead → dead.first ≤ q → q ≤ dead.last → is_alive mask q ≡ true → ⊥
not_alive mask p q dead e ge le lives = true≢false (sym lives ∙ ap not (range_is_dead mask p q dead e (is_within-inside dead q ge le)))

module _ (mask : List SlotRange) (low end : ℕ) (ps : List ℕ) (k p : ℕ) (dead : SlotRange) (rise : RiseWithin low end ps) (met : dead_range mask p ≡ Some dead) where
  bounds : (dead.first ≤ p) × (p ≤ dead.last)
  bounds = is_within-bounds dead p (dead_range-within mask p dead met)

  -- after the dead range the search goes on
  pub next_dead : find (λ q. leb k q) ps ≡ Some p → find (λ q. leb k q) (filter (is_alive mask) ps) ≡ find (λ q. leb (dead.last + 1) q) (filter (is_alive mask) ps)
  next_dead e =
      let from : k ≤ p = leb-true k p (found_passes (λ q. leb k q) p ps e) in
      let b = bounds in
      let b0 = b.0 in
      let b1 = b.1 in
      find_same (is_alive mask) (λ q. leb k q) (λ q. leb (dead.last + 1) q) ps
      (all_weaker (λ q. k ≤ q → p ≤ q) (λ q. is_alive mask q ≡ true → leb k q ≡ leb (dead.last + 1) q)
      (λ q least lives.
      elim (cases_lt q k) [
        | inl lt ↦ lt-leb k q lt ∙ sym (lt-leb (dead.last + 1) q (omega arith))
        | inr le ↦ elim (cases_lt dead.last q) [
          | inl past ↦ le-leb k q le ∙ sym (le-leb (dead.last + 1) q (omega arith))
          | inr within ↦ let above = least le in absurd (not_alive mask p q dead met (omega arith) within lives)
        ]
      ])
      ps (first_is_least low end ps k p rise e))

  -- before the dead range it goes on, by any test that says so
  pub previous_dead : (test : ℕ → Bool) → ((q : ℕ) → q < dead.first → test q ≡ true) → ((q : ℕ) → dead.first ≤ q → test q ≡ false) → find_last (λ q. leb q k) ps ≡ Some p →
      find_last (λ q. leb q k) (filter (is_alive mask) ps) ≡ find_last test (filter (is_alive mask) ps)
  previous_dead test yes_before no_after e =
      let upto : p ≤ k = leb-true p k (last_passes (λ q. leb q k) ps p e) in
      let b = bounds in
      let b0 = b.0 in
      let b1 = b.1 in
      last_same (is_alive mask) (λ q. leb q k) test ps
      (all_weaker (λ q. q ≤ k → q ≤ p) (λ q. is_alive mask q ≡ true → leb q k ≡ test q)
      (λ q greatest lives.
      elim (cases_lt q dead.first) [
        | inl lt ↦ le-leb q k (omega arith) ∙ sym (yes_before q lt)
        | inr ge ↦ elim (cases_lt k q) [
          | inl past ↦ lt-leb q k past ∙ sym (no_after q ge)
          | inr le ↦ let below = greatest le in absurd (not_alive mask p q dead met ge (omega arith) lives)
        ]
      ])
      ps (last_is_greatest low end ps k p rise e))

all_fail_first : (test : ℕ → Bool) (ps : List ℕ) → AllByRecursion (λ q. test q ≡ false) ps → find test ps ≡ None
all_fail_first test [] all = refl
all_fail_first test (p ∷ ps) all = let here : test p ≡ false = all.0 in rw here (all_fail_first test ps all.1)

all_fail_last : (test : ℕ → Bool) (ps : List ℕ) → AllByRecursion (λ q. test q ≡ false) ps → find_last test ps ≡ None
all_fail_last test [] all = refl
all_fail_last test (p ∷ ps) all = let here : test p ≡ false = all.0 in rw (here, all_fail_last test ps all.1) refl

-- past the end there is nothing
pub next_out : (low end k : ℕ) (ps : List ℕ) → RiseWithin low end ps → end ≤ k → find (λ q. leb k q) ps ≡ None
next_out low end k ps r le = all_fail_first (λ q. leb k q) ps (all_weaker (λ q. q < end) (λ q. leb k q ≡ false) (λ q lt. lt-leb k q (omega arith)) ps (rise_below low end ps r))

pub previous_out : (low end : ℕ) (ps : List ℕ) (test : ℕ → Bool) → RiseWithin low end ps → ((q : ℕ) → low ≤ q → test q ≡ false) → find_last test ps ≡ None
previous_out low end ps test r fails = all_fail_last test ps (all_weaker (λ q. low ≤ q) (λ q. test q ≡ false) fails ps (rise_all low end ps r))

-- how many dead ranges end at or after the address
abbrev pub ahead : List SlotRange → ℕ → ℕ
ahead [] k = 0
ahead (dead ∷ mask) k = cond (leb k dead.last) 1 0 + ahead mask k

-- how many dead ranges begin at or before it
abbrev pub behind : List SlotRange → ℕ → ℕ
behind [] k = 0
behind (dead ∷ mask) k = cond (leb dead.first k) 1 0 + behind mask k

more_pass : (b c : Bool) → (b ≡ true → c ≡ true) → cond b 1 0 ≤ cond c 1 0
more_pass true true f = omega arith
more_pass true false f = absurd (true≢false (sym (f refl)))
more_pass false c f = omega arith

pub ahead-le-length : (mask : List SlotRange) (k : ℕ) → ahead mask k ≤ length mask
ahead-le-length [] k = omega arith
ahead-le-length (dead ∷ mask) k = let a = one_at_most (leb k dead.last) in let b = ahead-le-length mask k in omega arith

pub behind-le-length : (mask : List SlotRange) (k : ℕ) → behind mask k ≤ length mask
behind-le-length [] k = omega arith
behind-le-length (dead ∷ mask) k = let a = one_at_most (leb dead.first k) in let b = behind-le-length mask k in omega arith

ahead_later : (mask : List SlotRange) (k j : ℕ) → k ≤ j → ahead mask j ≤ ahead mask k
ahead_later [] k j le = omega arith
ahead_later (dead ∷ mask) k j le =
    let a = more_pass (leb j dead.last) (leb k dead.last) (λ e. let h = leb-true j dead.last e in le-leb k dead.last (omega arith)) in
    let b = ahead_later mask k j le in
    omega arith

behind_earlier : (mask : List SlotRange) (k j : ℕ) → j ≤ k → behind mask j ≤ behind mask k
behind_earlier [] k j le = omega arith
behind_earlier (dead ∷ mask) k j le =
    let a = more_pass (leb dead.first j) (leb dead.first k) (λ e. let h = leb-true dead.first j e in le-leb dead.first k (omega arith)) in
    let b = behind_earlier mask k j le in
    omega arith

counts_less : (b c : Bool) (m n : ℕ) → b ≡ false → c ≡ true → m ≤ n → cond b 1 0 + m < cond c 1 0 + n
counts_less true c m n e f le = absurd (true≢false e)
counts_less false true m n e f le = omega arith
counts_less false false m n e f le = absurd (true≢false (sym f))

-- a dead range that was met is passed
pub ahead_falls : (mask : List SlotRange) (k p : ℕ) (dead : SlotRange) → dead_range mask p ≡ Some dead → k ≤ p → ahead mask (dead.last + 1) < ahead mask k
ahead_falls [] k p dead e le = absurd cc
ahead_falls (range ∷ mask) k p dead e le =
    let within = is_within-bounds dead p (dead_range-within (range ∷ mask) p dead e) in
    let last = within.1 in
    elim (cases_Bool (is_within range p)) [
      | inl t ↦
          let h = rw t at e in
          let same : range ≡ dead = cc in
          let same_last : range.last ≡ dead.last = ap (λ r. r.last) same in
          counts_less (leb (dead.last + 1) range.last) (leb k range.last) (ahead mask (dead.last + 1)) (ahead mask k) (lt-leb (dead.last + 1) range.last (omega arith)) (le-leb k range.last (omega arith))
          (ahead_later mask k (dead.last + 1) (omega arith))
      | inr f ↦
          let a = more_pass (leb (dead.last + 1) range.last) (leb k range.last) (λ e. let h = leb-true (dead.last + 1) range.last e in le-leb k range.last (omega arith)) in
          let b = ahead_falls mask k p dead (rw f at e) le in
          omega arith
    ]

pub behind_falls : (mask : List SlotRange) (k p j : ℕ) (dead : SlotRange) → dead_range mask p ≡ Some dead → p ≤ k → j < dead.first → behind mask j < behind mask k
behind_falls [] k p j dead e le lt = absurd cc
behind_falls (range ∷ mask) k p j dead e le lt =
    let within = is_within-bounds dead p (dead_range-within (range ∷ mask) p dead e) in
    let first = within.0 in
    elim (cases_Bool (is_within range p)) [
      | inl t ↦
          let h = rw t at e in
          let same : range ≡ dead = cc in
          let same_first : range.first ≡ dead.first = ap (λ r. r.first) same in
          counts_less (leb range.first j) (leb range.first k) (behind mask j) (behind mask k) (lt-leb range.first j (omega arith)) (le-leb range.first k (omega arith))
          (behind_earlier mask k j (omega arith))
      | inr f ↦
          let a = more_pass (leb range.first j) (leb range.first k) (λ e. let h = leb-true range.first j e in le-leb range.first k (omega arith)) in
          let b = behind_falls mask k p j dead (rw f at e) le lt in
          omega arith
    ]

-- what one look-up shows: `same` says that nothing alive was passed so far
alive_where : (mask : List SlotRange) (p : ℕ) → None ≡ dead_range mask p → is_alive mask p ≡ true
alive_where mask p none = ap not ((dead_range-none mask p).1 (sym none))

module _ (mask : List SlotRange) (ps : List ℕ) (k at : ℕ) where
  abbrev pub first_alive : ℕ → Option ℕ
  first_alive j = find (λ q. leb j q) (filter (is_alive mask) ps)

  abbrev pub last_alive_to : ℕ → Option ℕ
  last_alive_to j = find_last (λ q. leb q j) (filter (is_alive mask) ps)

  pub next_by_none : first_alive at ≡ first_alive k → None ≡ find (λ q. leb at q) ps → None ≡ first_alive k
  next_by_none same none = sym (find_none (is_alive mask) (λ q. leb at q) ps (sym none)) ∙ same

  pub next_by_alive : (p : ℕ) → first_alive at ≡ first_alive k → Some p ≡ find (λ q. leb at q) ps → None ≡ dead_range mask p → Some p ≡ first_alive k
  next_by_alive p same is none = sym (find_alive (is_alive mask) (λ q. leb at q) ps p (sym is) (alive_where mask p none)) ∙ same

  pub next_by_dead : (low end p : ℕ) (dead : SlotRange) → RiseWithin low end ps → first_alive at ≡ first_alive k → Some p ≡ find (λ q. leb at q) ps → Some dead ≡ dead_range mask p →
      first_alive (dead.last + 1) ≡ first_alive k
  next_by_dead low end p dead rise same is met = sym (next_dead mask low end ps at p dead rise (sym met) (sym is)) ∙ same

  pub next_by_end : (low end p : ℕ) (dead : SlotRange) → RiseWithin low end ps → first_alive at ≡ first_alive k → Some p ≡ find (λ q. leb at q) ps → Some dead ≡ dead_range mask p → end ≤ dead.last + 1 →
      None ≡ first_alive k
  next_by_end low end p dead rise same is met le =
      sym (find_none (is_alive mask) (λ q. leb (dead.last + 1) q) ps (next_out low end (dead.last + 1) ps rise le)) ∙ next_by_dead low end p dead rise same is met

  pub next_falls : (p : ℕ) (dead : SlotRange) → Some p ≡ find (λ q. leb at q) ps → Some dead ≡ dead_range mask p → ahead mask (dead.last + 1) < ahead mask at
  next_falls p dead is met = ahead_falls mask at p dead (sym met) (leb-true at p (found_passes (λ q. leb at q) p ps (sym is)))

  pub previous_by_none : last_alive_to at ≡ last_alive_to k → None ≡ find_last (λ q. leb q at) ps → None ≡ last_alive_to k
  previous_by_none same none = sym (last_none (is_alive mask) (λ q. leb q at) ps (sym none)) ∙ same

  pub previous_by_alive : (p : ℕ) → last_alive_to at ≡ last_alive_to k → Some p ≡ find_last (λ q. leb q at) ps → None ≡ dead_range mask p → Some p ≡ last_alive_to k
  previous_by_alive p same is none = sym (last_alive (is_alive mask) (λ q. leb q at) ps p (sym is) (alive_where mask p none)) ∙ same

  pub previous_by_dead : (low end p : ℕ) (dead : SlotRange) → RiseWithin low end ps → last_alive_to at ≡ last_alive_to k → Some p ≡ find_last (λ q. leb q at) ps → Some dead ≡ dead_range mask p →
      0 < dead.first → last_alive_to (dead.first - 1) ≡ last_alive_to k
  previous_by_dead low end p dead rise same is met some =
      sym (previous_dead mask low end ps at p dead rise (sym met) (λ q. leb q (dead.first - 1)) (λ q lt. le-leb q (dead.first - 1) (omega arith)) (λ q ge. lt-leb q (dead.first - 1) (omega arith)) (sym is)) ∙ same

  pub previous_by_start : (low end p : ℕ) (dead : SlotRange) → RiseWithin low end ps → last_alive_to at ≡ last_alive_to k → Some p ≡ find_last (λ q. leb q at) ps → Some dead ≡ dead_range mask p →
      dead.first ≤ low → None ≡ last_alive_to k
  previous_by_start low end p dead rise same is met le =
      sym (last_none (is_alive mask) (λ q. ltb q dead.first) ps (previous_out low end ps (λ q. ltb q dead.first) rise (λ q ge. le-ltb q dead.first (omega arith))))
      ∙ sym (previous_dead mask low end ps at p dead rise (sym met) (λ q. ltb q dead.first) (λ q lt. lt-ltb q dead.first lt) (λ q ge. le-ltb q dead.first ge) (sym is)) ∙ same

  pub previous_falls : (p : ℕ) (dead : SlotRange) → Some p ≡ find_last (λ q. leb q at) ps → Some dead ≡ dead_range mask p → 0 < dead.first → behind mask (dead.first - 1) < behind mask at
  previous_falls p dead is met some = behind_falls mask at p (dead.first - 1) dead (sym met) (leb-true p at (last_passes (λ q. leb q at) ps p (sym is))) (omega arith)
