-- What changes between two lists that rise, by their first members.
use Rattle.std.proofs.Common.{◌≡◌, ℕ, ◌<◌, ◌≤◌, Bool, true, false, not, cond, ◌&&◌, ◌||◌, ltb, eqb, List, [], ◌∷◌, ◌++◌, Some, map, filter, inl, inr, refl, sym, ap, ◌∙◌, subst, arith, append_assoc}
use Rattle.std.specs.List.{AllByRecursion}
use Rattle.std.proofs.lemmas.List.Folds.{list_any-append}
use Rattle.std.proofs.lemmas.Bool.{true≢false, cases_Bool, and_parts, and_from, and_left, and_right, or_cases, or_left, or_right, or_from, or_parts, ltb-true, lt-ltb, ltb-false, le-ltb, eqb-true, eq-eqb, ne_eqb, cases_lt, not_from_false}
use Rattle.gcl_model.specs.Extents.{Extent, extent, same_extent, contains_extent, IsAhead, IsRising}
use Rattle.gcl_model.proofs.Lists.{all_weaker, all_map, all_kept, filter_kept, filter_gone}
use Rattle.standing_query.specs.declared.change.Change.{Change}
use Rattle.standing_query.specs.declared.change.Change.TheVariants.{Went, Came}
use Rattle.standing_query.specs.inner.Sides.{first_of}
use Rattle.standing_query.specs.inner.Steps.{PassesBoth, are_same}
use Rattle.standing_query.specs.Changes.{interval_of, comes_before, lost, in_order, changes}

-- ---- the order of intervals

pub ahead_comes : (a b : Extent) → IsAhead a b → comes_before a b ≡ true
ahead_comes a b ahead = or_left (ltb a.start b.start) _ (lt-ltb a.start b.start ahead.0)

comes_same : (a b : Extent) → comes_before a b ≡ true → same_extent a b ≡ false
comes_same a b before = elim (or_cases (ltb a.start b.start) ((eqb a.start b.start) && ltb a.end b.end) before) [
  | inl h ↦ and_left (eqb a.start b.start) (eqb a.end b.end) (ne_eqb a.start b.start (λ e. let lt : a.start < b.start = ltb-true a.start b.start h in omega (arith, e, lt)))
  | inr h ↦ and_right (eqb a.start b.start) (eqb a.end b.end) (ne_eqb a.end b.end (λ e. let lt : a.end < b.end = ltb-true a.end b.end (and_parts (eqb a.start b.start) (ltb a.end b.end) h).1 in omega (arith, e, lt)))
]

-- what does not come before comes after, or is the same
pub comes_after : (a b : Extent) → comes_before a b ≡ false → same_extent a b ≡ false → comes_before b a ≡ true
comes_after a b not_before differ =
    let parts = or_parts (ltb a.start b.start) ((eqb a.start b.start) && ltb a.end b.end) not_before in
    let le : b.start ≤ a.start = ltb-false a.start b.start parts.0 in
    elim (cases_Bool (eqb a.start b.start)) [
      | inl t ↦
          let e = eqb-true a.start b.start t in
          let past : b.end ≤ a.end = ltb-false a.end b.end (rw t at parts.1) in
          elim (cases_Bool (eqb a.end b.end)) [
            | inl u ↦ absurd (true≢false (sym (and_from (eqb a.start b.start) (eqb a.end b.end) t u) ∙ differ))
            | inr v ↦ or_right (ltb b.start a.start) _ (and_from (eqb b.start a.start) (ltb b.end a.end) (eq-eqb b.start a.start (sym e)) (lt-ltb b.end a.end (below a.end b.end past v)))
          ]
      | inr f ↦ or_left (ltb b.start a.start) _ (lt-ltb b.start a.start (below a.start b.start le f))
    ]
  where
    below : (m n : ℕ) → n ≤ m → eqb m n ≡ false → n < m
    below m n le f = elim (cases_lt n m) [
      | inl lt ↦ lt
      | inr ge ↦ absurd (true≢false (sym (eq-eqb m n (omega (arith, le, ge))) ∙ f))
    ]

-- what comes before does not come after
comes_not : (a b : Extent) → comes_before a b ≡ true → comes_before b a ≡ false
comes_not a b before = elim (or_cases (ltb a.start b.start) ((eqb a.start b.start) && ltb a.end b.end) before) [
  | inl h ↦
      let lt = ltb-true a.start b.start h in
      or_from (ltb b.start a.start) _ (le-ltb b.start a.start (omega (arith, lt))) (and_left (eqb b.start a.start) _ (ne_eqb b.start a.start (λ e. omega (arith, lt, e))))
  | inr h ↦
      let parts = and_parts _ _ h in
      let e = eqb-true a.start b.start parts.0 in
      let lt = ltb-true a.end b.end parts.1 in
      or_from (ltb b.start a.start) _ (le-ltb b.start a.start (omega (arith, e))) (and_right (eqb b.start a.start) _ (le-ltb b.end a.end (omega (arith, lt))))
]

pub comes_through : (a b c : Extent) → comes_before a b ≡ true → comes_before b c ≡ true → comes_before a c ≡ true
comes_through a b c ab bc = elim (or_cases (ltb a.start b.start) ((eqb a.start b.start) && ltb a.end b.end) ab) [
  | inl h ↦ let lt = ltb-true a.start b.start h in elim (or_cases (ltb b.start c.start) ((eqb b.start c.start) && ltb b.end c.end) bc) [
    | inl k ↦ let later = ltb-true b.start c.start k in or_left (ltb a.start c.start) _ (lt-ltb a.start c.start (omega (arith, lt, later)))
    | inr k ↦ let same = eqb-true b.start c.start (and_parts _ _ k).0 in or_left (ltb a.start c.start) _ (lt-ltb a.start c.start (omega (arith, lt, same)))
  ]
  | inr h ↦
      let parts = and_parts _ _ h in
      let e = eqb-true a.start b.start parts.0 in
      let lt = ltb-true a.end b.end parts.1 in
      elim (or_cases (ltb b.start c.start) ((eqb b.start c.start) && ltb b.end c.end) bc) [
        | inl k ↦ let later = ltb-true b.start c.start k in or_left (ltb a.start c.start) _ (lt-ltb a.start c.start (omega (arith, e, later)))
        | inr k ↦
            let more = and_parts _ _ k in
            let same = eqb-true b.start c.start more.0 in
            let later = ltb-true b.end c.end more.1 in
            or_right (ltb a.start c.start) _ (and_from (eqb a.start c.start) (ltb a.end c.end) (eq-eqb a.start c.start (e ∙ same)) (lt-ltb a.end c.end (omega (arith, lt, later))))
      ]
]

pub same_is : (a b : Extent) → same_extent a b ≡ true → a ≡ b
same_is a b e = let p = and_parts _ _ e in ap (λ s. extent s a.end) (eqb-true a.start b.start p.0) ∙ ap (λ t. extent b.start t) (eqb-true a.end b.end p.1)

same_turned : (a b : Extent) → same_extent a b ≡ false → same_extent b a ≡ false
same_turned a b f = elim (cases_Bool (same_extent b a)) [
  | inl t ↦ absurd (true≢false (sym (subst (λ (c : Extent). same_extent a c ≡ true) (sym (same_is b a t)) (and_from (eqb a.start a.start) (eqb a.end a.end) (eq-eqb a.start a.start refl) (eq-eqb a.end a.end refl))) ∙ f))
  | inr g ↦ g
]

pub same_self : (a : Extent) → same_extent a a ≡ true
same_self a = and_from (eqb a.start a.start) (eqb a.end a.end) (eq-eqb a.start a.start refl) (eq-eqb a.end a.end refl)

-- ---- what is in one list and not in another

-- all members come after a
abbrev ComesFirst : Extent → List Extent → Type 0
ComesFirst a list = AllByRecursion (λ b. comes_before a b ≡ true) list

all_ahead : (a : Extent) (list : List Extent) → AllByRecursion (IsAhead a) list → ComesFirst a list
all_ahead a list ahead = all_weaker (IsAhead a) (λ b. comes_before a b ≡ true) (ahead_comes a) list ahead

first_of_both : (a b : Extent) (list : List Extent) → comes_before a b ≡ true → AllByRecursion (IsAhead b) list → ComesFirst a (b ∷ list)
first_of_both a b list before ahead = (before, all_weaker (IsAhead b) (λ c. comes_before a c ≡ true) (λ c h. comes_through a b c before (ahead_comes b c h)) list ahead)

-- what comes before all members is none of them
not_among : (a : Extent) (list : List Extent) → ComesFirst a list → contains_extent list a ≡ false
not_among a [] first = refl
not_among a (b ∷ list) first = or_from (same_extent b a) (contains_extent list a) (same_turned a b (comes_same a b first.0)) (not_among a list first.1)

-- a member that is lost comes first
lost_first : (a : Extent) (xs ys : List Extent) → contains_extent ys a ≡ false → lost (a ∷ xs) ys ≡ a ∷ lost xs ys
lost_first a xs ys f = rw f refl

lost_not : (a : Extent) (xs ys : List Extent) → contains_extent ys a ≡ true → lost (a ∷ xs) ys ≡ lost xs ys
lost_not a xs ys t = rw t refl

-- what comes before all members takes none of them away
lost_without : (a : Extent) (xs ys : List Extent) → ComesFirst a ys → lost ys (a ∷ xs) ≡ lost ys xs
lost_without a xs [] first = refl
lost_without a xs (y ∷ ys) first =
    let other = comes_same a y first.0 in
    let rest = lost_without a xs ys first.1 in
    ap (λ b. cond (not (b || contains_extent xs y)) (y ∷ lost ys (a ∷ xs)) (lost ys (a ∷ xs))) other ∙ ap (λ l. cond (not (contains_extent xs y)) (y ∷ l) l) rest

-- ---- changes in order

went_after : (a : Extent) (xs ys : List Extent) → ComesFirst a xs → AllByRecursion (λ d. comes_before (interval_of d) a ≡ false) (map Came (lost xs ys))
went_after a xs ys first =
    all_map (λ d. comes_before (interval_of d) a ≡ false) Came (lost xs ys) (all_kept (λ b. comes_before b a ≡ false) (λ c. not (contains_extent ys c)) xs
    (all_weaker (λ b. comes_before a b ≡ true) (λ b. comes_before b a ≡ false) (comes_not a) xs first))

-- what goes before all that comes is the first change
went_first : (c : Change) (cs ds : List Change) → AllByRecursion (λ d. comes_before (interval_of d) (interval_of c) ≡ false) ds → in_order (c ∷ cs) ds ≡ c ∷ in_order cs ds
went_first c cs ds after =
    ap (λ l. l ++ c ∷ in_order cs (filter (λ d. not (comes_before (interval_of d) (interval_of c))) ds)) (filter_gone (λ d. comes_before (interval_of d) (interval_of c)) ds after)
    ∙ ap (λ l. c ∷ in_order cs l) (filter_kept (λ d. not (comes_before (interval_of d) (interval_of c))) ds (all_weaker (λ d. comes_before (interval_of d) (interval_of c) ≡ false) (λ d. not (comes_before (interval_of d) (interval_of c)) ≡ true) (λ d f. not_from_false (comes_before (interval_of d) (interval_of c)) f) ds after))

-- and what comes before all that goes
came_first : (d : Change) (cs ds : List Change) → AllByRecursion (λ c. comes_before (interval_of d) (interval_of c) ≡ true) cs → in_order cs (d ∷ ds) ≡ d ∷ in_order cs ds
came_first d [] ds before = refl
came_first d (c ∷ cs) ds before = rw before.0 refl

-- ---- the steps

pub changes_same : (a : Extent) (xs ys : List Extent) → IsRising (a ∷ xs) → IsRising (a ∷ ys) → changes (a ∷ xs) (a ∷ ys) ≡ changes xs ys
changes_same a xs ys r s =
    let old : lost (a ∷ xs) (a ∷ ys) ≡ lost xs ys = lost_not a xs (a ∷ ys) (or_left (same_extent a a) _ (same_self a)) ∙ lost_without a ys xs (all_ahead a xs r.0) in
    let new : lost (a ∷ ys) (a ∷ xs) ≡ lost ys xs = lost_not a ys (a ∷ xs) (or_left (same_extent a a) _ (same_self a)) ∙ lost_without a xs ys (all_ahead a ys s.0) in
    ap (λ l. in_order (map Went l) (map Came (lost (a ∷ ys) (a ∷ xs)))) old ∙ ap (λ l. in_order (map Went (lost xs ys)) (map Came l)) new

pub changes_went : (a b : Extent) (xs ys : List Extent) → IsRising (a ∷ xs) → IsRising (b ∷ ys) → comes_before a b ≡ true → changes (a ∷ xs) (b ∷ ys) ≡ Went a ∷ changes xs (b ∷ ys)
changes_went a b xs ys r s before =
    let first = first_of_both a b ys before s.0 in
    let old : lost (a ∷ xs) (b ∷ ys) ≡ a ∷ lost xs (b ∷ ys) = lost_first a xs (b ∷ ys) (not_among a (b ∷ ys) first) in
    let new : lost (b ∷ ys) (a ∷ xs) ≡ lost (b ∷ ys) xs = lost_without a xs (b ∷ ys) first in
    ap (λ l. in_order (map Went l) (map Came (lost (b ∷ ys) (a ∷ xs)))) old
    ∙ ap (λ l. in_order (Went a ∷ map Went (lost xs (b ∷ ys))) (map Came l)) new
    ∙ went_first (Went a) (map Went (lost xs (b ∷ ys))) (map Came (lost (b ∷ ys) xs)) (went_after a (b ∷ ys) xs first)

pub changes_came : (a b : Extent) (xs ys : List Extent) → IsRising (a ∷ xs) → IsRising (b ∷ ys) → comes_before b a ≡ true → changes (a ∷ xs) (b ∷ ys) ≡ Came b ∷ changes (a ∷ xs) ys
changes_came a b xs ys r s before =
    let first = first_of_both b a xs before r.0 in
    let old : lost (a ∷ xs) (b ∷ ys) ≡ lost (a ∷ xs) ys = lost_without b ys (a ∷ xs) first in
    let new : lost (b ∷ ys) (a ∷ xs) ≡ b ∷ lost ys (a ∷ xs) = lost_first b ys (a ∷ xs) (not_among b (a ∷ xs) first) in
    ap (λ l. in_order (map Went l) (map Came (lost (b ∷ ys) (a ∷ xs)))) old
    ∙ ap (λ l. in_order (map Went (lost (a ∷ xs) ys)) (map Came l)) new
    ∙ came_first (Came b) (map Went (lost (a ∷ xs) ys)) (map Came (lost ys (a ∷ xs)))
    (all_map (λ c. comes_before b (interval_of c) ≡ true) Went (lost (a ∷ xs) ys) (all_kept (λ c. comes_before b c ≡ true) (λ c. not (contains_extent ys c)) (a ∷ xs) first))

-- ---- the steps over two lists whose first members are known

pub step_went : (old new rest : List Extent) (a b : Extent) → IsRising old → IsRising new → old ≡ a ∷ rest → Some b ≡ first_of new → comes_before a b ≡ true → changes old new ≡ Went a ∷ changes rest new
step_went old [] rest a b r s is first before = absurd cc
step_went old (y ∷ ys) rest a b r s is first before =
    let same : b ≡ y = cc in
    ap (λ l. changes l (y ∷ ys)) is ∙ changes_went a y rest ys (subst IsRising is r) s (subst (λ (c : Extent). comes_before a c ≡ true) same before)

pub step_came : (old new rest : List Extent) (a b : Extent) → IsRising old → IsRising new → Some a ≡ first_of old → new ≡ b ∷ rest → are_same (first_of old) (first_of new) ≡ false → comes_before a b ≡ false →
    changes old new ≡ Came b ∷ changes old rest
step_came [] new rest a b r s first is differ not_before = absurd cc
step_came (x ∷ xs) new rest a b r s first is differ not_before =
    let same : a ≡ x = cc in
    let other = subst (λ l. are_same (Some x) (first_of l) ≡ false) is differ in
    let before = comes_after x b (subst (λ (c : Extent). comes_before c b ≡ false) same not_before) other in
    ap (λ l. changes (x ∷ xs) l) is ∙ changes_came x b xs rest r (subst IsRising is s) before

pub step_both : (old new old_rest new_rest : List Extent) → IsRising old → IsRising new → PassesBoth old new old_rest new_rest → changes old new ≡ changes old_rest new_rest
step_both old new old_rest new_rest r s step =
    ap (λ l. changes l new) step.old_is ∙ ap (λ l. changes (step.member ∷ old_rest) l) step.new_is
    ∙ changes_same step.member old_rest new_rest (subst IsRising step.old_is r) (subst IsRising step.new_is s)

pub rest_rises : (list rest : List Extent) (a : Extent) → list ≡ a ∷ rest → IsRising list → IsRising rest
rest_rises list rest a is r = (subst IsRising is r).1

-- ---- a list and itself

or_true : (b : Bool) → (b || true) ≡ true
or_true true = refl
or_true false = refl

none_lost : (front list : List Extent) → lost list (front ++ list) ≡ []
none_lost front [] = refl
none_lost front (a ∷ list) =
    let here : contains_extent (front ++ a ∷ list) a ≡ true = list_any-append (λ b. same_extent b a) front (a ∷ list) ∙ rw (same_self a) (or_true (contains_extent front a)) in
    let rest : lost list (front ++ a ∷ list) ≡ [] = subst (λ (l : List Extent). lost list l ≡ []) (append_assoc front (a ∷ []) list) (none_lost (front ++ a ∷ []) list) in
    rw here rest

pub changes_none : (list : List Extent) → changes list list ≡ []
changes_none list = rw (none_lost [] list) refl
