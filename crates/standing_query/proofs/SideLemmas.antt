-- From member to member of a list that rises.
use Rattle.std.proofs.Common.{◌≡◌, ℕ, ◌+◌, ◌*◌, ◌<◌, ◌≤◌, Bool, true, false, cond, ◌&&◌, leb, List, [], ◌∷◌, length, filter, find, Option, Some, None, inl, inr, refl, sym, ap, ◌∙◌, subst, arith}
use Rattle.std.proofs.lemmas.Bool.{cases_Bool, and_parts, and_from, and_left, and_right, leb-true, leb-false, le-leb, lt-leb}
use Rattle.std.proofs.Math.Nat.{mul-le-mul_right}
use Rattle.gcl_locality.specs.Changed.{touches}
use Rattle.gcl_model.specs.Extents.{Extent, IsAhead, IsRising}
use Rattle.gcl_model.specs.Forms.{Form}
use Rattle.gcl_model.specs.Limits.{address_end}
use Rattle.gcl_model.specs.Meaning.{concordance, denotes}
use Rattle.gcl_model.specs.Texts.{Text, IsText}
use Rattle.gcl_model.proofs.Covers.{Has, of_each, find_gives}
use Rattle.gcl_model.proofs.Meanings.{IsOf, each_of_text, concordance_rises}
use Rattle.gcl_model.proofs.Minimal.{has_filter}
use Rattle.standing_query.specs.declared.head.Head.{Head}
use Rattle.standing_query.specs.declared.head.Head.TheVariants.{Ending, Starting, Found, End}
use Rattle.standing_query.specs.inner.Sides.{first_of, starts_within, left_of, asks_left, IsHead, IsAsked, found_of, head_at}

none_kept : (test : Extent → Bool) (list : List Extent) → ((a : Extent) → Has list a → test a ≡ false) → filter test list ≡ []
none_kept test [] all = refl
none_kept test (x ∷ xs) all = rw (all x (inl refl)) (none_kept test xs (λ a m. all a (inr m)))

-- two tests that agree on the members keep the same ones
pub kept_same : (p q : Extent → Bool) (list : List Extent) → ((a : Extent) → Has list a → p a ≡ q a) → filter p list ≡ filter q list
kept_same p q [] same = refl
kept_same p q (x ∷ xs) same = rw (same x (inl refl)) (ap (λ l. cond (q x) (x ∷ l) l) (kept_same p q xs (λ a m. same a (inr m))))

first_has : (list : List Extent) (a : Extent) → first_of list ≡ Some a → Has list a
first_has [] a is = absurd cc
first_has (x ∷ xs) a is = let same : x ≡ a = cc in inl same

-- a test that holds of what comes after each member of which it holds
abbrev pub Lasts : (Extent → Bool) → Type 0
Lasts test = (b c : Extent) → IsAhead b c → test b ≡ true → test c ≡ true

pub lasts_by_end : (k : ℕ) → Lasts (λ a. leb k a.end)
lasts_by_end k b c ahead e = let le = leb-true k b.end e in let lt = ahead.1 in le-leb k c.end (omega arith)

pub lasts_by_start : (k : ℕ) → Lasts (λ a. leb k a.start)
lasts_by_start k b c ahead e = let le = leb-true k b.start e in let lt = ahead.0 in le-leb k c.start (omega arith)

module _ (from : Extent → Bool) (lasts : Lasts from) (high : ℕ) where
  -- it holds of a, which starts at `high` or before
  abbrev passes : Extent → Bool
  passes a = from a && leb a.start high

  -- the first member is no longer there after it is passed
  not_again : (x : Extent) (xs : List Extent) (k : ℕ) → x.start < k → filter (starts_within k high) (x ∷ xs) ≡ filter (starts_within k high) xs
  not_again x xs k lt = rw (and_left (leb k x.start) (leb x.start high) (lt-leb k x.start lt)) refl

  left_behind : (x : Extent) (xs : List Extent) (o : Option Extent) → ((a : Extent) → o ≡ Some a → x.start < a.start) → left_of (x ∷ xs) high (head_at o high) ≡ left_of xs high (head_at o high)
  left_behind x xs None later = refl
  left_behind x xs (Some a) later = elim (cases_Bool (leb a.start high)) [
    | inl t ↦ rw t (not_again x xs a.start (later a refl))
    | inr f ↦ rw f refl
  ]

  -- it holds of the first member and of all that come after it, and none of them starts before it
  from_each : (x : Extent) (xs : List Extent) → IsRising (x ∷ xs) → from x ≡ true → (a : Extent) → Has (x ∷ xs) a → from a ≡ true
  from_each x xs r t a (inl is) = subst (λ y. from y ≡ true) is t
  from_each x xs r t a (inr m) = lasts x a (of_each (IsAhead x) xs a r.0 m) t

  start_each : (x : Extent) (xs : List Extent) → IsRising (x ∷ xs) → (a : Extent) → Has (x ∷ xs) a → x.start ≤ a.start
  start_each x xs r a (inl is) = let e = ap (λ (y : Extent). y.start) is in omega (arith, e)
  start_each x xs r a (inr m) = let lt = (of_each (IsAhead x) xs a r.0 m).0 in omega (arith, lt)

  found_here : (x : Extent) (xs : List Extent) → IsRising (x ∷ xs) → from x ≡ true → (c : Bool) → leb x.start high ≡ c → left_of (x ∷ xs) high (cond c (Found x) End) ≡ filter passes (x ∷ xs)
  found_here x xs r t true u =
      kept_same (starts_within x.start high) passes (x ∷ xs) (λ a m. ap (λ b. b && leb a.start high) (le-leb x.start a.start (start_each x xs r a m) ∙ sym (from_each x xs r t a m)))
  found_here x xs r t false u =
      sym (none_kept passes (x ∷ xs) (λ a m.
      let after = start_each x xs r a m in
      let beyond = leb-false x.start high u in
      and_right (from a) (leb a.start high) (lt-leb a.start high (omega (arith, after, beyond)))))

  -- what is found leaves the same members
  pub found_leaves : (list : List Extent) → IsRising list → left_of list high (head_at (find from list) high) ≡ filter passes list
  found_leaves [] r = refl
  found_leaves (x ∷ xs) r = elim (cases_Bool (from x)) [
    | inl t ↦ subst (λ b. left_of (x ∷ xs) high (head_at (cond b (Some x) (find from xs)) high) ≡ filter passes (x ∷ xs)) (sym t) (found_here x xs r t (leb x.start high) refl)
    | inr f ↦ subst (λ b. left_of (x ∷ xs) high (head_at (cond b (Some x) (find from xs)) high) ≡ filter passes (x ∷ xs)) (sym f)
        (left_behind x xs (find from xs) (λ a e. (of_each (IsAhead x) xs a r.0 (find_gives from xs a e).0).0) ∙ found_leaves xs r.1 ∙ sym (left_out x xs (and_left (from x) (leb x.start high) f)))
  ]
    where
      left_out : (x : Extent) (xs : List Extent) → passes x ≡ false → filter passes (x ∷ xs) ≡ filter passes xs
      left_out x xs e = rw e refl

  first_passes : (list : List Extent) (a : Extent) → find from list ≡ Some a → leb a.start high ≡ true → first_of (filter passes list) ≡ Some a
  first_passes [] a is t = absurd cc
  first_passes (x ∷ xs) a is t = elim (cases_Bool (from x)) [
    | inl u ↦
        let h = rw u at is in
        let same : x ≡ a = cc in
        rw (and_from (from x) (leb x.start high) u (subst (λ (y : Extent). leb y.start high ≡ true) (sym same) t)) (ap Some same)
    | inr f ↦ rw (and_left (from x) (leb x.start high) f) (first_passes xs a (rw f at is) t)
  ]

  found_stands_by : (list : List Extent) → IsRising list → (o : Option Extent) → find from list ≡ o → IsHead list high (head_at o high)
  found_stands_by list r None is = tt
  found_stands_by list r (Some a) is = elim (cases_Bool (leb a.start high)) [
    | inl t ↦
        let same : left_of list high (Found a) ≡ filter passes list = subst (λ b. left_of list high (cond b (Found a) End) ≡ filter passes list) t (subst (λ o. left_of list high (head_at o high) ≡ filter passes list) is (found_leaves list r)) in
        rw t (ap first_of same ∙ first_passes list a is t)
    | inr f ↦ rw f tt
  ]

  -- and it is the first of them
  pub found_stands : (list : List Extent) → IsRising list → IsHead list high (head_at (find from list) high)
  found_stands list r = found_stands_by list r (find from list) refl

  -- behind the first member that is left, those are left that start after it does
  pub passed : (list : List Extent) → IsRising list → (m : Extent) → first_of (filter passes list) ≡ Some m → filter passes list ≡ m ∷ filter (starts_within (m.start + 1) high) list
  passed [] r m is = absurd cc
  passed (x ∷ xs) r m is = elim (cases_Bool (passes x)) [
    | inl t ↦
        let h = rw t at is in
        let same : x ≡ m = cc in
        let parts = and_parts (from x) (leb x.start high) t in
        let rest : filter passes xs ≡ filter (starts_within (x.start + 1) high) xs = kept_same passes (starts_within (x.start + 1) high) xs (λ a n.
        let lt = (of_each (IsAhead x) xs a r.0 n).0 in
        ap (λ b. b && leb a.start high) (from_each x xs r parts.0 a (inr n) ∙ sym (le-leb (x.start + 1) a.start (omega (arith, lt))))) in
        let here : filter passes (x ∷ xs) ≡ x ∷ filter (starts_within (x.start + 1) high) (x ∷ xs) = rw t (ap (λ l. x ∷ l) (rest ∙ sym (not_again x xs (x.start + 1) (omega arith)))) in
        subst (λ (y : Extent). filter passes (x ∷ xs) ≡ y ∷ filter (starts_within (y.start + 1) high) (x ∷ xs)) same here
    | inr f ↦
        let h = rw f at is in
        let lt = (of_each (IsAhead x) xs m r.0 (has_filter passes xs m (first_has (filter passes xs) m h)).0).0 in
        let skip : filter passes (x ∷ xs) ≡ filter passes xs = rw f refl in
        skip ∙ passed xs r.1 m h ∙ ap (λ l. m ∷ l) (sym (not_again x xs (m.start + 1) (omega (arith, lt))))
  ]

module _ (list : List Extent) (rising : IsRising list) (high : ℕ) where
  -- the same of any place where a list goes on
  pub pass_leaves : (head : Head) (m : Extent) → Some m ≡ first_of (left_of list high head) → left_of list high head ≡ m ∷ left_of list high (Starting (m.start + 1))
  pass_leaves (Ending k) m is = passed (λ a. leb k a.end) (lasts_by_end k) high list rising m (sym is)
  pass_leaves (Starting k) m is = passed (λ a. leb k a.start) (lasts_by_start k) high list rising m (sym is)
  pass_leaves (Found a) m is = passed (λ b. leb a.start b.start) (lasts_by_start a.start) high list rising m (sym is)
  pass_leaves End m is = absurd cc

  -- the first member that is left is one of the list
  pub first_left : (head : Head) (m : Extent) → Some m ≡ first_of (left_of list high head) → Has list m
  first_left (Ending k) m is = (has_filter (touches k high) list m (first_has _ m (sym is))).0
  first_left (Starting k) m is = (has_filter (starts_within k high) list m (first_has _ m (sym is))).0
  first_left (Found a) m is = (has_filter (starts_within a.start high) list m (first_has _ m (sym is))).0
  first_left End m is = absurd cc

  -- what is known is the first member that is left
  pub known_first : (head : Head) → IsHead list high head → IsAsked head → found_of head ≡ first_of (left_of list high head)
  known_first (Ending k) stands known = absurd known
  known_first (Starting k) stands known = absurd known
  known_first (Found a) stands known = sym stands
  known_first End stands known = refl

  -- there are as many questions as members that are left, at least
  pub asks_enough : (head : Head) → length (left_of list high head) ≤ asks_left list high head
  asks_enough (Ending k) = omega arith
  asks_enough (Starting k) = omega arith
  asks_enough (Found a) = omega arith
  asks_enough End = omega arith

  -- and no more once one was asked for
  pub asks_known : (head : Head) → IsAsked head → asks_left list high head ≤ length (left_of list high head)
  asks_known (Ending k) known = absurd known
  asks_known (Starting k) known = absurd known
  asks_known (Found a) known = omega arith
  asks_known End known = omega arith

pub head_is_asked : (o : Option Extent) (high : ℕ) → IsAsked (head_at o high)
head_is_asked None high = tt
head_is_asked (Some a) high = elim (cases_Bool (leb a.start high)) [ inl t ↦ rw t tt | inr f ↦ rw f tt ]

-- one question more
pub asked_once : (old new cost asks count : ℕ) → new ≤ old + cost → asks ≤ count → new + asks * cost ≤ old + (count + 1) * cost
asked_once old new cost asks count step few =
    let less : asks * cost ≤ count * cost = mul-le-mul_right cost few in
    omega (arith, step, less)

-- where a list goes on once a member was asked for
module _ (list : List Extent) (rising : IsRising list) (high : ℕ) (from : Extent → Bool) (lasts : Lasts from) (head : Head) (is : head ≡ head_at (find from list) high) where
  pub asked_stands : IsHead list high head
  asked_stands = subst (λ h. IsHead list high h) (sym is) (found_stands from lasts high list rising)

  pub asked_leaves : left_of list high head ≡ filter (λ a. from a && leb a.start high) list
  asked_leaves = ap (λ h. left_of list high h) is ∙ found_leaves from lasts high list rising

  pub asked_costs : (old new cost : ℕ) → new ≤ old + cost → new + asks_left list high head * cost ≤ old + (length (filter (λ a. from a && leb a.start high) list) + 1) * cost
  asked_costs old new cost step =
      let few = asks_known list rising high head (subst (λ h. IsAsked h) (sym is) (head_is_asked (find from list) high)) in
      let count = ap length asked_leaves in
      asked_once old new cost (asks_left list high head) _ step (omega (arith, few, count))

module _ (text : Text) (form : Form) (sound : IsText text) (high : ℕ) (head : Head) (m : Extent) (is : Some m ≡ first_of (left_of (concordance text form) high head)) where
  -- the first member that is left starts before the addresses end
  pub first_within : m.start < address_end
  first_within =
      let of = of_each (IsOf text) (concordance text form) m (each_of_text text (denotes text form)) (first_left (concordance text form) (concordance_rises text form) high head m is) in
      omega (arith, of.proper, of.below, sound.in_range)

  -- behind it those are left that start after it does
  pub behind_leaves : (start : ℕ) → start ≡ m.start → left_of (concordance text form) high head ≡ m ∷ left_of (concordance text form) high (Starting (start + 1))
  behind_leaves start e = pass_leaves (concordance text form) (concordance_rises text form) high head m is ∙ ap (λ n. m ∷ left_of (concordance text form) high (Starting (n + 1))) (sym e)

  -- and no more look-ups may be made
  pub behind_costs : (start cost : ℕ) → start ≡ m.start → asks_left (concordance text form) high (Starting (start + 1)) * cost ≤ asks_left (concordance text form) high head * cost
  behind_costs start cost e =
      let count = ap length (behind_leaves start e) in
      let enough = asks_enough (concordance text form) (concordance_rises text form) high head in
      mul-le-mul_right cost (omega (arith, count, enough))
