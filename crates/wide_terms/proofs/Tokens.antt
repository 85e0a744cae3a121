-- Members of lists of tokens, and lists that rise in byte order.
use Rattle.std.proofs.Common.{nat_cmp, Ordering, ◌≡◌, ◌⊎◌, ℕ, ◌≤◌, Bool, true, false, filter, map, length, arith, List, [], ◌∷◌, ◌++◌, bytes_eq, inl, inr, refl, sym, ap, ◌∙◌, subst}
use Rattle.std.proofs.lemmas.Bool.{true≢false, cases_Bool, or_cases, or_left, or_right}
use Rattle.std.proofs.lemmas.Slice.Eq.{bytes_eq-Decides}
use Rattle.std.proofs.lemmas.Cmp.{nat_list_cmp_total}
use Rattle.std.specs.declared.cmp.Ordering.TheVariants.{Less, Equal, Greater}
use Rattle.std.specs.Ordering.{ordering_reverse}
use Rattle.std.specs.Cmp.Lexicographic.{slice_cmp}
use Rattle.std.specs.List.{AllByRecursion, list_any}
use Rattle.wide_terms.specs.Vocabulary.{ComesBefore, RiseInBytes}

-- x is a member
abbrev pub Has : {X : Type 0} → List X → X → Type 0
Has [] x = ⊥
Has (y ∷ ys) x = (y ≡ x) ⊎ Has ys x

pub any_tells : {X : Type 0} (test : X → Bool) (xs : List X) → list_any test xs ≡ true → (x : X) × Has xs x × (test x ≡ true)
any_tells test [] e = absurd (true≢false (sym e))
any_tells test (x ∷ xs) e =
    elim (or_cases (test x) (list_any test xs) e) [ inl h ↦ (x, inl refl, h) | inr h ↦ let r = any_tells test xs h in (r.0, inr r.1, r.2) ]

pub any_from : {X : Type 0} (test : X → Bool) (xs : List X) (x : X) → Has xs x → test x ≡ true → list_any test xs ≡ true
any_from test [] x m t = absurd m
any_from test (y ∷ ys) x (inl e) t = or_left (test y) (list_any test ys) (ap test e ∙ t)
any_from test (y ∷ ys) x (inr m) t = or_right (test y) (list_any test ys) (any_from test ys x m t)

pub of_each : {X : Type 0} (P : X → Type 0) (xs : List X) (x : X) → AllByRecursion P xs → Has xs x → P x
of_each P [] x all m = absurd m
of_each P (y ∷ ys) x all (inl e) = subst P e all.0
of_each P (y ∷ ys) x all (inr m) = of_each P ys x all.1 m

pub each_from : {X : Type 0} (P : X → Type 0) (xs : List X) → ((x : X) → Has xs x → P x) → AllByRecursion P xs
each_from P [] each = tt
each_from P (x ∷ xs) each = (each x (inl refl), each_from P xs (λ y m. each y (inr m)))

pub filter_has : {X : Type 0} (test : X → Bool) (xs : List X) (x : X) → Has xs x → test x ≡ true → Has (filter test xs) x
filter_has test [] x m t = m
filter_has test (y ∷ ys) x (inl e) t = rw (ap test e ∙ t) (inl e)
filter_has test (y ∷ ys) x (inr m) t =
    elim (cases_Bool (test y)) [ inl h ↦ rw h (inr (filter_has test ys x m t)) | inr h ↦ rw h (filter_has test ys x m t) ]

pub has_filter : {X : Type 0} (test : X → Bool) (xs : List X) (x : X) → Has (filter test xs) x → Has xs x × (test x ≡ true)
has_filter test [] x m = absurd m
has_filter test (y ∷ ys) x m =
    elim (cases_Bool (test y)) [
      | inl h ↦ elim (rw h at m) [ inl e ↦ (inl e, ap test (sym e) ∙ h) | inr n ↦ let r = has_filter test ys x n in (inr r.0, r.1) ]
      | inr h ↦ let r = has_filter test ys x (rw h at m) in (inr r.0, r.1)
    ]

-- a token is one of these if it is a member
pub has_tells : (xs : List (List ℕ)) (t : List ℕ) → Has xs t → list_any (λ x. bytes_eq x t) xs ≡ true
has_tells xs t m = any_from (λ x. bytes_eq x t) xs t m ((bytes_eq-Decides t t).1 refl)

pub has_from : (xs : List (List ℕ)) (t : List ℕ) → list_any (λ x. bytes_eq x t) xs ≡ true → Has xs t
has_from xs t e = let r = any_tells (λ x. bytes_eq x t) xs e in subst (Has xs) ((bytes_eq-Decides r.0 t).0 r.2) r.1

-- members of lists that are joined
pub has_left : {X : Type 0} (xs ys : List X) (x : X) → Has xs x → Has (xs ++ ys) x
has_left [] ys x m = absurd m
has_left (y ∷ xs) ys x (inl e) = inl e
has_left (y ∷ xs) ys x (inr m) = inr (has_left xs ys x m)

pub has_right : {X : Type 0} (xs ys : List X) (x : X) → Has ys x → Has (xs ++ ys) x
has_right [] ys x m = m
has_right (y ∷ xs) ys x m = inr (has_right xs ys x m)

pub has_parts : {X : Type 0} (xs ys : List X) (x : X) → Has (xs ++ ys) x → Has xs x ⊎ Has ys x
has_parts [] ys x m = inr m
has_parts (y ∷ xs) ys x (inl e) = inl (inl e)
has_parts (y ∷ xs) ys x (inr m) = elim (has_parts xs ys x m) [ inl n ↦ inl (inr n) | inr n ↦ inr n ]

pub has_map : {X Y : Type 0} (f : X → Y) (xs : List X) (x : X) → Has xs x → Has (map f xs) (f x)
has_map f [] x m = absurd m
has_map f (y ∷ xs) x (inl e) = inl (ap f e)
has_map f (y ∷ xs) x (inr m) = inr (has_map f xs x m)

pub map_has : {X Y : Type 0} (f : X → Y) (xs : List X) (y : Y) → Has (map f xs) y → (x : X) × Has xs x × (f x ≡ y)
map_has f [] y m = absurd m
map_has f (x ∷ xs) y (inl e) = (x, inl refl, e)
map_has f (x ∷ xs) y (inr m) = let r = map_has f xs y m in (r.0, inr r.1, r.2)

-- byte order
pub before_trans : (a b c : List ℕ) → ComesBefore a b → ComesBefore b c → ComesBefore a c
before_trans a b c p q = nat_list_cmp_total.trans a b c p q

less_is_not_equal : Less ≡ Equal → ⊥
less_is_not_equal e = absurd cc

pub never_before_itself : (a : List ℕ) → ComesBefore a a → ⊥
never_before_itself a p = let q : slice_cmp nat_cmp a a ≡ Greater = nat_list_cmp_total.antisymm a a ∙ ap ordering_reverse p in absurd cc

pub not_both_before : (a b : List ℕ) → ComesBefore a b → ComesBefore b a → ⊥
not_both_before a b p q = never_before_itself a (before_trans a b a p q)

pub greater_before : (a b : List ℕ) → slice_cmp nat_cmp a b ≡ Greater → ComesBefore b a
greater_before a b is = nat_list_cmp_total.antisymm b a ∙ ap ordering_reverse is

pub before_greater : (a b : List ℕ) → ComesBefore b a → slice_cmp nat_cmp a b ≡ Greater
before_greater a b is = nat_list_cmp_total.antisymm a b ∙ ap ordering_reverse is

pub equal_itself : (a : List ℕ) → slice_cmp nat_cmp a a ≡ Equal
equal_itself a = here (slice_cmp nat_cmp a a) refl
  where
    here : (o : Ordering) → slice_cmp nat_cmp a a ≡ o → slice_cmp nat_cmp a a ≡ Equal
    here Less is = absurd (never_before_itself a is)
    here Equal is = is
    here Greater is = absurd (never_before_itself a (greater_before a a is))

-- two rising lists of the same members are one
pub rising_unique : (xs ys : List (List ℕ)) → RiseInBytes xs → RiseInBytes ys → ((t : List ℕ) → Has xs t → Has ys t) → ((t : List ℕ) → Has ys t → Has xs t) → xs ≡ ys
rising_unique [] [] rx ry on back = refl
rising_unique [] (y ∷ ys) rx ry on back = absurd (back y (inl refl))
rising_unique (x ∷ xs) [] rx ry on back = absurd (on x (inl refl))
rising_unique (x ∷ xs) (y ∷ ys) rx ry on back =
    let same : x ≡ y = heads (on x (inl refl)) (back y (inl refl)) in
    ap (λ z. z ∷ xs) same
    ∙ ap (λ l. y ∷ l)
    (rising_unique xs ys rx.1 ry.1
    (λ t m. elim (on t (inr m)) [ inl e ↦ absurd (never_before_itself x (subst (ComesBefore x) (sym e ∙ sym same) (of_each (ComesBefore x) xs t rx.0 m))) | inr n ↦ n ])
    (λ t m. elim (back t (inr m)) [ inl e ↦ absurd (never_before_itself y (subst (ComesBefore y) (sym e ∙ same) (of_each (ComesBefore y) ys t ry.0 m))) | inr n ↦ n ]))
  where
    heads : (y ≡ x) ⊎ Has ys x → (x ≡ y) ⊎ Has xs y → x ≡ y
    heads (inl e) n = sym e
    heads (inr m) (inl e) = e
    heads (inr m) (inr n) = absurd (not_both_before x y (of_each (ComesBefore x) xs y rx.0 n) (of_each (ComesBefore y) ys x ry.0 m))

pub rising_filter : (test : List ℕ → Bool) (xs : List (List ℕ)) → RiseInBytes xs → RiseInBytes (filter test xs)
rising_filter test [] r = tt
rising_filter test (x ∷ xs) r =
    let after = each_from (ComesBefore x) (filter test xs) (λ y m. of_each (ComesBefore x) xs y r.0 (has_filter test xs y m).0) in
    let rest = rising_filter test xs r.1 in
    elim (cases_Bool (test x)) [ inl h ↦ rw h (after, rest) | inr h ↦ rw h rest ]

-- a rising list whose members another one has is no longer than that one
shorter_step : (x : List ℕ) (xs : List (List ℕ)) (y : List ℕ) (ys : List (List ℕ)) → RiseInBytes (x ∷ xs) → RiseInBytes (y ∷ ys) → ((t : List ℕ) → Has (x ∷ xs) t → Has (y ∷ ys) t) → (y ≡ x) ⊎ Has ys x →
    (((t : List ℕ) → Has xs t → Has ys t) → length xs ≤ length ys) → (((t : List ℕ) → Has (x ∷ xs) t → Has ys t) → length (x ∷ xs) ≤ length ys) → length (x ∷ xs) ≤ length (y ∷ ys)
shorter_step x xs y ys rx ry on (inl e) both one =
    let le : length xs ≤ length ys = both
    (λ t m. elim (on t (inr m)) [ inl f ↦ absurd (never_before_itself x (subst (ComesBefore x) (sym f ∙ e) (of_each (ComesBefore x) xs t rx.0 m))) | inr n ↦ n ]) in
    omega arith
shorter_step x xs y ys rx ry on (inr n) both one =
    let later : ComesBefore y x = of_each (ComesBefore y) ys x ry.0 n in
    let le : length (x ∷ xs) ≤ length ys = one
    (λ t m. elim (on t m) [
      | inl f ↦ absurd (elim m [
        | inl e ↦ never_before_itself y (subst (ComesBefore y) (e ∙ sym f) later)
        | inr o ↦ not_both_before y x later (subst (ComesBefore x) (sym f) (of_each (ComesBefore x) xs t rx.0 o))
      ])
      | inr k ↦ k
    ]) in
    omega arith

pub rising_shorter : (xs ys : List (List ℕ)) → RiseInBytes xs → RiseInBytes ys → ((t : List ℕ) → Has xs t → Has ys t) → length xs ≤ length ys
rising_shorter [] ys rx ry on = omega arith
rising_shorter (x ∷ xs) [] rx ry on = absurd (on x (inl refl))
rising_shorter (x ∷ xs) (y ∷ ys) rx ry on =
    shorter_step x xs y ys rx ry on (on x (inl refl)) (λ h. rising_shorter xs ys rx.1 ry.1 h) (λ h. rising_shorter (x ∷ xs) ys rx ry.1 h)
