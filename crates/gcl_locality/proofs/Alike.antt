-- What two lists share on a set of intervals that has, with each, all that lie within it: each operator keeps that.
use Rattle.std.proofs.Common.{◌≡◌, ℕ, ◌+◌, ◌≤◌, Bool, true, false, not, ◌&&◌, ◌||◌, leb, eqb, List, [], ◌∷◌, inl, inr, refl, sym, ap, ◌∙◌, subst, arith}
use Rattle.std.specs.List.{list_all, list_any}
use Rattle.std.proofs.lemmas.Bool.{true≢false, and_parts, and_from, or_cases, or_left, or_right, leb-true, eqb-true, eq-eqb}
use Rattle.gcl_model.specs.Extents.{Extent, is_nested, same_extent, contains_extent, covers, is_least, minimal, all_extents}
use Rattle.gcl_model.specs.Texts.{Text, holds}
use Rattle.gcl_model.specs.Meaning.{extents_where, all_cover, any_contains, ends_in_order, runs_in_order, is_minimal}
use Rattle.gcl_model.proofs.Covers.{Nested, nested_tells, Has, covered_tells, covered_from, of_each}
use Rattle.gcl_model.proofs.Minimal.{filter_has, has_filter, has_extent, same_truth}
use Rattle.gcl_model.proofs.Meanings.{IsOf, AreOf, each_of_text, minimal_list, contains_tells}

-- a member that passes a test, if some member does, and back
pub any_tells : (test : Extent → Bool) (list : List Extent) → list_any test list ≡ true → (a : Extent) × Has list a × (test a ≡ true)
any_tells test [] e = absurd (true≢false (sym e))
any_tells test (x ∷ xs) e =
    elim (or_cases (test x) (list_any test xs) e) [ inl h ↦ (x, inl refl, h) | inr h ↦ let r = any_tells test xs h in (r.0, inr r.1, r.2) ]

pub any_from : (test : Extent → Bool) (list : List Extent) (a : Extent) → Has list a → test a ≡ true → list_any test list ≡ true
any_from test [] a m t = absurd m
any_from test (x ∷ xs) a (inl e) t = or_left (test x) (list_any test xs) (subst (λ y. test y ≡ true) (sym e) t)
any_from test (x ∷ xs) a (inr m) t = or_right (test x) (list_any test xs) (any_from test xs a m t)

-- what passes for all members passes for each
all_at : (test : Extent → Bool) (list : List Extent) (a : Extent) → list_all test list ≡ true → Has list a → test a ≡ true
all_at test [] a e m = absurd m
all_at test (x ∷ xs) a e (inl is) = subst (λ y. test y ≡ true) is (and_parts _ _ e).0
all_at test (x ∷ xs) a e (inr m) = all_at test xs a (and_parts _ _ e).1 m

pub contains_from : (list : List Extent) (c : Extent) → Has list c → contains_extent list c ≡ true
contains_from list c m = any_from (λ a. same_extent a c) list c m (and_from (eqb c.start c.start) (eqb c.end c.end) (eq-eqb c.start c.start refl) (eq-eqb c.end c.end refl))

-- the second list has what the first one has there
abbrev pub Goes : (Extent → Type 0) → List Extent → List Extent → Type 0
Goes S xs ys = (c : Extent) → S c → Has xs c → Has ys c

-- the two lists have the same there
abbrev pub Alike : (Extent → Type 0) → List Extent → List Extent → Type 0
Alike S xs ys = Goes S xs ys × Goes S ys xs

-- so do the lists of two rows, one by one
abbrev pub AreAlike : (Extent → Type 0) → List (List Extent) → List (List Extent) → Type 0
AreAlike S [] [] = Unit {0}
AreAlike S [] (ys ∷ yss) = ⊥
AreAlike S (xs ∷ xss) [] = ⊥
AreAlike S (xs ∷ xss) (ys ∷ yss) = Alike S xs ys × AreAlike S xss yss

pub alike_other : (S : Extent → Type 0) (xs ys : List Extent) → Alike S xs ys → Alike S ys xs
alike_other S xs ys a = (a.1, a.0)

pub are_alike_other : (S : Extent → Type 0) (xss yss : List (List Extent)) → AreAlike S xss yss → AreAlike S yss xss
are_alike_other S [] [] a = tt
are_alike_other S [] (ys ∷ yss) a = absurd a
are_alike_other S (xs ∷ xss) [] a = absurd a
are_alike_other S (xs ∷ xss) (ys ∷ yss) a = (alike_other S xs ys a.0, are_alike_other S xss yss a.1)

-- what is the same on a set is the same on a lesser one
pub alike_less : (S T : Extent → Type 0) → ((c : Extent) → T c → S c) → (xs ys : List Extent) → Alike S xs ys → Alike T xs ys
alike_less S T less xs ys a = (λ c t m. a.0 c (less c t) m, λ c t m. a.1 c (less c t) m)

pub contains_same : (S : Extent → Type 0) (xs ys : List Extent) → Alike S xs ys → (c : Extent) → S c → contains_extent xs c ≡ contains_extent ys c
contains_same S xs ys a c s =
    same_truth (contains_extent xs c) (contains_extent ys c)
    (λ e. contains_from ys c (a.0 c s (contains_tells xs c e)))
    (λ e. contains_from xs c (a.1 c s (contains_tells ys c e)))

-- two texts and such a set: what lies in one of them lies in the other, and the words there are the same
pub record AreShared (old new : Text) (S : Extent → Type 0) : Type 0 where
  pub within : (a c : Extent) → Nested a c → S c → S a
  pub on : (c : Extent) → S c → IsOf old c → IsOf new c
  pub back : (c : Extent) → S c → IsOf new c → IsOf old c
  pub words : (c : Extent) → S c → (p : ℕ) → c.start ≤ p → p ≤ c.end → (token : List ℕ) → holds old.words token p ≡ holds new.words token p

pub shared_other : (old new : Text) (S : Extent → Type 0) → AreShared old new S → AreShared new old S
shared_other old new S sh = record { within = sh.within; on = sh.back; back = sh.on; words = λ c s p ge le token. sym (sh.words c s p ge le token) }

all_from : (test : Extent → Bool) (list : List Extent) → ((d : Extent) → Has list d → test d ≡ true) → list_all test list ≡ true
all_from test [] each = refl
all_from test (x ∷ xs) each = and_from _ _ (each x (inl refl)) (all_from test xs (λ d m. each d (inr m)))

-- what is in order from p up to q leaves room for it
room : (text : Text) (lists : List (List Extent)) → AreOf text lists → (p q : ℕ) → ends_in_order lists p q ≡ true → p ≤ q + 1
room text [] of p q e = let is : p ≡ q + 1 = eqb-true p (q + 1) e in omega arith
room text (list ∷ lists) of p q e =
    let r = any_tells (λ a. leb p a.start && ends_in_order lists (a.end + 1) q) list e in
    let parts = and_parts _ _ r.2 in
    let from : p ≤ r.0.start = leb-true p r.0.start parts.0 in
    let proper : r.0.start ≤ r.0.end = (of_each (IsOf text) list r.0 of.0 r.1).proper in
    let rest : r.0.end + 1 ≤ q + 1 = room text lists of.1 (r.0.end + 1) q parts.1 in
    omega arith

not_goes : (x y : Bool) → (y ≡ true → x ≡ true) → not x ≡ true → not y ≡ true
not_goes x true back e = absurd (true≢false (sym e ∙ ap not (back refl)))
not_goes x false back e = refl

-- those of a first operand that pass a second test too
pub kept_goes : (old new : Text) (S : Extent → Type 0) (test other keep keeps : Extent → Bool) → Goes S (extents_where old test) (extents_where new other) →
    ((c : Extent) → S c → c.start ≤ c.end → keep c ≡ true → keeps c ≡ true) →
    Goes S (extents_where old (λ c. test c && keep c)) (extents_where new (λ c. other c && keeps c))
kept_goes old new S test other keep keeps go same c s m =
    let of = of_each (IsOf old) (extents_where old (λ c. test c && keep c)) c (each_of_text old (λ c. test c && keep c)) m in
    let h = has_filter (λ c. test c && keep c) (all_extents old.first old.next) c m in
    let parts = and_parts (test c) (keep c) h.1 in
    let k = has_filter other (all_extents new.first new.next) c (go c s (filter_has test (all_extents old.first old.next) c h.0 parts.0)) in
    filter_has (λ c. other c && keeps c) (all_extents new.first new.next) c k.0 (and_from (other c) (keeps c) k.1 (same c s of.proper parts.1))

-- the same of both sides, with a test on which both agree
pub kept_alike : (old new : Text) (S : Extent → Type 0) (test others keep keeps : Extent → Bool) → Alike S (extents_where old test) (extents_where new others) →
    ((c : Extent) → S c → c.start ≤ c.end → keep c ≡ true → keeps c ≡ true) → ((c : Extent) → S c → c.start ≤ c.end → keeps c ≡ true → keep c ≡ true) →
    Alike S (extents_where old (λ c. test c && keep c)) (extents_where new (λ c. others c && keeps c))
kept_alike old new S test others keep keeps a on back = (kept_goes old new S test others keep keeps a.0 on, kept_goes new old S others test keeps keep a.1 back)

-- and with the opposite of such a test
pub dropped_alike : (old new : Text) (S : Extent → Type 0) (test others keep keeps : Extent → Bool) → Alike S (extents_where old test) (extents_where new others) →
    ((c : Extent) → S c → c.start ≤ c.end → keep c ≡ true → keeps c ≡ true) → ((c : Extent) → S c → c.start ≤ c.end → keeps c ≡ true → keep c ≡ true) →
    Alike S (extents_where old (λ c. test c && not (keep c))) (extents_where new (λ c. others c && not (keeps c)))
dropped_alike old new S test others keep keeps a on back = (
  kept_goes old new S test others (λ c. not (keep c)) (λ c. not (keeps c)) a.0 (λ c s le e. not_goes (keep c) (keeps c) (back c s le) e),
  kept_goes new old S others test (λ c. not (keeps c)) (λ c. not (keep c)) a.1 (λ c s le e. not_goes (keeps c) (keep c) (on c s le) e),
)

module _ (old new : Text) (S : Extent → Type 0) (sh : AreShared old new S) where
  pub covers_goes : (xs ys : List Extent) → Goes S xs ys → (c : Extent) → S c → covers xs c ≡ true → covers ys c ≡ true
  covers_goes xs ys go c s e =
      let w = covered_tells xs c e in
      covered_from ys w.by c (go w.by (sh.within w.by c w.nested s) w.member) w.nested

  all_cover_goes : (xss yss : List (List Extent)) → AreAlike S xss yss → (c : Extent) → S c → all_cover xss c ≡ true → all_cover yss c ≡ true
  all_cover_goes [] [] a c s e = refl
  all_cover_goes [] (ys ∷ yss) a c s e = absurd a
  all_cover_goes (xs ∷ xss) [] a c s e = absurd a
  all_cover_goes (xs ∷ xss) (ys ∷ yss) a c s e =
      let parts = and_parts _ _ e in
      and_from _ _ (covers_goes xs ys a.0.0 c s parts.0) (all_cover_goes xss yss a.1 c s parts.1)

  any_contains_goes : (xss yss : List (List Extent)) → AreAlike S xss yss → (c : Extent) → S c → any_contains xss c ≡ true → any_contains yss c ≡ true
  any_contains_goes [] [] a c s e = e
  any_contains_goes [] (ys ∷ yss) a c s e = absurd a
  any_contains_goes (xs ∷ xss) [] a c s e = absurd a
  any_contains_goes (xs ∷ xss) (ys ∷ yss) a c s e =
      elim (or_cases (contains_extent xs c) (any_contains xss c) e) [
        | inl h ↦ or_left (contains_extent ys c) (any_contains yss c) (contains_from ys c (a.0.0 c s (contains_tells xs c h)))
        | inr h ↦ or_right (contains_extent ys c) (any_contains yss c) (any_contains_goes xss yss a.1 c s h)
      ]

  ends_goes : (xss yss : List (List Extent)) → AreAlike S xss yss → AreOf old xss → (c : Extent) → S c → (p : ℕ) → c.start ≤ p →
      ends_in_order xss p c.end ≡ true → ends_in_order yss p c.end ≡ true
  ends_goes [] [] a of c s p ge e = e
  ends_goes [] (ys ∷ yss) a of c s p ge e = absurd a
  ends_goes (xs ∷ xss) [] a of c s p ge e = absurd a
  ends_goes (xs ∷ xss) (ys ∷ yss) a of c s p ge e =
      let r = any_tells (λ a. leb p a.start && ends_in_order xss (a.end + 1) c.end) xs e in
      let parts = and_parts _ _ r.2 in
      let from : p ≤ r.0.start = leb-true p r.0.start parts.0 in
      let proper : r.0.start ≤ r.0.end = (of_each (IsOf old) xs r.0 of.0 r.1).proper in
      let upto : r.0.end + 1 ≤ c.end + 1 = room old xss of.1 (r.0.end + 1) c.end parts.1 in
      any_from (λ a. leb p a.start && ends_in_order yss (a.end + 1) c.end) ys r.0
      (a.0.0 r.0 (sh.within r.0 c (omega arith, omega arith) s) r.1)
      (and_from _ _ parts.0 (ends_goes xss yss a.1 of.1 c s (r.0.end + 1) (omega arith) parts.1))

  runs_goes : (xss yss : List (List Extent)) → AreAlike S xss yss → AreOf old xss → (c : Extent) → S c → runs_in_order xss c ≡ true → runs_in_order yss c ≡ true
  runs_goes [] [] a of c s e = e
  runs_goes [] (ys ∷ yss) a of c s e = absurd a
  runs_goes (xs ∷ xss) [] a of c s e = absurd a
  runs_goes (xs ∷ xss) (ys ∷ yss) a of c s e =
      let r = any_tells (λ a. eqb a.start c.start && ends_in_order xss (a.end + 1) c.end) xs e in
      let parts = and_parts _ _ r.2 in
      let from : r.0.start ≡ c.start = eqb-true r.0.start c.start parts.0 in
      let proper : r.0.start ≤ r.0.end = (of_each (IsOf old) xs r.0 of.0 r.1).proper in
      let upto : r.0.end + 1 ≤ c.end + 1 = room old xss of.1 (r.0.end + 1) c.end parts.1 in
      any_from (λ a. eqb a.start c.start && ends_in_order yss (a.end + 1) c.end) ys r.0
      (a.0.0 r.0 (sh.within r.0 c (omega arith, omega arith) s) r.1)
      (and_from _ _ parts.0 (ends_goes xss yss a.1 of.1 c s (r.0.end + 1) (omega arith) parts.1))

  -- the least of two lists that agree there
  minimal_goes : (xs ys : List Extent) → Alike S xs ys → Goes S (minimal xs) (minimal ys)
  minimal_goes xs ys a c s m =
      let h = has_filter (is_least xs) xs c m in
      filter_has (is_least ys) ys c (a.0 c s h.0) (all_from (λ d. not (is_nested d c) || same_extent d c) ys (λ d n. here d n (is_nested d c) refl h.1))
    where
      here : (d : Extent) → Has ys d → (b : Bool) → is_nested d c ≡ b → is_least xs c ≡ true → (not (is_nested d c) || same_extent d c) ≡ true
      here d n true is e = all_at (λ d. not (is_nested d c) || same_extent d c) xs d e (a.1 d (sh.within d c (nested_tells d c is) s) n)
      here d n false is e = or_left (not (is_nested d c)) (same_extent d c) (ap not is)

  -- the intervals that pass tests which agree there
  pub where_goes : (test other : Extent → Bool) → ((c : Extent) → S c → IsOf old c → test c ≡ true → other c ≡ true) → Goes S (extents_where old test) (extents_where new other)
  where_goes test other same c s m =
      let of = of_each (IsOf old) (extents_where old test) c (each_of_text old test) m in
      let in' = sh.on c s of in
      filter_has other (all_extents new.first new.next) c (has_extent new.first new.next c.start c.end in'.above in'.proper in'.below)
      (same c s of (has_filter test (all_extents old.first old.next) c m).1)

  least_goes : (test other : Extent → Bool) → Alike S (extents_where old test) (extents_where new other) →
      Goes S (extents_where old (is_minimal old test)) (extents_where new (is_minimal new other))
  least_goes test other a c s m =
      subst (λ l. Has l c) (sym (minimal_list new other))
      (minimal_goes (extents_where old test) (extents_where new other) a c s (subst (λ l. Has l c) (minimal_list old test) m))

-- both ways
module _ (old new : Text) (S : Extent → Type 0) (sh : AreShared old new S) where
  other : AreShared new old S
  other = shared_other old new S sh

  pub where_alike : (test others : Extent → Bool) → ((c : Extent) → S c → c.start ≤ c.end → test c ≡ others c) → Alike S (extents_where old test) (extents_where new others)
  where_alike test others same = (
    where_goes old new S sh test others (λ c s of e. sym (same c s of.proper) ∙ e),
    where_goes new old S other others test (λ c s of e. same c s of.proper ∙ e),
  )

  least_alike : (test others : Extent → Bool) → Alike S (extents_where old test) (extents_where new others) → Alike S (extents_where old (is_minimal old test)) (extents_where new (is_minimal new others))
  least_alike test others a = (least_goes old new S sh test others a, least_goes new old S other others test (a.1, a.0))

  pub both_alike : (xss yss : List (List Extent)) → AreAlike S xss yss →
      Alike S (extents_where old (is_minimal old (all_cover xss))) (extents_where new (is_minimal new (all_cover yss)))
  both_alike xss yss a = least_alike (all_cover xss) (all_cover yss) (
    where_goes old new S sh (all_cover xss) (all_cover yss) (λ c s of e. all_cover_goes old new S sh xss yss a c s e),
    where_goes new old S other (all_cover yss) (all_cover xss) (λ c s of e. all_cover_goes new old S other yss xss (are_alike_other S xss yss a) c s e),
  )

  pub one_alike : (xss yss : List (List Extent)) → AreAlike S xss yss →
      Alike S (extents_where old (is_minimal old (any_contains xss))) (extents_where new (is_minimal new (any_contains yss)))
  one_alike xss yss a = least_alike (any_contains xss) (any_contains yss) (
    where_goes old new S sh (any_contains xss) (any_contains yss) (λ c s of e. any_contains_goes old new S sh xss yss a c s e),
    where_goes new old S other (any_contains yss) (any_contains xss) (λ c s of e. any_contains_goes new old S other yss xss (are_alike_other S xss yss a) c s e),
  )

  pub seq_alike : (xss yss : List (List Extent)) → AreOf old xss → AreOf new yss → AreAlike S xss yss →
      Alike S (extents_where old (is_minimal old (runs_in_order xss))) (extents_where new (is_minimal new (runs_in_order yss)))
  seq_alike xss yss of those a = least_alike (runs_in_order xss) (runs_in_order yss) (
    where_goes old new S sh (runs_in_order xss) (runs_in_order yss) (λ c s in' e. runs_goes old new S sh xss yss a of c s e),
    where_goes new old S other (runs_in_order yss) (runs_in_order xss) (λ c s in' e. runs_goes new old S other yss xss (are_alike_other S xss yss a) those c s e),
  )

  pub covers_alike : (xs ys : List Extent) → Alike S xs ys → (c : Extent) → S c → covers xs c ≡ true → covers ys c ≡ true
  covers_alike xs ys a c s e = covers_goes old new S sh xs ys a.0 c s e
