-- What has the words of a window determines the members that touch two addresses, by induction over expressions.
use Rattle.std.proofs.Common.{◌≡◌, ℕ, ◌+◌, ◌-◌, ◌<◌, ◌≤◌, Bool, true, not, ◌&&◌, leb, eqb, List, [], ◌∷◌, length, Option, Some, None, inl, inr, refl, sym, ap, ◌∙◌, subst, arith, min, max, le_refl, filter}
use Rattle.std.proofs.lemmas.Bool.{true≢false, cases_Bool, cases_lt, and_parts, or_cases, leb-true, eqb-true}
use Rattle.gcl_model.specs.Extents.{Extent, extent, all_extents, contains_extent, is_least, is_nested, is_inside, covers, IsAhead, IsRising}
use Rattle.gcl_model.specs.Access.{first_start, last_end}
use Rattle.gcl_model.specs.Texts.{Text, holds}
use Rattle.gcl_model.specs.Forms.{Form, Forms, term, phrase, width, both, one, seq, containing, contained_in, not_containing, not_contained_in, no_forms, more_forms}
use Rattle.gcl_model.specs.Meaning.{any_contains, concordance, denotes, extents_where, holds_in_row, is_minimal, is_phrase, is_term, operands}
use Rattle.gcl_model.proofs.Lists.{all_kept}
use Rattle.gcl_model.proofs.Covers.{Nested, nested_tells, Has, of_each, find_gives, find_last_gives, same_member}
use Rattle.gcl_model.proofs.Minimal.{filter_has, has_filter}
use Rattle.gcl_model.proofs.Meanings.{IsOf, AreOf, contains_tells, each_of_text, concordance_rises}
use Rattle.gcl_locality.specs.Changed.{touches}
use Rattle.gcl_locality.specs.Windows.{IsPart, start_or, end_or, start_before, end_behind, has_width, reach_from, all_reach_from, reach_upto, all_reach_upto, told_from, all_told_from, told_upto, all_told_upto, window_from, window_upto}
use Rattle.gcl_locality.proofs.Alike.{any_tells, any_from, Goes, Alike, AreAlike, AreShared, where_alike, both_alike, one_alike, seq_alike, kept_alike, dropped_alike}
use Rattle.gcl_locality.proofs.Locality.{phrase_alike, width_alike, cover_on, cover_back, inner_shared}

-- of two members of a rising list the one that ends first starts first
starts_first : (list : List Extent) → IsRising list → (a b : Extent) → Has list a → Has list b → a.end < b.end → a.start < b.start
starts_first list r a b m n lt =
    elim (cases_lt a.start b.start) [
      | inl is ↦ is
      | inr ge ↦ let e = ap (λ (y : Extent). y.end) (same_member list r b a n m ge (omega arith)) in absurd (omega arith)
    ]

-- and the one that starts first ends first
ends_first : (list : List Extent) → IsRising list → (a b : Extent) → Has list a → Has list b → a.start < b.start → a.end < b.end
ends_first list r a b m n lt =
    elim (cases_lt a.end b.end) [
      | inl is ↦ is
      | inr ge ↦ let e = ap (λ (y : Extent). y.start) (same_member list r a b m n (omega arith) ge) in absurd (omega arith)
    ]

-- what reaches x starts at the window's start or later, in a list that has the member before x too
reach_start : (text : Text) (x : ℕ) (xs ys : List Extent) → IsRising ys → ((d : Extent) → Has ys d → text.first ≤ d.start) →
    ((m : Extent) → Has xs m → m.end < x → start_before text xs x ≤ m.start → Has ys m) →
    (d : Extent) → Has ys d → x ≤ d.end → start_before text xs x ≤ d.start
reach_start text x xs ys r above has d n ge = here (last_end xs (x - 1)) refl
  where
    here : (o : Option Extent) → last_end xs (x - 1) ≡ o → min x (start_or text.first o) ≤ d.start
    here None is = let a : text.first ≤ d.start = above d n in omega arith
    here (Some m) is =
        elim (cases_lt 0 x) [
          | inl some ↦
              let g = find_last_gives (λ a. leb a.end (x - 1)) xs m is in
              let e : m.end ≤ x - 1 = leb-true m.end (x - 1) g.1 in
              let s : m.start < d.start = starts_first ys r m d (has m g.0 (omega arith) (rw is (omega arith))) n (omega arith) in
              omega arith
          | inr none ↦ omega arith
        ]

-- what starts by y ends at the window's end or before, in a list that has the member behind y too
reach_end : (text : Text) (y : ℕ) (xs ys : List Extent) → IsRising ys → ((d : Extent) → Has ys d → d.end < text.next) →
    ((m : Extent) → Has xs m → y < m.start → m.end ≤ end_behind text xs y → Has ys m) →
    (d : Extent) → Has ys d → d.start ≤ y → d.end ≤ end_behind text xs y
reach_end text y xs ys r below has d n le = here (first_start xs (y + 1)) refl
  where
    here : (o : Option Extent) → first_start xs (y + 1) ≡ o → d.end ≤ max y (end_or text.next o)
    here None is = let b : d.end < text.next = below d n in omega arith
    here (Some m) is =
        let g = find_gives (λ a. leb (y + 1) a.start) xs m is in
        let s : y + 1 ≤ m.start = leb-true (y + 1) m.start g.1 in
        let e : d.end < m.end = ends_first ys r d m n (has m g.0 (omega arith) (rw is (omega arith))) (omega arith) in
        omega arith

-- c ends at x or later, and starts at y or before
abbrev pub IsNear : ℕ → ℕ → Extent → Type 0
IsNear x y c = (x ≤ c.end) × (c.start ≤ y)

-- c lies from x to y
abbrev pub IsWithin : ℕ → ℕ → Extent → Type 0
IsWithin x y c = Nested c (extent x y)

-- what has a width is one
width_is : (form : Form) → has_width form ≡ true → (n : ℕ) × (form ≡ width n)
width_is (term token) t = absurd (true≢false (sym t))
width_is (phrase tokens) t = absurd (true≢false (sym t))
width_is (width n) t = (n, refl)
width_is (both forms) t = absurd (true≢false (sym t))
width_is (one forms) t = absurd (true≢false (sym t))
width_is (seq forms) t = absurd (true≢false (sym t))
width_is (containing a b) t = absurd (true≢false (sym t))
width_is (contained_in a b) t = absurd (true≢false (sym t))
width_is (not_containing a b) t = absurd (true≢false (sym t))
width_is (not_contained_in a b) t = absurd (true≢false (sym t))

-- the members of the operators whose own members determine how far they reach: two lists have the same there
abbrev mutual
  pub KnowReach : (Extent → Type 0) → Text → Text → Form → Type 0
  KnowReach S text part (term token) = Unit {0}
  KnowReach S text part (phrase tokens) = Unit {0}
  KnowReach S text part (width n) = Alike S (concordance text (width n)) (concordance part (width n))
  KnowReach S text part (both forms) = Alike S (concordance text (both forms)) (concordance part (both forms))
  KnowReach S text part (one forms) = AllKnowReach S text part forms
  KnowReach S text part (seq forms) = Alike S (concordance text (seq forms)) (concordance part (seq forms))
  KnowReach S text part (containing a b) = KnowReach S text part a
  KnowReach S text part (contained_in a b) = KnowReach S text part a × (has_width b ≡ true → KnowReach S text part b)
  KnowReach S text part (not_containing a b) = KnowReach S text part a
  KnowReach S text part (not_contained_in a b) = KnowReach S text part a

  pub AllKnowReach : (Extent → Type 0) → Text → Text → Forms → Type 0
  AllKnowReach S text part no_forms = Unit {0}
  AllKnowReach S text part (more_forms form forms) = KnowReach S text part form × AllKnowReach S text part forms

-- a text knows its own
mutual
  own_reach : (S : Extent → Type 0) (text : Text) (form : Form) → KnowReach S text text form
  own_reach S text (term token) = tt
  own_reach S text (phrase tokens) = tt
  own_reach S text (width n) = (λ c s m. m, λ c s m. m)
  own_reach S text (both forms) = (λ c s m. m, λ c s m. m)
  own_reach S text (one forms) = own_reaches S text forms
  own_reach S text (seq forms) = (λ c s m. m, λ c s m. m)
  own_reach S text (containing a b) = own_reach S text a
  own_reach S text (contained_in a b) = (own_reach S text a, λ t. own_reach S text b)
  own_reach S text (not_containing a b) = own_reach S text a
  own_reach S text (not_contained_in a b) = own_reach S text a

  own_reaches : (S : Extent → Type 0) (text : Text) (forms : Forms) → AllKnowReach S text text forms
  own_reaches S text no_forms = tt
  own_reaches S text (more_forms form forms) = (own_reach S text form, own_reaches S text forms)

-- a reach has the addresses that it is asked for
module _ (text : Text) where
  mutual
    reach_most : (x : ℕ) (form : Form) → reach_from text x form ≤ x
    reach_most x (term token) = le_refl x
    reach_most x (phrase tokens) = omega arith
    reach_most x (width n) = omega arith
    reach_most x (both forms) = omega arith
    reach_most x (one forms) = reaches_most x forms
    reach_most x (seq forms) = omega arith
    reach_most x (containing a b) = reach_most x a
    reach_most x (contained_in a b) = elim (cases_Bool (has_width b)) [ inl t ↦ rw t (reach_most x b) | inr f ↦ rw f (reach_most x a) ]
    reach_most x (not_containing a b) = reach_most x a
    reach_most x (not_contained_in a b) = reach_most x a

    reaches_most : (x : ℕ) (forms : Forms) → all_reach_from text x forms ≤ x
    reaches_most x no_forms = le_refl x
    reaches_most x (more_forms form forms) = let h = reach_most x form in omega arith

  mutual
    reach_least : (y : ℕ) (form : Form) → y ≤ reach_upto text y form
    reach_least y (term token) = le_refl y
    reach_least y (phrase tokens) = omega arith
    reach_least y (width n) = omega arith
    reach_least y (both forms) = omega arith
    reach_least y (one forms) = reaches_least y forms
    reach_least y (seq forms) = omega arith
    reach_least y (containing a b) = reach_least y a
    reach_least y (contained_in a b) = elim (cases_Bool (has_width b)) [ inl t ↦ rw t (reach_least y b) | inr f ↦ rw f (reach_least y a) ]
    reach_least y (not_containing a b) = reach_least y a
    reach_least y (not_contained_in a b) = reach_least y a

    reaches_least : (y : ℕ) (forms : Forms) → y ≤ all_reach_upto text y forms
    reaches_least y no_forms = le_refl y
    reaches_least y (more_forms form forms) = let h = reach_least y form in omega arith

-- what a containment keeps is of its first operand
kept_is : (text : Text) (test keep : Extent → Bool) (c : Extent) → Has (extents_where text (λ c. test c && keep c)) c → Has (extents_where text test) c
kept_is text test keep c m =
    let h = has_filter (λ c. test c && keep c) (all_extents text.first text.next) c m in
    filter_has test (all_extents text.first text.next) c h.0 (and_parts (test c) (keep c) h.1).0

-- a part of a text whose list is like the text's between the addresses that its members reach: no member of the part reaches further
module _ (text part : Text) (first : text.first ≤ part.first) (next : part.next ≤ text.next) (x y : ℕ) (le : x ≤ y + 1) (from upto : ℕ) where
  of_part : (form : Form) (d : Extent) → Has (concordance part form) d → IsOf text d
  of_part form d n =
      let of = of_each (IsOf part) (concordance part form) d (each_of_text part (denotes part form)) n in
      let above : part.first ≤ d.start = of.above in
      let below : d.end < part.next = of.below in
      record { above = omega arith; proper = of.proper; below = omega arith }

  -- an interval that touches the addresses lies between these
  abbrev Reaches : Extent → (start end : ℕ) → Type 0
  Reaches d start end = (x ≤ d.end → start ≤ d.start) × (d.start ≤ y → d.end ≤ end)

  reaches_by : (form : Form) → from ≤ start_before text (concordance text form) x → end_behind text (concordance text form) y ≤ upto →
      Alike (IsWithin from upto) (concordance text form) (concordance part form) → (d : Extent) → Has (concordance part form) d →
      Reaches d (start_before text (concordance text form) x) (end_behind text (concordance text form) y)
  reaches_by form low high told d n = (
    reach_start text x (concordance text form) (concordance part form) (concordance_rises part form) (λ d n. (of_part form d n).above)
        (λ m n lt ge. told.0 m (omega arith, omega arith) n) d n,
    reach_end text y (concordance text form) (concordance part form) (concordance_rises part form) (λ d n. (of_part form d n).below)
        (λ m n lt ge. told.0 m (omega arith, omega arith) n) d n,
  )

  mutual
    reaches : (form : Form) → from ≤ reach_from text x form → reach_upto text y form ≤ upto → KnowReach (IsWithin from upto) text part form →
        (d : Extent) → Has (concordance part form) d → Reaches d (reach_from text x form) (reach_upto text y form)
    reaches (term token) low high told d n =
        let h = has_filter (is_term part token) (all_extents part.first part.next) d n in
        let one : d.start ≡ d.end = eqb-true d.start d.end (and_parts (eqb d.start d.end) (holds part.words token d.start) h.1).0 in
        (λ ge. omega arith, λ ge. omega arith)
    reaches (phrase tokens) low high told d n =
        let h = has_filter (is_phrase part tokens) (all_extents part.first part.next) d n in
        let long : d.end + 1 ≡ d.start + length tokens = eqb-true (d.end + 1) (d.start + length tokens) (and_parts (eqb (d.end + 1) (d.start + length tokens)) (holds_in_row part.words tokens d.start) h.1).0 in
        let of = of_part (phrase tokens) d n in
        let proper : d.start ≤ d.end = of.proper in
        let below : d.end < text.next = of.below in
        (λ ge. omega arith, λ ge. omega arith)
    reaches (width n) low high told d m = reaches_by (width n) low high told d m
    reaches (both forms) low high told d n = reaches_by (both forms) low high told d n
    reaches (one forms) low high told d n =
        let h = has_filter (is_minimal part (any_contains (operands part forms))) (all_extents part.first part.next) d n in
        let some : any_contains (operands part forms) d ≡ true = (and_parts (any_contains (operands part forms) d) (is_least (extents_where part (any_contains (operands part forms))) d) h.1).0 in
        one_reaches forms low high told d some
    reaches (seq forms) low high told d n = reaches_by (seq forms) low high told d n
    reaches (containing a b) low high told d n = reaches a low high told d (kept_is part (denotes part a) (covers (concordance part b)) d n)
    reaches (contained_in a b) low high told d n =
        elim (cases_Bool (has_width b)) [
          | inl t ↦
              let h = has_filter (λ c. denotes part a c && is_inside (concordance part b) c) (all_extents part.first part.next) d n in
              let e = any_tells (λ e. is_nested d e) (concordance part b) (and_parts (denotes part a d) (is_inside (concordance part b) d) h.1).1 in
              let nested = nested_tells d e.0 e.2 in
              let start : e.0.start ≤ d.start = nested.0 in
              let end : d.end ≤ e.0.end = nested.1 in
              let r = reaches b (rw t at low) (rw t at high) (told.1 t) e.0 e.1 in
              rw t (λ ge. let s = r.0 (omega arith) in omega arith, λ ge. let f = r.1 (omega arith) in omega arith)
          | inr f ↦ rw f (reaches a (rw f at low) (rw f at high) told.0 d (kept_is part (denotes part a) (is_inside (concordance part b)) d n))
        ]
    reaches (not_containing a b) low high told d n = reaches a low high told d (kept_is part (denotes part a) (λ c. not (covers (concordance part b) c)) d n)
    reaches (not_contained_in a b) low high told d n = reaches a low high told d (kept_is part (denotes part a) (λ c. not (is_inside (concordance part b) c)) d n)

    one_reaches : (forms : Forms) → from ≤ all_reach_from text x forms → all_reach_upto text y forms ≤ upto → AllKnowReach (IsWithin from upto) text part forms →
        (d : Extent) → any_contains (operands part forms) d ≡ true → Reaches d (all_reach_from text x forms) (all_reach_upto text y forms)
    one_reaches no_forms low high told d some = absurd (true≢false (sym some))
    one_reaches (more_forms form forms) low high told d some =
        elim (or_cases (contains_extent (concordance part form) d) (any_contains (operands part forms) d) some) [
          | inl here ↦
              let r = reaches form (omega arith) (omega arith) told.0 d (contains_tells (concordance part form) d here) in
              (λ ge. let s = r.0 ge in omega arith, λ ge. let e = r.1 ge in omega arith)
          | inr later ↦
              let r = one_reaches forms (omega arith) (omega arith) told.1 d later in
              (λ ge. let s = r.0 ge in omega arith, λ ge. let e = r.1 ge in omega arith)
        ]

-- two lists that agree as far as members reach that touch x and y have the same members near x and y
module _ (text part : Text) (first : text.first ≤ part.first) (next : part.next ≤ text.next) (form : Form) (x y : ℕ) (le : x ≤ y + 1) where
  abbrev from : ℕ
  from = reach_from text x form

  abbrev upto : ℕ
  upto = reach_upto text y form

  in_text : (c : Extent) → Has (concordance text form) c → IsNear x y c → IsWithin from upto c
  in_text c m near =
      let r = reaches text text (le_refl text.first) (le_refl text.next) x y le from upto form (le_refl from) (le_refl upto) (own_reach (IsWithin from upto) text form) c m in
      (r.0 near.0, r.1 near.1)

  module _ (told : Alike (IsWithin from upto) (concordance text form) (concordance part form)) (know : KnowReach (IsWithin from upto) text part form) where
    in_part : (c : Extent) → Has (concordance part form) c → IsNear x y c → IsWithin from upto c
    in_part c m near =
        let r = reaches text part first next x y le from upto form (le_refl from) (le_refl upto) know c m in
        (r.0 near.0, r.1 near.1)

    near_alike : Alike (IsNear x y) (concordance text form) (concordance part form)
    near_alike = (λ c near m. told.0 c (in_text c m near) m, λ c near m. told.1 c (in_part c m near) m)

-- what lies from x to y in a member lies in a member near x and y
inside_goes : (x y : ℕ) (xs ys : List Extent) → Goes (IsNear x y) xs ys → (c : Extent) → IsWithin x y c → c.start ≤ c.end → is_inside xs c ≡ true → is_inside ys c ≡ true
inside_goes x y xs ys go c s le e =
    let r = any_tells (λ b. is_nested c b) xs e in
    let n = nested_tells c r.0 r.2 in
    let from : r.0.start ≤ c.start = n.0 in
    let upto : c.end ≤ r.0.end = n.1 in
    let low : x ≤ c.start = s.0 in
    let high : c.end ≤ y = s.1 in
    any_from (λ b. is_nested c b) ys r.0 (go r.0 (omega arith, omega arith) r.1) r.2

-- a window has the addresses that it is asked for
module _ (text : Text) where
  mutual
    from_le : (x y : ℕ) (form : Form) → told_from text x y form ≤ x
    from_le x y (term token) = le_refl x
    from_le x y (phrase tokens) = le_refl x
    from_le x y (width n) = le_refl x
    from_le x y (both forms) = froms_le x y forms
    from_le x y (one forms) = froms_le x y forms
    from_le x y (seq forms) = froms_le x y forms
    from_le x y (containing a b) = let h = from_le x y a in omega arith
    from_le x y (contained_in a b) = let h = from_le x y a in omega arith
    from_le x y (not_containing a b) = let h = from_le x y a in omega arith
    from_le x y (not_contained_in a b) = let h = from_le x y a in omega arith

    froms_le : (x y : ℕ) (forms : Forms) → all_told_from text x y forms ≤ x
    froms_le x y no_forms = le_refl x
    froms_le x y (more_forms form forms) = let h = from_le x y form in omega arith

  mutual
    upto_ge : (x y : ℕ) (form : Form) → y ≤ told_upto text x y form
    upto_ge x y (term token) = le_refl y
    upto_ge x y (phrase tokens) = le_refl y
    upto_ge x y (width n) = le_refl y
    upto_ge x y (both forms) = uptos_ge x y forms
    upto_ge x y (one forms) = uptos_ge x y forms
    upto_ge x y (seq forms) = uptos_ge x y forms
    upto_ge x y (containing a b) = let h = upto_ge x y a in omega arith
    upto_ge x y (contained_in a b) = let h = upto_ge x y a in omega arith
    upto_ge x y (not_containing a b) = let h = upto_ge x y a in omega arith
    upto_ge x y (not_contained_in a b) = let h = upto_ge x y a in omega arith

    uptos_ge : (x y : ℕ) (forms : Forms) → y ≤ all_told_upto text x y forms
    uptos_ge x y no_forms = le_refl y
    uptos_ge x y (more_forms form forms) = let h = upto_ge x y form in omega arith

-- the lists of the operands lie in the text
all_of : (text : Text) (forms : Forms) → AreOf text (operands text forms)
all_of text no_forms = tt
all_of text (more_forms form forms) = (each_of_text text (denotes text form), all_of text forms)

-- what two texts share, term by term and containment by containment
module _ (text part : Text) (S : Extent → Type 0) (sh : AreShared text part S) where
  term_alike : (token : List ℕ) → Alike S (concordance text (term token)) (concordance part (term token))
  term_alike token = where_alike text part S sh (is_term text token) (is_term part token)
      (λ c s le. ap (λ b. eqb c.start c.end && b) (sh.words c s c.start (le_refl c.start) le token))

  module _ (a b : Form) (first : Alike S (concordance text a) (concordance part a)) (second : Alike S (concordance text b) (concordance part b)) where
    containing_alike : Alike S (concordance text (containing a b)) (concordance part (containing a b))
    containing_alike = kept_alike text part S (denotes text a) (denotes part a) (covers (concordance text b)) (covers (concordance part b)) first
        (cover_on text part S sh (concordance text b) (concordance part b) second) (cover_back text part S sh (concordance text b) (concordance part b) second)

    not_containing_alike : Alike S (concordance text (not_containing a b)) (concordance part (not_containing a b))
    not_containing_alike = dropped_alike text part S (denotes text a) (denotes part a) (covers (concordance text b)) (covers (concordance part b)) first
        (cover_on text part S sh (concordance text b) (concordance part b) second) (cover_back text part S sh (concordance text b) (concordance part b) second)

-- a part of a text
module _ (text part : Text) (lo hi : ℕ) (is : IsPart part text lo hi) where
  told_shared : (x y : ℕ) → lo ≤ x → y ≤ hi → AreShared text part (IsWithin x y)
  told_shared x y ge le = inner_shared text part x y (λ p low high. is.same p (omega arith) (omega arith))

  each_shared : (forms : Forms) (x y : ℕ) → lo ≤ all_told_from text x y forms → all_told_upto text x y forms ≤ hi → AreShared text part (IsWithin x y)
  each_shared forms x y ge le = let l = froms_le text x y forms in let h = uptos_ge text x y forms in told_shared x y (omega arith) (omega arith)

  one_shared : (form : Form) (x y : ℕ) → lo ≤ told_from text x y form → told_upto text x y form ≤ hi → AreShared text part (IsWithin x y)
  one_shared form x y ge le = let l = from_le text x y form in let h = upto_ge text x y form in told_shared x y (omega arith) (omega arith)

  -- both lists have the same members from x to y, and as far as is needed to know how far members reach
  abbrev Told : Form → (x y : ℕ) → Type 0
  Told form x y = Alike (IsWithin x y) (concordance text form) (concordance part form) × KnowReach (IsWithin x y) text part form

  -- what `<` and `/<` ask of their second operand
  module _ (b : Form) (x y : ℕ) (second : Told b (reach_from text x b) (reach_upto text y b)) where
    near : x ≤ y + 1 → Alike (IsNear x y) (concordance text b) (concordance part b)
    near le = near_alike text part is.first is.next b x y le second.0 second.1

    inside_on : (c : Extent) → IsWithin x y c → c.start ≤ c.end → is_inside (concordance text b) c ≡ true → is_inside (concordance part b) c ≡ true
    inside_on c s le e = inside_goes x y (concordance text b) (concordance part b) (near (let u = s.0 in let v = s.1 in omega arith)).0 c s le e

    inside_back : (c : Extent) → IsWithin x y c → c.start ≤ c.end → is_inside (concordance part b) c ≡ true → is_inside (concordance text b) c ≡ true
    inside_back c s le e = inside_goes x y (concordance part b) (concordance text b) (near (let u = s.0 in let v = s.1 in omega arith)).1 c s le e

    module _ (a : Form) (first : Alike (IsWithin x y) (concordance text a) (concordance part a)) where
      contained_alike : Alike (IsWithin x y) (concordance text (contained_in a b)) (concordance part (contained_in a b))
      contained_alike =
          kept_alike text part (IsWithin x y) (denotes text a) (denotes part a) (is_inside (concordance text b)) (is_inside (concordance part b)) first inside_on inside_back

      not_contained_alike : Alike (IsWithin x y) (concordance text (not_contained_in a b)) (concordance part (not_contained_in a b))
      not_contained_alike =
          dropped_alike text part (IsWithin x y) (denotes text a) (denotes part a) (is_inside (concordance text b)) (is_inside (concordance part b)) first inside_on inside_back

  -- the same of the operands of "one of", "both of" or "followed by"
  abbrev ToldEach : Forms → (x y : ℕ) → Type 0
  ToldEach forms x y = AreAlike (IsWithin x y) (operands text forms) (operands part forms) × AllKnowReach (IsWithin x y) text part forms

  -- a part that has the words which determine the members from x to y has these members
  mutual
    pub told : (form : Form) (x y : ℕ) → lo ≤ told_from text x y form → told_upto text x y form ≤ hi → Told form x y
    told (term token) x y ge le = (term_alike text part (IsWithin x y) (told_shared x y ge le) token, tt)
    told (phrase tokens) x y ge le = (phrase_alike text part (IsWithin x y) (told_shared x y ge le) tokens, tt)
    told (width n) x y ge le = let same = width_alike text part (IsWithin x y) (told_shared x y ge le) n in (same, same)
    told (both forms) x y ge le =
        let each = told_each forms x y ge le in
        let same = both_alike text part (IsWithin x y) (each_shared forms x y ge le) (operands text forms) (operands part forms) each.0 in
        (same, same)
    told (one forms) x y ge le =
        let each = told_each forms x y ge le in
        (one_alike text part (IsWithin x y) (each_shared forms x y ge le) (operands text forms) (operands part forms) each.0, each.1)
    told (seq forms) x y ge le =
        let each = told_each forms x y ge le in
        let same = seq_alike text part (IsWithin x y) (each_shared forms x y ge le) (operands text forms) (operands part forms) (all_of text forms) (all_of part forms) each.0 in
        (same, same)
    told (containing a b) x y ge le =
        let first = told a x y (omega arith) (omega arith) in
        (containing_alike text part (IsWithin x y) (one_shared a x y (omega arith) (omega arith)) a b first.0 (told b x y (omega arith) (omega arith)).0, first.1)
    told (contained_in a b) x y ge le =
        let first = told a x y (omega arith) (omega arith) in (
          contained_alike b x y (told b (reach_from text x b) (reach_upto text y b) (omega arith) (omega arith)) a first.0,
          (
            first.1,
            λ t.
                let is = width_is b t in
                subst (λ form. KnowReach (IsWithin x y) text part form) (sym is.1) (width_alike text part (IsWithin x y) (one_shared a x y (omega arith) (omega arith)) is.0),
          ),
        )
    told (not_containing a b) x y ge le =
        let first = told a x y (omega arith) (omega arith) in
        (not_containing_alike text part (IsWithin x y) (one_shared a x y (omega arith) (omega arith)) a b first.0 (told b x y (omega arith) (omega arith)).0, first.1)
    told (not_contained_in a b) x y ge le =
        let first = told a x y (omega arith) (omega arith) in
        (not_contained_alike b x y (told b (reach_from text x b) (reach_upto text y b) (omega arith) (omega arith)) a first.0, first.1)

    told_each : (forms : Forms) (x y : ℕ) → lo ≤ all_told_from text x y forms → all_told_upto text x y forms ≤ hi → ToldEach forms x y
    told_each no_forms x y ge le = (tt, tt)
    told_each (more_forms form forms) x y ge le =
        let here = told form x y (omega arith) (omega arith) in
        let later = told_each forms x y (omega arith) (omega arith) in
        ((here.0, later.0), (here.1, later.1))

-- what passes a test still rises
filter_rises : (test : Extent → Bool) (list : List Extent) → IsRising list → IsRising (filter test list)
filter_rises test [] r = tt
filter_rises test (x ∷ xs) r =
    elim (cases_Bool (test x)) [ inl h ↦ rw h (all_kept (IsAhead x) test xs r.0, filter_rises test xs r.1) | inr h ↦ rw h (filter_rises test xs r.1) ]

-- the first members of two rising lists, each of which the other list has
same_head : (x y : Extent) (xs ys : List Extent) → IsRising (x ∷ xs) → IsRising (y ∷ ys) → Has (y ∷ ys) x → Has (x ∷ xs) y → x ≡ y
same_head x y xs ys r s (inl is) n = sym is
same_head x y xs ys r s (inr m) (inl is) = is
same_head x y xs ys r s (inr m) (inr n) =
    let before : y.start < x.start = (of_each (IsAhead y) ys x s.0 m).0 in
    let behind : x.start < y.start = (of_each (IsAhead x) xs y r.0 n).0 in
    absurd (omega arith)

-- a member behind the first one is not the first one of the other list
tail_goes : (x y : Extent) (xs ys : List Extent) → IsRising (x ∷ xs) → x ≡ y → ((c : Extent) → Has (x ∷ xs) c → Has (y ∷ ys) c) → (c : Extent) → Has xs c → Has ys c
tail_goes x y xs ys r is go c m =
    elim (go c (inr m)) [
      | inl same ↦
          let behind : x.start < c.start = (of_each (IsAhead x) xs c r.0 m).0 in
          let e = ap (λ (z : Extent). z.start) (is ∙ same) in
          absurd (omega arith)
      | inr n ↦ n
    ]

-- two rising lists that have the same members are one
pub same_rising : (xs ys : List Extent) → IsRising xs → IsRising ys → ((c : Extent) → Has xs c → Has ys c) → ((c : Extent) → Has ys c → Has xs c) → xs ≡ ys
same_rising [] [] r s on back = refl
same_rising [] (y ∷ ys) r s on back = absurd (back y (inl refl))
same_rising (x ∷ xs) [] r s on back = absurd (on x (inl refl))
same_rising (x ∷ xs) (y ∷ ys) r s on back =
    let is : x ≡ y = same_head x y xs ys r s (on x (inl refl)) (back y (inl refl)) in
    let rest : xs ≡ ys = same_rising xs ys r.1 s.1 (tail_goes x y xs ys r is on) (tail_goes y x ys xs s (sym is) back) in
    ap (λ z. z ∷ xs) is ∙ ap (λ l. y ∷ l) rest

-- what touches two addresses is near them
kept_goes : (low high : ℕ) (xs ys : List Extent) → Goes (IsNear low high) xs ys → (c : Extent) → Has (filter (touches low high) xs) c → Has (filter (touches low high) ys) c
kept_goes low high xs ys go c m =
    let h = has_filter (touches low high) xs c m in
    let parts = and_parts (leb low c.end) (leb c.start high) h.1 in
    filter_has (touches low high) ys c (go c (leb-true low c.end parts.0, leb-true c.start high parts.1) h.0) h.1

pub told_near : (text part : Text) (form : Form) (low high : ℕ) → low ≤ high + 1 → IsPart part text (window_from text low high form) (window_upto text low high form) →
    filter (touches low high) (concordance part form) ≡ filter (touches low high) (concordance text form)
told_near text part form low high le is =
    let both = told text part (window_from text low high form) (window_upto text low high form) is form (reach_from text low form) (reach_upto text high form) (le_refl _) (le_refl _) in
    let near = near_alike text part is.first is.next form low high le both.0 both.1 in
    same_rising (filter (touches low high) (concordance part form)) (filter (touches low high) (concordance text form))
    (filter_rises (touches low high) (concordance part form) (concordance_rises part form)) (filter_rises (touches low high) (concordance text form) (concordance_rises text form))
    (kept_goes low high (concordance part form) (concordance text form) near.1) (kept_goes low high (concordance text form) (concordance part form) near.0)
