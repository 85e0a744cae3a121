-- The laws of locality, by induction over expressions.
use Rattle.std.proofs.Common.{◌≡◌, ◌⊎◌, ℕ, ◌+◌, ◌<◌, ◌≤◌, Bool, true, false, not, ◌&&◌, ◌||◌, leb, ltb, eqb, List, [], ◌∷◌, length, inl, inr, refl, sym, ap, ◌∙◌, subst, arith, min, max, bytes_eq, le_refl}
use Rattle.std.proofs.lemmas.Bool.{true≢false, cases_lt, and_parts, and_from, and_cases, or_parts, leb-true, le-leb, ltb-true, lt-ltb, leb-false, eqb-true}
use Rattle.std.proofs.lemmas.Slice.Eq.{bytes_eq-Decides}
use Rattle.gcl_model.specs.Extents.{Extent, extent, is_nested, contains_extent, covers, is_inside, IsRising}
use Rattle.gcl_model.specs.Texts.{Text, Word, holds}
use Rattle.gcl_model.specs.Forms.{Form, Forms, term, phrase, width, both, one, seq, containing, contained_in, not_containing, not_contained_in, no_forms, more_forms}
use Rattle.gcl_model.specs.Meaning.{holds_in_row, is_phrase, is_width}
use Rattle.gcl_model.specs.Wide.{stands_for_word, holds_wide, is_wide_term, denotes_wide, wide_operands, wide}
use Rattle.gcl_model.proofs.Covers.{Nested, nested_tells, Has}
use Rattle.gcl_model.proofs.Minimal.{same_truth}
use Rattle.gcl_model.proofs.Meanings.{IsOf, AreOf, each_of_text, concordance_rises, contains_tells}
use Rattle.wide_terms.specs.Expansion.{expansion}
use Rattle.wide_terms.proofs.Tokens as T
use Rattle.wide_terms.proofs.Spreading.{expansion_is_wide}
use Rattle.gcl_locality.specs.Agreement.{AgreeAt, AgreeWithin, AgreeOutside}
use Rattle.gcl_locality.specs.Changed.{changed_from, least_changed, changed_upto, greatest_changed, back_to, on_to, touches, looks_around, some_look_around}
use Rattle.gcl_locality.specs.Laws.{DifferBetween, SameAround}
use Rattle.gcl_locality.proofs.Alike.{any_tells, any_from, contains_from, Goes, Alike, AreAlike, alike_less, alike_other, contains_same, AreShared, shared_other, where_alike, both_alike, one_alike, seq_alike, kept_alike, dropped_alike, covers_alike}
use Rattle.gcl_locality.proofs.Bounds.{back_to_most, on_to_least, back_to_start, on_to_end}

-- the wide list of an expression rises
pub wide_rises : (text : Text) (form : Form) → IsRising (wide text form)
wide_rises text form = subst IsRising (expansion_is_wide text form) (concordance_rises text (expansion text form))

-- the lists of the operands lie in the text
wide_of : (text : Text) (forms : Forms) → AreOf text (wide_operands text forms)
wide_of text no_forms = tt
wide_of text (more_forms form forms) = (each_of_text text (denotes_wide text form), wide_of text forms)

-- texts that are the same at an address

agree_other : (old new : Text) (p : ℕ) → AgreeAt old new p → AgreeAt new old p
agree_other old new p a = record { address = sym a.address; words = λ token. sym (a.words token) }

address_on : (old new : Text) (p : ℕ) → AgreeAt old new p → old.first ≤ p → p < old.next → (new.first ≤ p) × (p < new.next)
address_on old new p a ge lt =
    let here = and_parts (leb new.first p) (ltb p new.next) (sym a.address ∙ and_from (leb old.first p) (ltb p old.next) (le-leb old.first p ge) (lt-ltb p old.next lt)) in
    (leb-true new.first p here.0, ltb-true p new.next here.1)

of_on : (old new : Text) (c : Extent) → AgreeAt old new c.start → AgreeAt old new c.end → IsOf old c → IsOf new c
of_on old new c start end of =
    let ge = of.above in
    let le = of.proper in
    let lt = of.below in
    record {
      above = (address_on old new c.start start ge (omega arith)).0;
      proper = le;
      below = (address_on old new c.end end (omega arith) lt).1;
    }

pub shared_from : (old new : Text) (S : Extent → Type 0) → ((a c : Extent) → Nested a c → S c → S a) →
    ((c : Extent) → S c → (p : ℕ) → c.start ≤ p → p ≤ c.end → AgreeAt old new p) → AreShared old new S
shared_from old new S within agree = record {
  within = within;
  on = λ c s of. let le = of.proper in of_on old new c (agree c s c.start (le_refl c.start) le) (agree c s c.end le (le_refl c.end)) of;
  back = λ c s of. let le = of.proper in
      of_on new old c (agree_other old new c.start (agree c s c.start (le_refl c.start) le)) (agree_other old new c.end (agree c s c.end le (le_refl c.end))) of;
  words = λ c s p ge le token. (agree c s p ge le).words token;
}

-- if each token is at an address in both texts or in neither, so is each word that a term stands for
wide_goes : (words others : List Word) (token : List ℕ) (p : ℕ) → ((t : List ℕ) → holds words t p ≡ true → holds others t p ≡ true) →
    holds_wide words token p ≡ true → holds_wide others token p ≡ true
wide_goes words others token p each e =
    let wide_at : Word → Bool = λ w. eqb w.address p && stands_for_word token w.token in
    let s = T.any_tells wide_at words e in
    let parts = and_parts (eqb s.0.address p) (stands_for_word token s.0.token) s.2 in
    let at : Word → Bool = λ w. eqb w.address p && bytes_eq w.token s.0.token in
    let there = each s.0.token (T.any_from at words s.0 s.1 (and_from (eqb s.0.address p) (bytes_eq s.0.token s.0.token) parts.0 ((bytes_eq-Decides s.0.token s.0.token).1 refl))) in
    let r = T.any_tells at others there in
    let met = and_parts (eqb r.0.address p) (bytes_eq r.0.token s.0.token) r.2 in
    let same : r.0.token ≡ s.0.token = (bytes_eq-Decides r.0.token s.0.token).0 met.1 in
    T.any_from wide_at others r.0 r.1 (and_from (eqb r.0.address p) (stands_for_word token r.0.token) met.0 (subst (λ t. stands_for_word token t ≡ true) (sym same) parts.1))

wide_same : (words others : List Word) (token : List ℕ) (p : ℕ) → ((t : List ℕ) → holds words t p ≡ holds others t p) → holds_wide words token p ≡ holds_wide others token p
wide_same words others token p same =
    same_truth (holds_wide words token p) (holds_wide others token p)
    (wide_goes words others token p (λ t e. sym (same t) ∙ e))
    (wide_goes others words token p (λ t e. same t ∙ e))

row_same : (words others : List Word) (tokens : List (List ℕ)) (p : ℕ) → ((i : ℕ) → p ≤ i → i < p + length tokens → (t : List ℕ) → holds words t i ≡ holds others t i) →
    holds_in_row words tokens p ≡ holds_in_row others tokens p
row_same words others [] p same = refl
row_same words others (token ∷ tokens) p same =
    ap (λ b. b && holds_in_row words tokens (p + 1)) (same p (omega arith) (omega arith) token)
    ∙ ap (λ b. holds others token p && b) (row_same words others tokens (p + 1) (λ i ge lt t. same i (omega arith) (omega arith) t))

phrase_same : (old new : Text) (tokens : List (List ℕ)) (c : Extent) → ((i : ℕ) → c.start ≤ i → i ≤ c.end → (t : List ℕ) → holds old.words t i ≡ holds new.words t i) →
    is_phrase old tokens c ≡ is_phrase new tokens c
phrase_same old new tokens c same = here (eqb (c.end + 1) (c.start + length tokens)) refl
  where
    here : (b : Bool) → eqb (c.end + 1) (c.start + length tokens) ≡ b → (b && holds_in_row old.words tokens c.start) ≡ (b && holds_in_row new.words tokens c.start)
    here true is =
        let long : c.end + 1 ≡ c.start + length tokens = eqb-true (c.end + 1) (c.start + length tokens) is in
        row_same old.words new.words tokens c.start (λ i ge lt t. same i ge (omega arith) t)
    here false is = refl

-- the leaves of an expression
module _ (old new : Text) (S : Extent → Type 0) (sh : AreShared old new S) where
  term_alike : (token : List ℕ) → Alike S (wide old (term token)) (wide new (term token))
  term_alike token = where_alike old new S sh (is_wide_term old token) (is_wide_term new token)
      (λ c s le. ap (λ b. eqb c.start c.end && b) (wide_same old.words new.words token c.start (sh.words c s c.start (le_refl c.start) le)))

  pub phrase_alike : (tokens : List (List ℕ)) → Alike S (wide old (phrase tokens)) (wide new (phrase tokens))
  phrase_alike tokens = where_alike old new S sh (is_phrase old tokens) (is_phrase new tokens) (λ c s le. phrase_same old new tokens c (sh.words c s))

  pub width_alike : (n : ℕ) → Alike S (wide old (width n)) (wide new (width n))
  width_alike n = where_alike old new S sh (is_width n) (is_width n) (λ c s le. refl)

  -- what two lists that agree there cover
  pub cover_on : (xs ys : List Extent) → Alike S xs ys → (c : Extent) → S c → c.start ≤ c.end → covers xs c ≡ true → covers ys c ≡ true
  cover_on xs ys a c s le e = covers_alike old new S sh xs ys a c s e

  pub cover_back : (xs ys : List Extent) → Alike S xs ys → (c : Extent) → S c → c.start ≤ c.end → covers ys c ≡ true → covers xs c ≡ true
  cover_back xs ys a c s le e = covers_alike new old S (shared_other old new S sh) ys xs (alike_other S xs ys a) c s e

  containing_alike : (a b : Form) → Alike S (wide old a) (wide new a) → Alike S (wide old b) (wide new b) → Alike S (wide old (containing a b)) (wide new (containing a b))
  containing_alike a b first second =
      kept_alike old new S (denotes_wide old a) (denotes_wide new a) (covers (wide old b)) (covers (wide new b)) first (cover_on (wide old b) (wide new b) second) (cover_back (wide old b) (wide new b) second)

  not_containing_alike : (a b : Form) → Alike S (wide old a) (wide new a) → Alike S (wide old b) (wide new b) → Alike S (wide old (not_containing a b)) (wide new (not_containing a b))
  not_containing_alike a b first second =
      dropped_alike old new S (denotes_wide old a) (denotes_wide new a) (covers (wide old b)) (covers (wide new b)) first (cover_on (wide old b) (wide new b) second) (cover_back (wide old b) (wide new b) second)

  -- an expression without `<` and `/<`
  mutual
    pub still_alike : (form : Form) → looks_around form ≡ false → Alike S (wide old form) (wide new form)
    still_alike (term token) e = term_alike token
    still_alike (phrase tokens) e = phrase_alike tokens
    still_alike (width n) e = width_alike n
    still_alike (both forms) e = both_alike old new S sh (wide_operands old forms) (wide_operands new forms) (still_each forms e)
    still_alike (one forms) e = one_alike old new S sh (wide_operands old forms) (wide_operands new forms) (still_each forms e)
    still_alike (seq forms) e = seq_alike old new S sh (wide_operands old forms) (wide_operands new forms) (wide_of old forms) (wide_of new forms) (still_each forms e)
    still_alike (containing a b) e = let parts = or_parts (looks_around a) (looks_around b) e in containing_alike a b (still_alike a parts.0) (still_alike b parts.1)
    still_alike (contained_in a b) e = absurd (true≢false e)
    still_alike (not_containing a b) e = let parts = or_parts (looks_around a) (looks_around b) e in not_containing_alike a b (still_alike a parts.0) (still_alike b parts.1)
    still_alike (not_contained_in a b) e = absurd (true≢false e)

    still_each : (forms : Forms) → some_look_around forms ≡ false → AreAlike S (wide_operands old forms) (wide_operands new forms)
    still_each no_forms e = tt
    still_each (more_forms form forms) e = let parts = or_parts (looks_around form) (some_look_around forms) e in (still_alike form parts.0, still_each forms parts.1)

-- the intervals that lie from p to q
module _ (old new : Text) (p q : ℕ) (agree : AgreeWithin old new p q) where
  pub inner_shared : AreShared old new (λ c. Nested c (extent p q))
  inner_shared =
      shared_from old new (λ c. Nested c (extent p q))
      (λ a c n s. let x = n.0 in let y = n.1 in let u = s.0 in let v = s.1 in (omega arith, omega arith))
      (λ c s i ge le. let u = s.0 in let v = s.1 in agree i (omega arith) (omega arith))

  pub member_local : (form : Form) → looks_around form ≡ false → contains_extent (wide old form) (extent p q) ≡ contains_extent (wide new form) (extent p q)
  member_local form plain =
      contains_same (λ c. Nested c (extent p q)) (wide old form) (wide new form)
      (still_alike old new (λ c. Nested c (extent p q)) inner_shared form plain) (extent p q) (le_refl p, le_refl q)

  is_this : Extent → Type 0
  is_this c = c ≡ extent p q

  this_alike : (a : Form) → looks_around a ≡ false → Alike (λ c. c ≡ extent p q) (wide old a) (wide new a)
  this_alike a plain =
      alike_less (λ c. Nested c (extent p q)) (λ c. c ≡ extent p q) (λ c is. subst (λ d. Nested d (extent p q)) (sym is) (le_refl p, le_refl q))
      (wide old a) (wide new a) (still_alike old new (λ c. Nested c (extent p q)) inner_shared a plain)

  inside_this : (xs ys : List Extent) → ((b : Extent) → b.start ≤ p → q ≤ b.end → contains_extent xs b ≡ contains_extent ys b) → (c : Extent) → c ≡ extent p q → is_inside xs c ≡ true → is_inside ys c ≡ true
  inside_this xs ys same c is e =
      let r = any_tells (λ b. is_nested c b) xs e in
      let n = nested_tells c r.0 r.2 in
      let starts : c.start ≡ p = ap (λ (y : Extent). y.start) is in
      let ends : c.end ≡ q = ap (λ (y : Extent). y.end) is in
      let from : r.0.start ≤ c.start = n.0 in
      let upto : c.end ≤ r.0.end = n.1 in
      any_from (λ b. is_nested c b) ys r.0 (contains_tells ys r.0 (sym (same r.0 (omega arith) (omega arith)) ∙ contains_from xs r.0 r.1)) r.2

  pub inside_local : (a b : Form) → looks_around a ≡ false → SameAround (wide old b) (wide new b) p q →
      contains_extent (wide old (contained_in a b)) (extent p q) ≡ contains_extent (wide new (contained_in a b)) (extent p q)
  inside_local a b plain same =
      contains_same (λ c. c ≡ extent p q) (wide old (contained_in a b)) (wide new (contained_in a b))
      (kept_alike old new (λ c. c ≡ extent p q) (denotes_wide old a) (denotes_wide new a) (is_inside (wide old b)) (is_inside (wide new b)) (this_alike a plain)
      (λ c is le e. inside_this (wide old b) (wide new b) same c is e)
      (λ c is le e. inside_this (wide new b) (wide old b) (λ d ge le. sym (same d ge le)) c is e))
      (extent p q) refl

  pub not_inside_local : (a b : Form) → looks_around a ≡ false → SameAround (wide old b) (wide new b) p q →
      contains_extent (wide old (not_contained_in a b)) (extent p q) ≡ contains_extent (wide new (not_contained_in a b)) (extent p q)
  not_inside_local a b plain same =
      contains_same (λ c. c ≡ extent p q) (wide old (not_contained_in a b)) (wide new (not_contained_in a b))
      (dropped_alike old new (λ c. c ≡ extent p q) (denotes_wide old a) (denotes_wide new a) (is_inside (wide old b)) (is_inside (wide new b)) (this_alike a plain)
      (λ c is le e. inside_this (wide old b) (wide new b) same c is e)
      (λ c is le e. inside_this (wide new b) (wide old b) (λ d ge le. sym (same d ge le)) c is e))
      (extent p q) refl

-- c ends before `low` or starts after `high`
abbrev pub IsAway : ℕ → ℕ → Extent → Type 0
IsAway low high c = (c.end < low) ⊎ (high < c.start)

pub away_less : (low high l h : ℕ) → l ≤ low → high ≤ h → (c : Extent) → IsAway l h c → IsAway low high c
away_less low high l h le ge c (inl e) = inl (omega arith)
away_less low high l h le ge c (inr e) = inr (omega arith)

alike_away : (low high l h : ℕ) → l ≤ low → high ≤ h → (xs ys : List Extent) → Alike (IsAway low high) xs ys → Alike (IsAway l h) xs ys
alike_away low high l h le ge xs ys = alike_less (IsAway low high) (IsAway l h) (away_less low high l h le ge) xs ys

away_within : (low high : ℕ) (a c : Extent) → Nested a c → IsAway low high c → IsAway low high a
away_within low high a c n (inl e) = let y = n.1 in inl (omega arith)
away_within low high a c n (inr e) = let x = n.0 in inr (omega arith)

-- an interval that is away from what the members of the second operand reach lies in a member of one list if it lies in one of the other
inside_goes : (low high l h : ℕ) (xs ys : List Extent) → Goes (IsAway low high) xs ys → ((b : Extent) → Has xs b → low ≤ b.end → l ≤ b.start) → ((b : Extent) → Has xs b → b.start ≤ high → b.end ≤ h) →
    (c : Extent) → IsAway l h c → c.start ≤ c.end → is_inside xs c ≡ true → is_inside ys c ≡ true
inside_goes low high l h xs ys go back on c s le e =
    let r = any_tells (λ b. is_nested c b) xs e in
    let n = nested_tells c r.0 r.2 in
    let from : r.0.start ≤ c.start = n.0 in
    let upto : c.end ≤ r.0.end = n.1 in
    any_from (λ b. is_nested c b) ys r.0 (go r.0 (away s r.0 r.1 from upto) r.1) r.2
  where
    away : IsAway l h c → (b : Extent) → Has xs b → b.start ≤ c.start → c.end ≤ b.end → IsAway low high b
    away (inl lt) b m from upto = elim (cases_lt b.end low) [ inl before ↦ inl before | inr ge ↦ let h = back b m ge in absurd (omega arith) ]
    away (inr gt) b m from upto = elim (cases_lt high b.start) [ inl after ↦ inr after | inr ge ↦ let h = on b m ge in absurd (omega arith) ]

back_twice : (p : ℕ) (xs ys : List Extent) (k from : ℕ) → p ≤ from → back_to (back_to p xs k) ys k ≤ from
back_twice p xs ys k from le = let x = back_to_most p xs k in let y = back_to_most (back_to p xs k) ys k in omega arith

on_twice : (p : ℕ) (xs ys : List Extent) (k upto : ℕ) → upto ≤ p → upto ≤ on_to (on_to p xs k) ys k
on_twice p xs ys k upto le = let x = on_to_least p xs k in let y = on_to_least (on_to p xs k) ys k in omega arith

-- two texts that are the same outside a range
module _ (old new : Text) (from upto : ℕ) (agree : AgreeOutside old new from upto) where
  away_shared : (low high : ℕ) → low ≤ from → upto ≤ high → AreShared old new (IsAway low high)
  away_shared low high le ge = shared_from old new (IsAway low high) (away_within low high) (λ c s i from' upto'. agree i (out c s i from' upto'))
    where
      out : (c : Extent) → IsAway low high c → (i : ℕ) → c.start ≤ i → i ≤ c.end → (i < from) ⊎ (upto < i)
      out c (inl e) i from' upto' = inl (omega arith)
      out c (inr e) i from' upto' = inr (omega arith)

  mutual
    pub low_le : (form : Form) → changed_from old new from form ≤ from
    low_le (term token) = le_refl from
    low_le (phrase tokens) = le_refl from
    low_le (width n) = le_refl from
    low_le (both forms) = lows_le forms
    low_le (one forms) = lows_le forms
    low_le (seq forms) = lows_le forms
    low_le (containing a b) = let h = low_le a in omega arith
    low_le (contained_in a b) = back_twice (changed_from old new from a) (wide old b) (wide new b) (changed_from old new from b) from (low_le a)
    low_le (not_containing a b) = let h = low_le a in omega arith
    low_le (not_contained_in a b) = back_twice (changed_from old new from a) (wide old b) (wide new b) (changed_from old new from b) from (low_le a)

    lows_le : (forms : Forms) → least_changed old new from forms ≤ from
    lows_le no_forms = le_refl from
    lows_le (more_forms form forms) = let h = low_le form in omega arith

  mutual
    pub high_ge : (form : Form) → upto ≤ changed_upto old new upto form
    high_ge (term token) = le_refl upto
    high_ge (phrase tokens) = le_refl upto
    high_ge (width n) = le_refl upto
    high_ge (both forms) = highs_ge forms
    high_ge (one forms) = highs_ge forms
    high_ge (seq forms) = highs_ge forms
    high_ge (containing a b) = let h = high_ge a in omega arith
    high_ge (contained_in a b) = on_twice (changed_upto old new upto a) (wide old b) (wide new b) (changed_upto old new upto b) upto (high_ge a)
    high_ge (not_containing a b) = let h = high_ge a in omega arith
    high_ge (not_contained_in a b) = on_twice (changed_upto old new upto a) (wide old b) (wide new b) (changed_upto old new upto b) upto (high_ge a)

    highs_ge : (forms : Forms) → upto ≤ greatest_changed old new upto forms
    highs_ge no_forms = le_refl upto
    highs_ge (more_forms form forms) = let h = high_ge form in omega arith

  abbrev low : Form → ℕ
  low form = changed_from old new from form

  abbrev high : Form → ℕ
  high form = changed_upto old new upto form

  -- what the addresses of `<` and `/<` are to those of its operands
  module _ (a b : Form) where
    abbrev l : ℕ
    l = back_to (back_to (low a) (wide old b) (low b)) (wide new b) (low b)

    abbrev h : ℕ
    h = on_to (on_to (high a) (wide old b) (high b)) (wide new b) (high b)

    l_first : l ≤ low a
    l_first =
        let x = back_to_most (low a) (wide old b) (low b) in
        let y = back_to_most (back_to (low a) (wide old b) (low b)) (wide new b) (low b) in
        omega arith

    h_first : high a ≤ h
    h_first =
        let x = on_to_least (high a) (wide old b) (high b) in
        let y = on_to_least (on_to (high a) (wide old b) (high b)) (wide new b) (high b) in
        omega arith

    l_old : (c : Extent) → Has (wide old b) c → low b ≤ c.end → l ≤ c.start
    l_old c m ge =
        let x = back_to_start (low a) (wide old b) (wide_rises old b) (low b) c m ge in
        let y = back_to_most (back_to (low a) (wide old b) (low b)) (wide new b) (low b) in
        omega arith

    l_new : (c : Extent) → Has (wide new b) c → low b ≤ c.end → l ≤ c.start
    l_new c m ge = back_to_start (back_to (low a) (wide old b) (low b)) (wide new b) (wide_rises new b) (low b) c m ge

    h_old : (c : Extent) → Has (wide old b) c → c.start ≤ high b → c.end ≤ h
    h_old c m le =
        let x = on_to_end (high a) (wide old b) (wide_rises old b) (high b) c m le in
        let y = on_to_least (on_to (high a) (wide old b) (high b)) (wide new b) (high b) in
        omega arith

    h_new : (c : Extent) → Has (wide new b) c → c.start ≤ high b → c.end ≤ h
    h_new c m le = on_to_end (on_to (high a) (wide old b) (high b)) (wide new b) (wide_rises new b) (high b) c m le

    module _ (second : Alike (IsAway (low b) (high b)) (wide old b) (wide new b)) where
      inside_on : (c : Extent) → IsAway l h c → c.start ≤ c.end → is_inside (wide old b) c ≡ true → is_inside (wide new b) c ≡ true
      inside_on = inside_goes (low b) (high b) l h (wide old b) (wide new b) second.0 l_old h_old

      inside_back : (c : Extent) → IsAway l h c → c.start ≤ c.end → is_inside (wide new b) c ≡ true → is_inside (wide old b) c ≡ true
      inside_back = inside_goes (low b) (high b) l h (wide new b) (wide old b) second.1 l_new h_new

      module _ (first : Alike (IsAway (low a) (high a)) (wide old a) (wide new a)) where
        contained_alike : Alike (IsAway l h) (wide old (contained_in a b)) (wide new (contained_in a b))
        contained_alike =
            kept_alike old new (IsAway l h) (denotes_wide old a) (denotes_wide new a) (is_inside (wide old b)) (is_inside (wide new b))
            (alike_away (low a) (high a) l h l_first h_first (wide old a) (wide new a) first) inside_on inside_back

        not_contained_alike : Alike (IsAway l h) (wide old (not_contained_in a b)) (wide new (not_contained_in a b))
        not_contained_alike =
            dropped_alike old new (IsAway l h) (denotes_wide old a) (denotes_wide new a) (is_inside (wide old b)) (is_inside (wide new b))
            (alike_away (low a) (high a) l h l_first h_first (wide old a) (wide new a) first) inside_on inside_back

  pair_less : (a b : Form) (form : Form) → Alike (IsAway (low form) (high form)) (wide old form) (wide new form) → min (low a) (low b) ≤ low form → high form ≤ max (high a) (high b) →
      Alike (IsAway (min (low a) (low b)) (max (high a) (high b))) (wide old form) (wide new form)
  pair_less a b form is le ge = alike_away (low form) (high form) (min (low a) (low b)) (max (high a) (high b)) le ge (wide old form) (wide new form) is

  mutual
    pub away_alike : (form : Form) → Alike (IsAway (low form) (high form)) (wide old form) (wide new form)
    away_alike (term token) = term_alike old new (IsAway from upto) (away_shared from upto (le_refl from) (le_refl upto)) token
    away_alike (phrase tokens) = phrase_alike old new (IsAway from upto) (away_shared from upto (le_refl from) (le_refl upto)) tokens
    away_alike (width n) = width_alike old new (IsAway from upto) (away_shared from upto (le_refl from) (le_refl upto)) n
    away_alike (both forms) =
        both_alike old new (IsAway (low (both forms)) (high (both forms))) (away_shared (low (both forms)) (high (both forms)) (lows_le forms) (highs_ge forms)) (wide_operands old forms) (wide_operands new forms)
        (away_each (low (both forms)) (high (both forms)) forms (le_refl (low (both forms))) (le_refl (high (both forms))))
    away_alike (one forms) =
        one_alike old new (IsAway (low (one forms)) (high (one forms))) (away_shared (low (one forms)) (high (one forms)) (lows_le forms) (highs_ge forms)) (wide_operands old forms) (wide_operands new forms)
        (away_each (low (one forms)) (high (one forms)) forms (le_refl (low (one forms))) (le_refl (high (one forms))))
    away_alike (seq forms) =
        seq_alike old new (IsAway (low (seq forms)) (high (seq forms))) (away_shared (low (seq forms)) (high (seq forms)) (lows_le forms) (highs_ge forms)) (wide_operands old forms) (wide_operands new forms)
        (wide_of old forms) (wide_of new forms) (away_each (low (seq forms)) (high (seq forms)) forms (le_refl (low (seq forms))) (le_refl (high (seq forms))))
    away_alike (containing a b) =
        let l' = low_le a in let h' = high_ge a in
        containing_alike old new (IsAway (min (low a) (low b)) (max (high a) (high b))) (away_shared (min (low a) (low b)) (max (high a) (high b)) (omega arith) (omega arith)) a b
        (pair_less a b a (away_alike a) (omega arith) (omega arith)) (pair_less a b b (away_alike b) (omega arith) (omega arith))
    away_alike (contained_in a b) = contained_alike a b (away_alike b) (away_alike a)
    away_alike (not_containing a b) =
        let l' = low_le a in let h' = high_ge a in
        not_containing_alike old new (IsAway (min (low a) (low b)) (max (high a) (high b))) (away_shared (min (low a) (low b)) (max (high a) (high b)) (omega arith) (omega arith)) a b
        (pair_less a b a (away_alike a) (omega arith) (omega arith)) (pair_less a b b (away_alike b) (omega arith) (omega arith))
    away_alike (not_contained_in a b) = not_contained_alike a b (away_alike b) (away_alike a)

    away_each : (l h : ℕ) (forms : Forms) → l ≤ least_changed old new from forms → greatest_changed old new upto forms ≤ h → AreAlike (IsAway l h) (wide_operands old forms) (wide_operands new forms)
    away_each l h no_forms le ge = tt
    away_each l h (more_forms form forms) le ge = (
      alike_away (low form) (high form) l h (omega arith) (omega arith) (wide old form) (wide new form) (away_alike form),
      away_each l h forms (omega arith) (omega arith),
    )

  pub changes_local : (form : Form) → DifferBetween (wide old form) (wide new form) (low form) (high form)
  changes_local form c e = here (touches (low form) (high form) c) refl
    where
      no_difference : (x y : Bool) → x ≡ y → ((x && not y) || (y && not x)) ≡ true → ⊥
      no_difference true true is e = true≢false (sym e)
      no_difference true false is e = true≢false is
      no_difference false true is e = true≢false (sym is)
      no_difference false false is e = true≢false (sym e)

      away : touches (low form) (high form) c ≡ false → IsAway (low form) (high form) c
      away f = elim (and_cases (leb (low form) c.end) (leb c.start (high form)) f) [
        | inl g ↦ inl (leb-false (low form) c.end g)
        | inr g ↦ inr (leb-false c.start (high form) g)
      ]

      here : (b : Bool) → touches (low form) (high form) c ≡ b → touches (low form) (high form) c ≡ true
      here true is = is
      here false is =
          absurd (no_difference (contains_extent (wide old form) c) (contains_extent (wide new form) c)
          (contains_same (IsAway (low form) (high form)) (wide old form) (wide new form) (away_alike form) c (away is)) e)
