-- The vocabulary of words rises, and has the token of each word.
use Rattle.std.proofs.Common.{nat_cmp, Ordering, ◌≡◌, ◌⊎◌, ℕ, true, ◌&&◌, filter, map, List, [], ◌∷◌, ◌++◌, bytes_eq, inl, inr, refl, sym, ap, ◌∙◌, subst}
use Rattle.std.proofs.lemmas.Bool.{and_parts, and_from}
use Rattle.std.proofs.lemmas.Slice.Eq.{bytes_eq-Decides}
use Rattle.std.proofs.lemmas.Map.Lookups.{exact_bytes}
use Rattle.std.specs.declared.cmp.Ordering.TheVariants.{Less, Equal, Greater}
use Rattle.std.specs.Ordering.{match_ordering}
use Rattle.std.specs.Cmp.Lexicographic.{slice_cmp}
use Rattle.gcl_model.proofs.Lists.{all_weaker}
use Rattle.gcl_model.specs.Texts.{Word}
use Rattle.gcl_model.specs.Wide.{begins_with}
use Rattle.wide_terms.specs.Vocabulary.{ComesBefore, RiseInBytes, with_token, in_byte_order, vocabulary, matching_words}
use Rattle.wide_terms.specs.Laws.{AreMatching}
use Rattle.wide_terms.proofs.Tokens.{Has, any_tells, any_from, each_from, of_each, filter_has, has_filter, has_tells, has_from, has_left, has_right, has_parts, has_map, map_has, before_trans, greater_before, rising_unique, rising_filter}

has_with : (t : List ℕ) (xs : List (List ℕ)) → Has (with_token t xs) t
has_with t [] = inl refl
has_with t (x ∷ xs) = here (slice_cmp nat_cmp t x) refl (has_with t xs)
  where
    here : (o : Ordering) → slice_cmp nat_cmp t x ≡ o → Has (with_token t xs) t → Has (match_ordering o (t ∷ x ∷ xs) (x ∷ xs) (x ∷ with_token t xs)) t
    here Less is rest = inl refl
    here Equal is rest = inl (sym (exact_bytes t x is))
    here Greater is rest = inr rest

with_has : (t : List ℕ) (xs : List (List ℕ)) (u : List ℕ) → Has xs u → Has (with_token t xs) u
with_has t [] u m = absurd m
with_has t (x ∷ xs) u m = here (slice_cmp nat_cmp t x) m (with_has t xs u)
  where
    here : (o : Ordering) → Has (x ∷ xs) u → (Has xs u → Has (with_token t xs) u) → Has (match_ordering o (t ∷ x ∷ xs) (x ∷ xs) (x ∷ with_token t xs)) u
    here Less m rest = inr m
    here Equal m rest = m
    here Greater (inl e) rest = inl e
    here Greater (inr m) rest = inr (rest m)

with_tells : (t : List ℕ) (xs : List (List ℕ)) (u : List ℕ) → Has (with_token t xs) u → (t ≡ u) ⊎ Has xs u
with_tells t [] u (inl e) = inl e
with_tells t [] u (inr m) = absurd m
with_tells t (x ∷ xs) u m = here (slice_cmp nat_cmp t x) m (with_tells t xs u)
  where
    here : (o : Ordering) → Has (match_ordering o (t ∷ x ∷ xs) (x ∷ xs) (x ∷ with_token t xs)) u → (Has (with_token t xs) u → (t ≡ u) ⊎ Has xs u) → (t ≡ u) ⊎ Has (x ∷ xs) u
    here Less m rest = m
    here Equal m rest = inr m
    here Greater (inl e) rest = inr (inl e)
    here Greater (inr m) rest = elim (rest m) [ inl e ↦ inl e | inr n ↦ inr (inr n) ]

rising_with : (t : List ℕ) (xs : List (List ℕ)) → RiseInBytes xs → RiseInBytes (with_token t xs)
rising_with t [] r = (tt, tt)
rising_with t (x ∷ xs) r = here (slice_cmp nat_cmp t x) refl (rising_with t xs r.1)
  where
    here : (o : Ordering) → slice_cmp nat_cmp t x ≡ o → RiseInBytes (with_token t xs) → RiseInBytes (match_ordering o (t ∷ x ∷ xs) (x ∷ xs) (x ∷ with_token t xs))
    here Less is rest = ((is, all_weaker (ComesBefore x) (ComesBefore t) (λ y after. before_trans t x y is after) xs r.0), r)
    here Equal is rest = r
    here Greater is rest =
        (each_from (ComesBefore x) (with_token t xs) (λ y m. elim (with_tells t xs y m) [ inl e ↦ subst (ComesBefore x) e (greater_before t x is) | inr n ↦ of_each (ComesBefore x) xs y r.0 n ]), rest)

pub order_rises : (tokens : List (List ℕ)) → RiseInBytes (in_byte_order tokens)
order_rises [] = tt
order_rises (t ∷ ts) = rising_with t (in_byte_order ts) (order_rises ts)

pub order_has : (tokens : List (List ℕ)) (t : List ℕ) → Has tokens t → Has (in_byte_order tokens) t
order_has [] t m = absurd m
order_has (u ∷ us) t (inl e) = subst (Has (in_byte_order (u ∷ us))) e (has_with u (in_byte_order us))
order_has (u ∷ us) t (inr m) = with_has u (in_byte_order us) t (order_has us t m)

pub has_order : (tokens : List (List ℕ)) (t : List ℕ) → Has (in_byte_order tokens) t → Has tokens t
has_order [] t m = m
has_order (u ∷ us) t m = elim (with_tells u (in_byte_order us) t m) [ inl e ↦ inl e | inr n ↦ inr (has_order us t n) ]

-- rising tokens of the same members as others are those in byte order
pub order_is : (tokens rising : List (List ℕ)) → RiseInBytes rising → ((t : List ℕ) → Has tokens t → Has rising t) → ((t : List ℕ) → Has rising t → Has tokens t) → in_byte_order tokens ≡ rising
order_is tokens rising rises on back =
    rising_unique (in_byte_order tokens) rising (order_rises tokens) rises (λ t m. on t (has_order tokens t m)) (λ t m. order_has tokens t (back t m))

pub vocabulary_has : (words : List Word) (w : Word) → Has words w → Has (vocabulary words) w.token
vocabulary_has words w m = order_has (map (λ (v : Word). v.token) words) w.token (has_map (λ (v : Word). v.token) words w m)

pub has_vocabulary : (words : List Word) (t : List ℕ) → Has (vocabulary words) t → (w : Word) × Has words w × (w.token ≡ t)
has_vocabulary words t m = map_has (λ (v : Word). v.token) words t (has_order (map (λ (v : Word). v.token) words) t m)

pub matching_rise : (words : List Word) (prefix : List ℕ) → RiseInBytes (matching_words words prefix)
matching_rise words prefix = rising_filter (begins_with prefix) (vocabulary words) (order_rises (map (λ (w : Word). w.token) words))

-- the token of a word that begins with the prefix is one of the matching words
pub matching_has : (words : List Word) (prefix : List ℕ) (w : Word) → Has words w → begins_with prefix w.token ≡ true → Has (matching_words words prefix) w.token
matching_has words prefix w m begins = filter_has (begins_with prefix) (vocabulary words) w.token (vocabulary_has words w m) begins

-- and each of these is a word's, and begins with it
pub has_matching : (words : List Word) (prefix t : List ℕ) → Has (matching_words words prefix) t → ((w : Word) × Has words w × (w.token ≡ t)) × (begins_with prefix t ≡ true)
has_matching words prefix t m = let r = has_filter (begins_with prefix) (vocabulary words) t m in (has_vocabulary words t r.0, r.1)

pub matching_exact : (words : List Word) (prefix : List ℕ) → AreMatching words prefix (matching_words words prefix)
matching_exact words prefix = record {
  rising = matching_rise words prefix;
  exact = λ t. (
    (λ e.
        let r = has_matching words prefix t (has_from (matching_words words prefix) t e) in
        any_from (λ (w : Word). bytes_eq w.token t && begins_with prefix t) words r.0.0 r.0.1 (and_from (bytes_eq r.0.0.token t) (begins_with prefix t) ((bytes_eq-Decides r.0.0.token t).1 r.0.2) r.1)),
    (λ e.
        let r = any_tells (λ (w : Word). bytes_eq w.token t && begins_with prefix t) words e in
        let p = and_parts (bytes_eq r.0.token t) (begins_with prefix t) r.2 in
        let same : r.0.token ≡ t = (bytes_eq-Decides r.0.token t).0 p.0 in
        has_tells (matching_words words prefix) t (subst (Has (matching_words words prefix)) same (matching_has words prefix r.0 r.1 (ap (begins_with prefix) same ∙ p.1)))),
  );
}

-- rising tokens that are exactly these words are the matching ones
pub matching_unique : (words : List Word) (prefix : List ℕ) (tokens : List (List ℕ)) → RiseInBytes tokens →
    ((t : List ℕ) → Has tokens t → ((w : Word) × Has words w × (w.token ≡ t)) × (begins_with prefix t ≡ true)) →
    ((w : Word) → Has words w → begins_with prefix w.token ≡ true → Has tokens w.token) → tokens ≡ matching_words words prefix
matching_unique words prefix tokens rising only all =
    rising_unique tokens (matching_words words prefix) rising (matching_rise words prefix)
    (λ t m. let r = only t m in subst (Has (matching_words words prefix)) r.0.2 (matching_has words prefix r.0.0 r.0.1 (ap (begins_with prefix) r.0.2 ∙ r.1)))
    (λ t m. let r = has_matching words prefix t m in subst (Has tokens) r.0.2 (all r.0.0 r.0.1 (ap (begins_with prefix) r.0.2 ∙ r.1)))

-- the matching words of two stretches are those of both, in byte order
pub matching-append : (xs ys : List Word) (prefix : List ℕ) → matching_words (xs ++ ys) prefix ≡ in_byte_order (matching_words xs prefix ++ matching_words ys prefix)
matching-append xs ys prefix =
    sym (order_is (matching_words xs prefix ++ matching_words ys prefix) (matching_words (xs ++ ys) prefix) (matching_rise (xs ++ ys) prefix)
    (λ t m. elim (has_parts (matching_words xs prefix) (matching_words ys prefix) t m) [
      | inl n ↦ let r = has_matching xs prefix t n in on r.0.0 t (has_left xs ys r.0.0 r.0.1) r.0.2 r.1
      | inr n ↦ let r = has_matching ys prefix t n in on r.0.0 t (has_right xs ys r.0.0 r.0.1) r.0.2 r.1
    ])
    (λ t m.
    let r = has_matching (xs ++ ys) prefix t m in
    elim (has_parts xs ys r.0.0 r.0.1) [
      | inl n ↦ has_left (matching_words xs prefix) (matching_words ys prefix) t (part xs r.0.0 t n r.0.2 r.1)
      | inr n ↦ has_right (matching_words xs prefix) (matching_words ys prefix) t (part ys r.0.0 t n r.0.2 r.1)
    ]))
  where
    part : (words : List Word) (w : Word) (t : List ℕ) → Has words w → w.token ≡ t → begins_with prefix t ≡ true → Has (matching_words words prefix) t
    part words w t m same begins = subst (Has (matching_words words prefix)) same (matching_has words prefix w m (ap (begins_with prefix) same ∙ begins))

    on : (w : Word) (t : List ℕ) → Has (xs ++ ys) w → w.token ≡ t → begins_with prefix t ≡ true → Has (matching_words (xs ++ ys) prefix) t
    on w t m same begins = part (xs ++ ys) w t m same begins

-- two rising lists, of which the lesser head comes first
pub order_rising : (xs : List (List ℕ)) → RiseInBytes xs → in_byte_order xs ≡ xs
order_rising xs r = order_is xs xs r (λ t m. m) (λ t m. m)

module _ (x y : List ℕ) (xs ys : List (List ℕ)) (rx : RiseInBytes (x ∷ xs)) (ry : RiseInBytes (y ∷ ys)) where
  pub order_less : ComesBefore x y → in_byte_order ((x ∷ xs) ++ (y ∷ ys)) ≡ x ∷ in_byte_order (xs ++ (y ∷ ys))
  order_less less =
      order_is ((x ∷ xs) ++ (y ∷ ys)) (x ∷ in_byte_order (xs ++ (y ∷ ys))) (each_from (ComesBefore x) (in_byte_order (xs ++ (y ∷ ys))) after, order_rises (xs ++ (y ∷ ys)))
      (λ t m. elim m [ inl e ↦ inl e | inr n ↦ inr (order_has (xs ++ (y ∷ ys)) t n) ])
      (λ t m. elim m [ inl e ↦ inl e | inr n ↦ inr (has_order (xs ++ (y ∷ ys)) t n) ])
    where
      after : (t : List ℕ) → Has (in_byte_order (xs ++ (y ∷ ys))) t → ComesBefore x t
      after t m = elim (has_parts xs (y ∷ ys) t (has_order (xs ++ (y ∷ ys)) t m)) [
        | inl n ↦ of_each (ComesBefore x) xs t rx.0 n
        | inr n ↦ elim n [ inl e ↦ subst (ComesBefore x) e less | inr o ↦ before_trans x y t less (of_each (ComesBefore y) ys t ry.0 o) ]
      ]

  pub order_equal : x ≡ y → in_byte_order ((x ∷ xs) ++ (y ∷ ys)) ≡ x ∷ in_byte_order (xs ++ ys)
  order_equal same =
      order_is ((x ∷ xs) ++ (y ∷ ys)) (x ∷ in_byte_order (xs ++ ys)) (each_from (ComesBefore x) (in_byte_order (xs ++ ys)) after, order_rises (xs ++ ys))
      (λ t m. elim m [
        | inl e ↦ inl e
        | inr n ↦ elim (has_parts xs (y ∷ ys) t n) [
          | inl o ↦ inr (order_has (xs ++ ys) t (has_left xs ys t o))
          | inr o ↦ elim o [ inl e ↦ inl (same ∙ e) | inr p ↦ inr (order_has (xs ++ ys) t (has_right xs ys t p)) ]
        ]
      ])
      (λ t m. elim m [
        | inl e ↦ inl e
        | inr n ↦ inr (elim (has_parts xs ys t (has_order (xs ++ ys) t n)) [ inl o ↦ has_left xs (y ∷ ys) t o | inr o ↦ has_right xs (y ∷ ys) t (inr o) ])
      ])
    where
      after : (t : List ℕ) → Has (in_byte_order (xs ++ ys)) t → ComesBefore x t
      after t m = elim (has_parts xs ys t (has_order (xs ++ ys) t m)) [
        | inl n ↦ of_each (ComesBefore x) xs t rx.0 n
        | inr n ↦ subst (λ z. ComesBefore z t) (sym same) (of_each (ComesBefore y) ys t ry.0 n)
      ]

  pub order_greater : ComesBefore y x → in_byte_order ((x ∷ xs) ++ (y ∷ ys)) ≡ y ∷ in_byte_order ((x ∷ xs) ++ ys)
  order_greater less =
      order_is ((x ∷ xs) ++ (y ∷ ys)) (y ∷ in_byte_order ((x ∷ xs) ++ ys)) (each_from (ComesBefore y) (in_byte_order ((x ∷ xs) ++ ys)) after, order_rises ((x ∷ xs) ++ ys))
      (λ t m. elim (has_parts (x ∷ xs) (y ∷ ys) t m) [
        | inl n ↦ inr (order_has ((x ∷ xs) ++ ys) t (has_left (x ∷ xs) ys t n))
        | inr n ↦ elim n [ inl e ↦ inl e | inr o ↦ inr (order_has ((x ∷ xs) ++ ys) t (has_right (x ∷ xs) ys t o)) ]
      ])
      (λ t m. elim m [
        | inl e ↦ has_right (x ∷ xs) (y ∷ ys) t (inl e)
        | inr n ↦ elim (has_parts (x ∷ xs) ys t (has_order ((x ∷ xs) ++ ys) t n)) [ inl o ↦ has_left (x ∷ xs) (y ∷ ys) t o | inr o ↦ has_right (x ∷ xs) (y ∷ ys) t (inr o) ]
      ])
    where
      after : (t : List ℕ) → Has (in_byte_order ((x ∷ xs) ++ ys)) t → ComesBefore y t
      after t m = elim (has_parts (x ∷ xs) ys t (has_order ((x ∷ xs) ++ ys) t m)) [
        | inl n ↦ elim n [ inl e ↦ subst (ComesBefore y) e less | inr o ↦ before_trans y x t less (of_each (ComesBefore x) xs t rx.0 o) ]
        | inr n ↦ of_each (ComesBefore y) ys t ry.0 n
      ]
