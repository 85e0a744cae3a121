-- The bytes of places, and those between them, cut again.
use Rattle.std.proofs.Common.{◌≡◌, ℕ, zero, suc, ◌+◌, ◌-◌, ◌<◌, ◌≤◌, true, false, cond, eqb, ◌&&◌, List, [], ◌∷◌, ◌++◌, length, take, drop, map, filter, refl, sym, ap, ◌∙◌, subst, arith, length-append, length-drop}
use Rattle.std.proofs.lemmas.Bool.{eq-eqb, ne_eqb}
use Rattle.std.proofs.lemmas.List.{map-append, drop-drop, append_assoc, append-nil, take_at, drop_at}
use Rattle.std.specs.List.{AllByRecursion}
use Rattle.gcl_model.specs.Tokens.{Part, first_part, tokens_of, is_word_byte}
use Rattle.gcl_model.proofs.Lists.{all_append, all_weaker}
use Rattle.gcl_model.proofs.Parts.{first_part_size}
use Rattle.token_places.specs.Places.{Place, Placed, stretch, placed_at, placed_of_parts, placed_tokens, places_of}
use Rattle.token_places.specs.Laws.{bytes_at, same_place, tokens_at, PlacesGiveTheirTokens, NothingBetween, NothingElse}
use Rattle.token_places.proofs.WholeParts.{AreOther, tokens_of-whole, no_tokens, separator}

abbrev place_of : Placed → Place
place_of placed = placed.place

-- the place of a part's tokens, and the tokens of the places behind it
record IsRightAt (bytes : List ℕ) (at : ℕ) (placed : List Placed) (p : Place) : Type 0 where
  from : at ≤ p.from
  gives : tokens_of (bytes_at bytes p) ≡ tokens_at p placed

begins_elsewhere : (at to : ℕ) (p : Place) → at < p.from → same_place (stretch at to) p ≡ false
begins_elsewhere at to p lt = ap (λ s. s && eqb to p.to) (ne_eqb at p.from (λ e. absurd (omega (arith, e))))

-- none of a part's tokens comes from another place
none_at : (at to : ℕ) (tokens : List (List ℕ)) (p : Place) (more : List Placed) → same_place (stretch at to) p ≡ false → tokens_at p (placed_at (stretch at to) tokens ++ more) ≡ tokens_at p more
none_at at to [] p more other = refl
none_at at to (token ∷ tokens) p more other =
    ap (λ s. map (λ (t : Placed). t.token) (cond s (record { place = stretch at to; token = token } ∷ filter (λ t. same_place t.place p) (placed_at (stretch at to) tokens ++ more)) (filter (λ t. same_place t.place p) (placed_at (stretch at to) tokens ++ more)))) other
    ∙ none_at at to tokens p more other

all_at : (at to : ℕ) (tokens : List (List ℕ)) (more : List Placed) → tokens_at (stretch at to) (placed_at (stretch at to) tokens ++ more) ≡ tokens ++ tokens_at (stretch at to) more
all_at at to [] more = refl
all_at at to (token ∷ tokens) more =
    let same : same_place (stretch at to) (stretch at to) ≡ true = ap (λ s. s && eqb to to) (eq-eqb at at refl) ∙ eq-eqb to to refl in
    ap (λ s. map (λ (t : Placed). t.token) (cond s (record { place = stretch at to; token = token } ∷ filter (λ t. same_place t.place (stretch at to)) (placed_at (stretch at to) tokens ++ more)) (filter (λ t. same_place t.place (stretch at to)) (placed_at (stretch at to) tokens ++ more)))) same
    ∙ ap (λ others. token ∷ others) (all_at at to tokens more)

-- nothing comes from a place that begins before all places
none_behind : (bytes : List ℕ) (at from to : ℕ) (placed more : List Placed) → from < to → AllByRecursion (IsRightAt bytes to placed) (map place_of more) → tokens_at (stretch from at) more ≡ []
none_behind bytes at from to placed [] lt right = refl
none_behind bytes at from to placed (m ∷ more) lt right =
    let behind : to ≤ m.place.from = right.0.from in
    let other : same_place m.place (stretch from at) ≡ false = ap (λ s. s && eqb m.place.to at) (ne_eqb m.place.from from (λ e. absurd (omega (arith, e)))) in
    ap (λ s. map (λ (t : Placed). t.token) (cond s (m ∷ filter (λ t. same_place t.place (stretch from at)) more) (filter (λ t. same_place t.place (stretch from at)) more))) other
    ∙ none_behind bytes at from to placed more lt right.1

-- the tokens of each part come from its place
all_here : (P : Place → Type 0) (at to : ℕ) (tokens : List (List ℕ)) → (0 < length tokens → P (stretch at to)) → AllByRecursion P (map place_of (placed_at (stretch at to) tokens))
all_here P at to [] h = tt
all_here P at to (token ∷ tokens) h = (h (omega arith), all_here P at to tokens (λ _. h (omega arith)))

right_from : (bytes : List ℕ) (k at : ℕ) (rest : List ℕ) → drop at bytes ≡ rest → AllByRecursion (IsRightAt bytes at (placed_of_parts k at rest)) (map place_of (placed_of_parts k at rest))
right_from bytes zero at rest is = tt
right_from bytes (suc k) at [] is = tt
right_from bytes (suc k) at (b ∷ rest) is =
    let part : Part = first_part b rest in
    let to : ℕ = at + part.size in
    let some : 1 ≤ part.size = first_part_size b rest in
    let here : List Placed = placed_at (stretch at to) part.tokens in
    let more : List Placed = placed_of_parts k to (drop part.size (b ∷ rest)) in
    let right : AllByRecursion (IsRightAt bytes to more) (map place_of more) =
    right_from bytes k to (drop part.size (b ∷ rest)) (sym (drop-drop part.size at bytes) ∙ ap (drop part.size) is) in
    subst (AllByRecursion (IsRightAt bytes at (here ++ more))) (sym (map-append place_of here more))
    (all_append (IsRightAt bytes at (here ++ more)) (map place_of here) (map place_of more)
    (all_here (IsRightAt bytes at (here ++ more)) at to part.tokens (λ given. record {
      from = omega arith;
      gives =
          let size : to - at ≡ part.size = omega arith in
          ap (λ n. tokens_of (take n (drop at bytes))) size ∙ ap (λ xs. tokens_of (take part.size xs)) is ∙ tokens_of-whole (b ∷ rest) (omega arith) given
          ∙ sym (all_at at to part.tokens more ∙ ap (λ others. part.tokens ++ others) (none_behind bytes to at to more more (omega arith) right) ∙ append-nil part.tokens);
    }))
    (all_weaker (IsRightAt bytes to more) (IsRightAt bytes at (here ++ more))
    (λ p h. record {
      from = omega (arith, h.from);
      gives = h.gives ∙ sym (none_at at to part.tokens p more (begins_elsewhere at to p (omega (arith, h.from))));
    })
    (map place_of more) right))

pub places_give_their_tokens : PlacesGiveTheirTokens
places_give_their_tokens bytes =
    all_weaker (IsRightAt bytes 0 (placed_tokens bytes)) (λ p. tokens_of (bytes_at bytes p) ≡ tokens_at p (placed_tokens bytes)) (λ p h. h.gives) (places_of bytes) (right_from bytes (length bytes) 0 bytes refl)

others_push : (bytes : List ℕ) (b : ℕ) → AreOther bytes → is_word_byte b ≡ false → AreOther (bytes ++ b ∷ [])
others_push bytes b h e = all_append (λ b. is_word_byte b ≡ false) bytes (b ∷ []) h (e, tt)

-- behind a place only other bytes come, up to the next one
nothing_from : (bytes : List ℕ) (k gap at : ℕ) (between rest : List ℕ) → drop gap bytes ≡ between ++ rest → at ≡ gap + length between → AreOther between → length rest ≤ k
    → NothingBetween bytes gap (map place_of (placed_of_parts k at rest))
nothing_from bytes zero gap at between [] is e others le = ap tokens_of (is ∙ append-nil between) ∙ no_tokens between others
nothing_from bytes zero gap at between (b ∷ rest) is e others le = absurd (omega arith)
nothing_from bytes (suc k) gap at between [] is e others le = ap tokens_of (is ∙ append-nil between) ∙ no_tokens between others
nothing_from bytes (suc k) gap at between (b ∷ rest) is e others le =
    let part : Part = first_part b rest in
    let some : 1 ≤ part.size = first_part_size b rest in
    let shorter : length (drop part.size (b ∷ rest)) ≤ k = omega (arith, length-drop part.size (b ∷ rest)) in
    by_tokens part.tokens refl
    (λ none.
    let sep = separator b rest none in
    let moved : (between ++ b ∷ []) ++ drop 1 (b ∷ rest) ≡ between ++ (b ∷ rest) = append_assoc between (b ∷ []) rest in
    let one : part.size ≡ 1 = sep.one in
    subst (λ (n : ℕ). NothingBetween bytes gap (map place_of (placed_of_parts k (at + n) (drop n (b ∷ rest))))) (sym one)
    (nothing_from bytes k gap (at + 1) (between ++ b ∷ []) rest (is ∙ sym moved) (omega (arith, length-append between (b ∷ []))) (others_push between b others sep.other) (omega arith)))
    (nothing_from bytes k (at + part.size) (at + part.size) [] (drop part.size (b ∷ rest)) (from_rest part.size) (omega arith) tt shorter)
  where
    from_rest : (n : ℕ) → drop (at + n) bytes ≡ drop n (b ∷ rest)
    from_rest n =
        let here : drop at bytes ≡ b ∷ rest = ap (λ m. drop m bytes) e ∙ sym (drop-drop (length between) gap bytes) ∙ ap (drop (length between)) is ∙ drop_at between (b ∷ rest) (length between) refl in
        sym (drop-drop n at bytes) ∙ ap (drop n) here

    same_again : (to : ℕ) (tokens : List (List ℕ)) (more : List Placed) → at ≤ to → NothingBetween bytes to (map place_of more) → NothingBetween bytes to (map place_of (placed_at (stretch at to) tokens ++ more))
    same_again to [] more le h = h
    same_again to (token ∷ tokens) more le h = let none : at - to ≡ 0 = omega arith in (ap (λ n. tokens_of (take n (drop to bytes))) none, same_again to tokens more le h)

    by_tokens : (tokens : List (List ℕ)) → (first_part b rest).tokens ≡ tokens
        → (length (first_part b rest).tokens ≡ 0 → NothingBetween bytes gap (map place_of (placed_of_parts k (at + (first_part b rest).size) (drop (first_part b rest).size (b ∷ rest)))))
        → NothingBetween bytes (at + (first_part b rest).size) (map place_of (placed_of_parts k (at + (first_part b rest).size) (drop (first_part b rest).size (b ∷ rest))))
        → NothingBetween bytes gap (map place_of (placed_at (stretch at (at + (first_part b rest).size)) tokens ++ placed_of_parts k (at + (first_part b rest).size) (drop (first_part b rest).size (b ∷ rest))))
    by_tokens [] f first behind = first (ap length f)
    by_tokens (token ∷ tokens) f first behind =
        let n : at - gap ≡ length between = omega arith in (
          ap (λ m. tokens_of (take m (drop gap bytes))) n ∙ ap (λ xs. tokens_of (take (length between) xs)) is ∙ ap tokens_of (take_at between (b ∷ rest) (length between) refl) ∙ no_tokens between others,
          same_again (at + (first_part b rest).size) tokens (placed_of_parts k (at + (first_part b rest).size) (drop (first_part b rest).size (b ∷ rest))) (omega arith) behind,
        )

pub nothing_else : NothingElse
nothing_else bytes = nothing_from bytes (length bytes) 0 0 [] bytes refl (omega arith) tt (omega arith)
