-- Two rising lists are merged.
use Rattle.std.proofs.Common.{nat_cmp, ◌≡◌, ◌⊎◌, inl, inr, ℕ, zero, suc, ◌+◌, ◌-◌, ◌<◌, ◌≤◌, map, List, [], ◌∷◌, ◌++◌, length, take, drop, get_or, refl, sym, ap, ◌∙◌, subst, arith}
use Rattle.std.specs.Cmp.Lexicographic.{slice_cmp}
use Rattle.std.specs.declared.cmp.Ordering.TheVariants.{Less, Equal, Greater}
use Rattle.std.proofs.lemmas.List.{append_assoc, append-nil, drop_all, drop_more, take_all, length-drop, map-append}
use Rattle.std.proofs.lemmas.Map.Lookups.{exact_bytes}
use denote.Ref.{Bor}
use Rattle.wide_terms.specs.Vocabulary.{RiseInBytes, in_byte_order}
use Rattle.wide_terms.proofs.Tokens.{greater_before}
use Rattle.wide_terms.proofs.Vocabularies.{order_rising, order_less, order_equal, order_greater}
use Rattle.prefix_terms.specs.Runs.{tokens_in}

rises_drop : (n : ℕ) (xs : List (List ℕ)) → RiseInBytes xs → RiseInBytes (drop n xs)
rises_drop zero xs r = r
rises_drop (suc n) [] r = tt
rises_drop (suc n) (x ∷ xs) r = rises_drop n xs r.1

tokens-drop : (n : ℕ) (xs : List (Bor (List ℕ))) → tokens_in (drop n xs) ≡ drop n (tokens_in xs)
tokens-drop zero xs = refl
tokens-drop (suc n) [] = refl
tokens-drop (suc n) (x ∷ xs) = tokens-drop n xs

-- what comes of what is left of both
abbrev pub left_of : List (Bor (List ℕ)) → List (Bor (List ℕ)) → ℕ → ℕ → List (List ℕ)
left_of first second i j = in_byte_order (tokens_in (drop i first) ++ tokens_in (drop j second))

module _ (out first second : List (Bor (List ℕ))) (i j : ℕ) (d e : Bor (List ℕ)) (lt_i : i < length first) (lt_j : j < length second)
    (rise_first : RiseInBytes (tokens_in first)) (rise_second : RiseInBytes (tokens_in second)) where
  first_is : tokens_in (drop i first) ≡ (get_or first i d).now ∷ tokens_in (drop (i + 1) first)
  first_is = ap tokens_in (drop_more first i d lt_i)

  second_is : tokens_in (drop j second) ≡ (get_or second j e).now ∷ tokens_in (drop (j + 1) second)
  second_is = ap tokens_in (drop_more second j e lt_j)

  rise_i : RiseInBytes ((get_or first i d).now ∷ tokens_in (drop (i + 1) first))
  rise_i = subst RiseInBytes (sym (tokens-drop i first) ∙ first_is) (rises_drop i (tokens_in first) rise_first)

  rise_j : RiseInBytes ((get_or second j e).now ∷ tokens_in (drop (j + 1) second))
  rise_j = subst RiseInBytes (sym (tokens-drop j second) ∙ second_is) (rises_drop j (tokens_in second) rise_second)

  both_are : left_of first second i j ≡ in_byte_order (((get_or first i d).now ∷ tokens_in (drop (i + 1) first)) ++ ((get_or second j e).now ∷ tokens_in (drop (j + 1) second)))
  both_are = ap (λ l. in_byte_order (l ++ tokens_in (drop j second))) first_is ∙ ap (λ l. in_byte_order (((get_or first i d).now ∷ tokens_in (drop (i + 1) first)) ++ l)) second_is

  put : (word : Bor (List ℕ)) (rest : List (List ℕ)) → tokens_in (out ++ word ∷ []) ++ rest ≡ tokens_in out ++ (word.now ∷ rest)
  put word rest = ap (λ l. l ++ rest) (map-append (λ (w : Bor (List ℕ)). w.now) out (word ∷ [])) ∙ append_assoc (tokens_in out) (word.now ∷ []) rest

  pub merge_less : slice_cmp nat_cmp (get_or first i d).now (get_or second j e).now ≡ Less → tokens_in (out ++ get_or first i d ∷ []) ++ left_of first second (i + 1) j ≡ tokens_in out ++ left_of first second i j
  merge_less is =
      put (get_or first i d) (left_of first second (i + 1) j)
      ∙ ap (λ l. tokens_in out ++ l) (ap (λ l. (get_or first i d).now ∷ in_byte_order (tokens_in (drop (i + 1) first) ++ l)) second_is ∙ sym (order_less (get_or first i d).now (get_or second j e).now (tokens_in (drop (i + 1) first)) (tokens_in (drop (j + 1) second)) rise_i rise_j is) ∙ sym both_are)

  pub merge_equal : slice_cmp nat_cmp (get_or first i d).now (get_or second j e).now ≡ Equal → tokens_in (out ++ get_or first i d ∷ []) ++ left_of first second (i + 1) (j + 1) ≡ tokens_in out ++ left_of first second i j
  merge_equal is =
      put (get_or first i d) (left_of first second (i + 1) (j + 1))
      ∙ ap (λ l. tokens_in out ++ l) (sym (order_equal (get_or first i d).now (get_or second j e).now (tokens_in (drop (i + 1) first)) (tokens_in (drop (j + 1) second)) rise_i rise_j (exact_bytes (get_or first i d).now (get_or second j e).now is)) ∙ sym both_are)

  pub merge_greater : slice_cmp nat_cmp (get_or first i d).now (get_or second j e).now ≡ Greater → tokens_in (out ++ get_or second j e ∷ []) ++ left_of first second i (j + 1) ≡ tokens_in out ++ left_of first second i j
  merge_greater is =
      put (get_or second j e) (left_of first second i (j + 1))
      ∙ ap (λ l. tokens_in out ++ l)
      (ap (λ l. (get_or second j e).now ∷ in_byte_order (l ++ tokens_in (drop (j + 1) second))) first_is ∙ sym (order_greater (get_or first i d).now (get_or second j e).now (tokens_in (drop (i + 1) first)) (tokens_in (drop (j + 1) second)) rise_i rise_j (greater_before (get_or first i d).now (get_or second j e).now is)) ∙ sym both_are)

-- if one of the lists is done, the rest of the other list follows
pub rest_of : (first second : List (Bor (List ℕ))) (i j : ℕ) → RiseInBytes (tokens_in first) → RiseInBytes (tokens_in second) → (length first ≤ i) ⊎ (length second ≤ j) →
    left_of first second i j ≡ tokens_in (drop i first) ++ tokens_in (drop j second)
rest_of first second i j rise_first rise_second (inl done) =
    let none : drop i first ≡ [] = drop_all i first done in
    ap (λ l. in_byte_order (tokens_in l ++ tokens_in (drop j second))) none
    ∙ order_rising (tokens_in (drop j second)) (subst RiseInBytes (sym (tokens-drop j second)) (rises_drop j (tokens_in second) rise_second))
    ∙ ap (λ l. tokens_in l ++ tokens_in (drop j second)) (sym none)
rest_of first second i j rise_first rise_second (inr done) =
    let none : drop j second ≡ [] = drop_all j second done in
    ap (λ l. in_byte_order (tokens_in (drop i first) ++ tokens_in l)) none
    ∙ ap in_byte_order (append-nil (tokens_in (drop i first)))
    ∙ order_rising (tokens_in (drop i first)) (subst RiseInBytes (sym (tokens-drop i first)) (rises_drop i (tokens_in first) rise_first))
    ∙ sym (append-nil (tokens_in (drop i first)))
    ∙ ap (λ l. tokens_in (drop i first) ++ tokens_in l) (sym none)

rest_all : (n : ℕ) (xs : List (Bor (List ℕ))) → take (length xs - n) (drop n xs) ≡ drop n xs
rest_all n xs = take_all (length xs - n) (drop n xs) (omega (arith, length-drop n xs))

-- and so it is put
pub merge_ends : (out all first second : List (Bor (List ℕ))) (i j : ℕ) → RiseInBytes (tokens_in first) → RiseInBytes (tokens_in second) → (length first ≤ i) ⊎ (length second ≤ j) →
    all ≡ (out ++ take (length first - i) (drop i first)) ++ take (length second - j) (drop j second) → tokens_in all ≡ tokens_in out ++ left_of first second i j
merge_ends out all first second i j rise_first rise_second done is =
    let now = λ (w : Bor (List ℕ)). w.now in
    ap tokens_in (is ∙ ap (λ l. (out ++ l) ++ take (length second - j) (drop j second)) (rest_all i first) ∙ ap (λ l. (out ++ drop i first) ++ l) (rest_all j second))
    ∙ map-append now (out ++ drop i first) (drop j second)
    ∙ ap (λ l. l ++ tokens_in (drop j second)) (map-append now out (drop i first))
    ∙ append_assoc (tokens_in out) (tokens_in (drop i first)) (tokens_in (drop j second))
    ∙ ap (λ l. tokens_in out ++ l) (sym (rest_of first second i j rise_first rise_second done))
