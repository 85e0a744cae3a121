-- Words and the options that they write.
use Rattle.std.proofs.Common.{◌≡◌, ℕ, ◌+◌, ◌<◌, Bool, true, false, ◌||◌, List, [], ◌∷◌, length, Option, None, Some, option_map, option_and_then, cond, not, suc, refl, sym, ap, ◌∙◌, subst, arith, nat_lt, take, drop}
use Rattle.std.specs.List.{position, position_or_len}
use Rattle.std.proofs.lemmas.Bool.Decides.{nat_tests}
use Rattle.command_words.specs.Grammar.{Given, is_equals, is_joined, pairs_of, parted}
use Rattle.command_words.proofs.PairLemmas.{pairs_of-joined, pairs_of-last, pairs_of-spaced}
use Rattle.share_run.specs.Words.{options_in, options_of}

-- a word is joined if an `=` is in it
joined : (word : List ℕ) → is_joined word ≡ nat_lt (position_or_len is_equals word) (length word)
joined [] = refl
joined (b ∷ bs) = by_case (is_equals b) (joined bs)
  where
    by_case : (e : Bool) → is_joined bs ≡ nat_lt (position_or_len is_equals bs) (length bs) → (e || is_joined bs) ≡ nat_lt (cond (not e) (1 + position_or_len is_equals bs) 0) (length (b ∷ bs))
    by_case true h = grind (arith, nat_tests)
    by_case false h = h ∙ shifted (position_or_len is_equals bs) (length bs)
      where
        shifted : (n m : ℕ) → nat_lt n m ≡ nat_lt (1 + n) (suc m)
        shifted n m = grind (arith, nat_tests)

at_first : (p l at : ℕ) (b : Bool) → Some at ≡ cond b (Some p) None → (b ≡ true) × (at ≡ p)
at_first p l at true e = (refl, cc e)
at_first p l at false e = absurd (cc e)

at_none : (p : ℕ) (b : Bool) → None ≡ cond b (Some p) None → b ≡ false
at_none p true e = absurd (cc e)
at_none p false e = refl

-- a word with an `=` is one option, whatever follows
pub joined_pairs : (word : List ℕ) (rest : List (List ℕ)) (at : ℕ) → Some at ≡ position is_equals word → pairs_of (word ∷ rest) ≡ option_map (λ pairs. (take at word, drop (at + 1) word) ∷ pairs) (pairs_of rest)
joined_pairs word rest at e =
    let p = position_or_len is_equals word in
    let first = at_first p (length word) at (nat_lt p (length word)) e in
    pairs_of-joined word rest (joined word ∙ first.0) ∙ ap (λ n. option_map (λ pairs. (take n word, drop (n + 1) word) ∷ pairs) (pairs_of rest)) (sym first.1)

-- a word without one is an option with the next word
pub spaced_pairs : (word next : List ℕ) (rest : List (List ℕ)) → None ≡ position is_equals word → pairs_of (word ∷ next ∷ rest) ≡ option_map (λ pairs. (word, next) ∷ pairs) (pairs_of rest)
spaced_pairs word next rest e =
    let p = position_or_len is_equals word in
    pairs_of-spaced word next rest (joined word ∙ at_none p (nat_lt p (length word)) e)

-- and none without a next word
pub last_pairs : (word : List ℕ) → None ≡ position is_equals word → pairs_of (word ∷ []) ≡ None
last_pairs word e =
    let p = position_or_len is_equals word in
    pairs_of-last word (joined word ∙ at_none p (nat_lt p (length word)) e)

map_some : (p : Given) (o : Option (List Given)) → option_map (λ ps. p ∷ ps) o ≡ Some [] → ⊥
map_some p None e = cc e
map_some p (Some ps) e = cc e

-- words that are there are no empty list of options
some_pairs : (word : List ℕ) (rest : List (List ℕ)) → pairs_of (word ∷ rest) ≡ Some [] → ⊥
some_pairs word [] e = by_case (is_joined word) e
  where
    by_case : (b : Bool) → cond b (Some (parted word ∷ [])) None ≡ Some [] → ⊥
    by_case true e = cc e
    by_case false e = cc e
some_pairs word (next ∷ rest) e = by_case (is_joined word) e
  where
    by_case : (b : Bool) → cond b (option_map (λ ps. parted word ∷ ps) (pairs_of (next ∷ rest))) (option_map (λ ps. (word, next) ∷ ps) (pairs_of rest)) ≡ Some [] → ⊥
    by_case true e = map_some (parted word) (pairs_of (next ∷ rest)) e
    by_case false e = map_some (word, next) (pairs_of rest) e

abbrev three_more : Given → Given → Given → Option (List Given) → Option (List Given)
three_more a b d o = option_map (λ ps. a ∷ ps) (option_map (λ ps. b ∷ ps) (option_map (λ ps. d ∷ ps) o))

-- if words come after three options, the words ask for nothing
pub too_many : (words one two three : List (List ℕ)) (a b d : Given) → pairs_of words ≡ option_map (λ ps. a ∷ ps) (pairs_of one) → pairs_of one ≡ option_map (λ ps. b ∷ ps) (pairs_of two)
    → pairs_of two ≡ option_map (λ ps. d ∷ ps) (pairs_of three) → 0 < length three → None ≡ options_of words
too_many words one two three a b d e1 e2 e3 some =
    let all : pairs_of words ≡ three_more a b d (pairs_of three) =
    e1 ∙ ap (λ o. option_map (λ ps. a ∷ ps) o) e2 ∙ ap (λ o. option_map (λ ps. a ∷ ps) (option_map (λ ps. b ∷ ps) o)) e3 in
    by_rest three refl some ∙ ap (option_and_then options_in) (sym all)
  where
    by_pairs : (o : Option (List Given)) → (o ≡ Some [] → ⊥) → None ≡ option_and_then options_in (three_more a b d o)
    by_pairs None never = refl
    by_pairs (Some []) never = absurd (never refl)
    by_pairs (Some (p ∷ ps)) never = refl

    by_rest : (rest : List (List ℕ)) → rest ≡ three → 0 < length rest → None ≡ option_and_then options_in (three_more a b d (pairs_of three))
    by_rest [] is less = absurd (omega (arith, less))
    by_rest (word ∷ rest) is less = subst (λ r. None ≡ option_and_then options_in (three_more a b d (pairs_of r))) is (by_pairs (pairs_of (word ∷ rest)) (some_pairs word rest))
