-- The first place of each hash: one name more, one less, and all of them anew.
use Rattle.std.proofs.Common.{◌≡◌, ℕ, ◌+◌, ◌<◌, ◌≤◌, Bool, true, false, cond, List, [], ◌∷◌, ◌++◌, length, get_or, drop, bytes_eq, nat_eq, nat_lt, Option, Some, None, is_some, inl, inr, refl, sym, ap, ◌∙◌, arith}
use Rattle.std.specs.List.{list_any, position_from, position_or_len}
use Rattle.std.specs.List.Sorted.{IsPermutation}
use Rattle.std.specs.Map.{update}
use Rattle.std.specs.Option.{option_eq, option_or}
use Rattle.std.proofs.lemmas.Bool.{cases_Bool, false_from_ne_true}
use Rattle.std.proofs.lemmas.Bool.Decides.{Decides-eqb, Decides-ltb}
use Rattle.std.proofs.lemmas.Iterator.Adapters.{position_from-zero}
use Rattle.std.proofs.lemmas.List.{drop_all, drop_more}
use Rattle.std.proofs.lemmas.List.Quantifiers.{position-Some}
use Rattle.std.proofs.lemmas.List.Folds.{list_any_at}
use Rattle.std.proofs.lemmas.List.Sums.{position_or_len_is}
use Rattle.std.proofs.lemmas.List.Sorted.{list_any-IsPermutation}
use Rattle.std.proofs.lemmas.Slice.Eq.{bytes_eq-Decides}
use Rattle.shard_build.specs.Met.{TellsFirsts, TellsHashes, first_with}

-- ---- the first place at which a test passes

-- whether there is one
pub some_first : {X : Type 0} (test : X → Bool) (start : ℕ) (xs : List X) → is_some (position_from test start xs) ≡ list_any test xs
some_first test start [] = refl
some_first test start (x ∷ xs) = elim (cases_Bool (test x)) [ inl h ↦ rw h refl | inr h ↦ rw h (some_first test (start + 1) xs) ]

-- a member at the end is the first only if no other is
first_pushed : {X : Type 0} (test : X → Bool) (start : ℕ) (xs : List X) (y : X) → position_from test start (xs ++ y ∷ []) ≡ option_or (position_from test start xs) (cond (test y) (Some (start + length xs)) None)
first_pushed test start [] y = let same : start ≡ start + 0 = omega arith in ap (λ n. cond (test y) (Some n) None) same
first_pushed test start (x ∷ xs) y =
    let counted : (start + 1) + length xs ≡ start + length (x ∷ xs) = omega arith in
    elim (cases_Bool (test x)) [
      | inl h ↦ rw h refl
      | inr h ↦ rw h (first_pushed test (start + 1) xs y ∙ ap (λ n. option_or (position_from test (start + 1) xs) (cond (test y) (Some n) None)) counted)
    ]

-- what is first is there, and none before it passes
pub first_stands : {X : Type 0} (test : X → Bool) (xs : List X) (i : ℕ) (d : X) → position_from test 0 xs ≡ Some i → (i < length xs) × (test (get_or xs i d) ≡ true) × ((k : ℕ) → k < i → test (get_or xs k d) ≡ false)
first_stands test xs i d is = position-Some test xs i d (position_from-zero test xs ∙ is)

-- a test that passes no other than one which is first passed here, and passes here, is first passed here
narrower_first : {X : Type 0} (wide narrow : X → Bool) (xs : List X) (i : ℕ) (d : X) → ((x : X) → narrow x ≡ true → wide x ≡ true) → position_from wide 0 xs ≡ Some i → narrow (get_or xs i d) ≡ true → position_from narrow 0 xs ≡ Some i
narrower_first wide narrow xs i d within is passes =
    let stands = first_stands wide xs i d is in
    let at : position_or_len narrow xs ≡ i =
    position_or_len_is narrow xs i d (omega (arith, stands.0))
    (λ k lt. false_from_ne_true (narrow (get_or xs k d)) (λ h. let never = sym (within (get_or xs k d) h) ∙ stands.2 k lt in absurd cc))
    (λ lt. passes) in
    sym (position_from-zero narrow xs) ∙ ap (λ k. cond (nat_lt k (length xs)) (Some k) None) at ∙ ap (λ b. cond b (Some i) None) ((Decides-ltb i (length xs)).1 stands.0)

-- and if the one passes nothing, the other does not
none_narrower : {X : Type 0} (wide narrow : X → Bool) (start : ℕ) (xs : List X) → ((x : X) → narrow x ≡ true → wide x ≡ true) → position_from wide start xs ≡ None → position_from narrow start xs ≡ None
none_narrower wide narrow start [] within none = refl
none_narrower wide narrow start (x ∷ xs) within none =
    elim (cases_Bool (wide x)) [
      | inl h ↦ let never = rw h at none in absurd cc
      | inr h ↦
          let rest = rw h at none in
          let no : narrow x ≡ false = false_from_ne_true (narrow x) (λ n. let never = sym (within x n) ∙ h in absurd cc) in
          rw no (none_narrower wide narrow (start + 1) xs within rest)
    ]

-- ---- a search through the names

-- the name at a place, and those behind it
opened_at : (names : List (List ℕ)) (token : List ℕ) (number : ℕ) → number < length names →
    position_from (bytes_eq token) number (drop number names) ≡ cond (bytes_eq token (get_or names number [])) (Some number) (position_from (bytes_eq token) (number + 1) (drop (number + 1) names))
opened_at names token number within = ap (position_from (bytes_eq token) number) (drop_more names number [] within)

pub search_met : (names : List (List ℕ)) (token : List ℕ) (number : ℕ) → number < length names → bytes_eq token (get_or names number []) ≡ true →
    position_from (bytes_eq token) number (drop number names) ≡ position_from (bytes_eq token) 0 names → Some number ≡ position_from (bytes_eq token) 0 names
search_met names token number within same so_far =
    sym (opened_at names token number within ∙ ap (λ b. cond b (Some number) (position_from (bytes_eq token) (number + 1) (drop (number + 1) names))) same) ∙ so_far

pub search_on : (names : List (List ℕ)) (token : List ℕ) (number : ℕ) → number < length names → bytes_eq token (get_or names number []) ≡ false →
    position_from (bytes_eq token) number (drop number names) ≡ position_from (bytes_eq token) 0 names → position_from (bytes_eq token) (number + 1) (drop (number + 1) names) ≡ position_from (bytes_eq token) 0 names
search_on names token number within differs so_far =
    sym (opened_at names token number within ∙ ap (λ b. cond b (Some number) (position_from (bytes_eq token) (number + 1) (drop (number + 1) names))) differs) ∙ so_far

pub search_done : (names : List (List ℕ)) (token : List ℕ) (number : ℕ) → length names ≤ number → position_from (bytes_eq token) number (drop number names) ≡ position_from (bytes_eq token) 0 names → None ≡ position_from (bytes_eq token) 0 names
search_done names token number past so_far = sym (ap (position_from (bytes_eq token) number) (drop_all number names past)) ∙ so_far

-- ---- what a map answers

pub not_some : (o : Option ℕ) → is_some o ≡ false → o ≡ None
not_some None none = refl
not_some (Some n) never = absurd cc

pub same_option : (o p : Option ℕ) → option_eq nat_eq o p ≡ true → o ≡ p
same_option None None is = refl
same_option None (Some m) never = absurd cc
same_option (Some n) None never = absurd cc
same_option (Some n) (Some m) is = ap (λ k. Some k) ((Decides-eqb n m).0 is)

pub other_option : (o p : Option ℕ) → option_eq nat_eq o p ≡ false → o ≡ p → ⊥
other_option None p is same = let never = ap (λ q. option_eq nat_eq None q) same ∙ is in absurd cc
other_option (Some n) p is same = let never = sym ((Decides-eqb n n).1 refl) ∙ ap (λ q. option_eq nat_eq (Some n) q) same ∙ is in absurd cc

-- ---- names and their hashes

module _ (hashed : List ℕ → ℕ) where
  -- the name that a token is has the token's hash
  same_hash : (token name : List ℕ) → bytes_eq token name ≡ true → nat_eq (hashed name) (hashed token) ≡ true
  same_hash token name same = (Decides-eqb (hashed name) (hashed token)).1 (ap hashed (sym ((bytes_eq-Decides token name).0 same)))

  -- the first name with the hash of a token is the token
  pub found_by_hash : (told : ℕ → Option ℕ) (names : List (List ℕ)) (token : List ℕ) (place : ℕ) → TellsFirsts hashed told names → told (hashed token) ≡ Some place → bytes_eq token (get_or names place []) ≡ true →
      Some place ≡ position_from (bytes_eq token) 0 names
  found_by_hash told names token place tells is same =
      sym (narrower_first (λ name. nat_eq (hashed name) (hashed token)) (bytes_eq token) names place [] (same_hash token) (sym (tells (hashed token)) ∙ is) same)

  -- no name has the hash of a token
  pub none_by_hash : (told : ℕ → Option ℕ) (names : List (List ℕ)) (token : List ℕ) → TellsFirsts hashed told names → told (hashed token) ≡ None → None ≡ position_from (bytes_eq token) 0 names
  none_by_hash told names token tells none = sym (none_narrower (λ name. nat_eq (hashed name) (hashed token)) (bytes_eq token) 0 names (same_hash token) (sym (tells (hashed token)) ∙ none))

  -- ---- one more, and one less

  -- the first with a hash, once one more name is last
  with_last : (told : ℕ → Option ℕ) (names : List (List ℕ)) (name : List ℕ) (hash : ℕ) → told hash ≡ first_with hashed hash 0 names →
      first_with hashed hash 0 (names ++ name ∷ []) ≡ option_or (told hash) (cond (nat_eq (hashed name) hash) (Some (length names)) None)
  with_last told names name hash is =
      first_pushed (λ n. nat_eq (hashed n) hash) 0 names name
      ∙ ap (λ k. option_or (first_with hashed hash 0 names) (cond (nat_eq (hashed name) hash) (Some k) None)) counted
      ∙ ap (λ o. option_or o (cond (nat_eq (hashed name) hash) (Some (length names)) None)) (sym is)
    where
      counted : 0 + length names ≡ length names
      counted = omega arith

  or_none : (o : Option ℕ) → option_or o None ≡ o
  or_none None = refl
  or_none (Some n) = refl

  -- a name whose hash no name had goes last
  pub tells_new : (told now : ℕ → Option ℕ) (names : List (List ℕ)) (name : List ℕ) → ((hash : ℕ) → now hash ≡ update nat_eq told (hashed name) (Some (length names)) hash) → told (hashed name) ≡ None →
      TellsFirsts hashed told names → TellsFirsts hashed now (names ++ name ∷ [])
  tells_new told now names name put none tells hash =
      let last = with_last told names name hash (tells hash) in
      elim (cases_Bool (nat_eq (hashed name) hash)) [
        | inl h ↦
            let here : told hash ≡ None = ap told (sym ((Decides-eqb (hashed name) hash).0 h)) ∙ none in
            put hash ∙ ap (λ b. cond b (Some (length names)) (told hash)) h
            ∙ sym (last ∙ ap (λ o. option_or o (cond (nat_eq (hashed name) hash) (Some (length names)) None)) here ∙ ap (λ b. cond b (Some (length names)) None) h)
        | inr h ↦
            put hash ∙ ap (λ b. cond b (Some (length names)) (told hash)) h
            ∙ sym (last ∙ ap (λ b. option_or (told hash) (cond b (Some (length names)) None)) h ∙ or_none (told hash))
      ]

  -- a name whose hash another one has goes last
  pub tells_met : (told : ℕ → Option ℕ) (names : List (List ℕ)) (name : List ℕ) → is_some (told (hashed name)) ≡ true → TellsFirsts hashed told names → TellsFirsts hashed told (names ++ name ∷ [])
  tells_met told names name some tells hash =
      let last = with_last told names name hash (tells hash) in
      elim (cases_Bool (nat_eq (hashed name) hash)) [
        | inl h ↦
            let here : is_some (told hash) ≡ true = ap (λ k. is_some (told k)) (sym ((Decides-eqb (hashed name) hash).0 h)) ∙ some in
            sym (last ∙ or_some (told hash) (cond (nat_eq (hashed name) hash) (Some (length names)) None) here)
        | inr h ↦ sym (last ∙ ap (λ b. option_or (told hash) (cond b (Some (length names)) None)) h ∙ or_none (told hash))
      ]
    where
      or_some : (o p : Option ℕ) → is_some o ≡ true → option_or o p ≡ o
      or_some None p none = absurd cc
      or_some (Some n) p is = refl

  -- the first with a hash is not past the names
  not_past : (names : List (List ℕ)) (hash : ℕ) → first_with hashed hash 0 names ≡ Some (length names) → ⊥
  not_past names hash is = let stands = first_stands (λ n. nat_eq (hashed n) hash) names (length names) [] is in omega (arith, stands.0)

  -- the last name is forgotten, which was the first with its hash
  pub tells_less : (told now : ℕ → Option ℕ) (names : List (List ℕ)) (name : List ℕ) → ((hash : ℕ) → now hash ≡ update nat_eq told (hashed name) None hash) → told (hashed name) ≡ Some (length names) →
      TellsFirsts hashed told (names ++ name ∷ []) → TellsFirsts hashed now names
  tells_less told now names name taken is tells hash =
      let last = tells hash ∙ with_last (λ k. first_with hashed k 0 names) names name hash refl in
      elim (cases_Bool (nat_eq (hashed name) hash)) [
        | inl h ↦
            let same = (Decides-eqb (hashed name) hash).0 h in
            taken hash ∙ ap (λ b. cond b None (told hash)) h
            ∙ sym (by hash (first_with hashed hash 0 names) (cond (nat_eq (hashed name) hash) (Some (length names)) None) refl (sym last ∙ ap told (sym same) ∙ is))
        | inr h ↦ taken hash ∙ ap (λ b. cond b None (told hash)) h ∙ last ∙ ap (λ b. option_or (first_with hashed hash 0 names) (cond b (Some (length names)) None)) h ∙ or_none (first_with hashed hash 0 names)
      ]
    where
      by : (hash : ℕ) (o p : Option ℕ) → first_with hashed hash 0 names ≡ o → option_or o p ≡ Some (length names) → o ≡ None
      by hash None p first whole = refl
      by hash (Some n) p first whole = absurd (not_past names hash (first ∙ whole))

  -- the last name is forgotten, which was not the first with its hash
  pub tells_same : (told : ℕ → Option ℕ) (names : List (List ℕ)) (name : List ℕ) → (told (hashed name) ≡ Some (length names) → ⊥) → TellsFirsts hashed told (names ++ name ∷ []) → TellsFirsts hashed told names
  tells_same told names name other tells hash =
      let last = tells hash ∙ with_last (λ k. first_with hashed k 0 names) names name hash refl in
      elim (cases_Bool (nat_eq (hashed name) hash)) [
        | inl h ↦
            let same = (Decides-eqb (hashed name) hash).0 h in
            last ∙ by (first_with hashed hash 0 names) (cond (nat_eq (hashed name) hash) (Some (length names)) None) (ap (λ b. cond b (Some (length names)) None) h)
            (λ end. other (ap told same ∙ last ∙ end))
        | inr h ↦ last ∙ ap (λ b. option_or (first_with hashed hash 0 names) (cond b (Some (length names)) None)) h ∙ or_none (first_with hashed hash 0 names)
      ]
    where
      by : (o p : Option ℕ) → p ≡ Some (length names) → (option_or o p ≡ Some (length names) → ⊥) → option_or o p ≡ o
      by None p is not_last = absurd (not_last is)
      by (Some n) p is not_last = refl

  -- ---- all anew

  -- a place is known for the hash of each name, and for those of the names behind a place it is the first of these
  pub record TellsBehind (start : ℕ) (told : ℕ → Option ℕ) (names : List (List ℕ)) : Type 0 where
    pub each : (hash place : ℕ) → first_with hashed hash start (drop start names) ≡ Some place → told hash ≡ Some place
    pub all : TellsHashes hashed told names

  -- no names are behind the last one
  pub tells_none_yet : (told : ℕ → Option ℕ) (names : List (List ℕ)) (start : ℕ) → length names ≤ start → TellsHashes hashed told names → TellsBehind start told names
  tells_none_yet told names start past all = record {
    each = λ hash place is. let never = ap (first_with hashed hash start) (sym (drop_all start names past)) ∙ is in absurd cc;
    all = all;
  }

  -- one name more has its place as its number
  pub tells_one_more : (told now : ℕ → Option ℕ) (names : List (List ℕ)) (name : List ℕ) (start next : ℕ) → name ≡ get_or names start [] → start + 1 ≡ next → start < length names →
      ((hash : ℕ) → now hash ≡ update nat_eq told (hashed name) (Some start) hash) → TellsBehind next told names → TellsBehind start now names
  tells_one_more told now names name start next is follows within put tells = record { each = each; all = all }
    where
      opened : (hash : ℕ) → first_with hashed hash start (drop start names) ≡ cond (nat_eq (hashed name) hash) (Some start) (first_with hashed hash next (drop next names))
      opened hash =
          ap (first_with hashed hash start) (drop_more names start [] within)
          ∙ ap (λ n. cond (nat_eq (hashed n) hash) (Some start) (first_with hashed hash (start + 1) (drop (start + 1) names))) (sym is)
          ∙ ap (λ k. cond (nat_eq (hashed name) hash) (Some start) (first_with hashed hash k (drop k names))) follows

      each : (hash place : ℕ) → first_with hashed hash start (drop start names) ≡ Some place → now hash ≡ Some place
      each hash place first =
          let here = sym (opened hash) ∙ first in
          elim (cases_Bool (nat_eq (hashed name) hash)) [
            | inl h ↦ put hash ∙ ap (λ b. cond b (Some start) (told hash)) h ∙ sym (ap (λ b. cond b (Some start) (first_with hashed hash next (drop next names))) h) ∙ here
            | inr h ↦
                put hash ∙ ap (λ b. cond b (Some start) (told hash)) h
                ∙ tells.each hash place (sym (ap (λ b. cond b (Some start) (first_with hashed hash next (drop next names))) h) ∙ here)
          ]

      all : TellsHashes hashed now names
      all hash =
          elim (cases_Bool (nat_eq (hashed name) hash)) [
            | inl h ↦
                let at = ap (λ n. nat_eq (hashed n) hash) (sym is) ∙ h in
                ap is_some (put hash ∙ ap (λ b. cond b (Some start) (told hash)) h) ∙ sym (list_any_at (λ n. nat_eq (hashed n) hash) names start [] within at)
            | inr h ↦ ap is_some (put hash ∙ ap (λ b. cond b (Some start) (told hash)) h) ∙ tells.all hash
          ]

  -- the name at a place has a number
  pub has_number : (told : ℕ → Option ℕ) (names : List (List ℕ)) (name : List ℕ) (place : ℕ) → name ≡ get_or names place [] → place < length names → TellsHashes hashed told names → is_some (told (hashed name)) ≡ true
  has_number told names name place is within all =
      all (hashed name) ∙ list_any_at (λ n. nat_eq (hashed n) (hashed name)) names place [] within ((Decides-eqb (hashed (get_or names place [])) (hashed name)).1 (ap hashed (sym is)))

  -- all names are numbered anew
  pub tells_all : (told : ℕ → Option ℕ) (names : List (List ℕ)) (start : ℕ) → start ≡ 0 → TellsBehind start told names → TellsFirsts hashed told names
  tells_all told names start whole tells hash = by (first_with hashed hash 0 names) (told hash) refl refl
    where
      start_first : (hash place : ℕ) → first_with hashed hash 0 names ≡ Some place → told hash ≡ Some place
      start_first hash place first = tells.each hash place (ap (λ k. first_with hashed hash k (drop k names)) whole ∙ first)

      by : (first it : Option ℕ) → first_with hashed hash 0 names ≡ first → told hash ≡ it → told hash ≡ first_with hashed hash 0 names
      by (Some place) it is told_is = start_first hash place is ∙ sym is
      by None None is told_is = told_is ∙ sym is
      by None (Some place) is told_is =
          let never = sym (ap is_some told_is) ∙ tells.all hash ∙ sym (some_first (λ n. nat_eq (hashed n) hash) 0 names) ∙ ap is_some is in absurd cc

  -- the names in another order have the same hashes
  pub hashes_moved : (told : ℕ → Option ℕ) (names moved : List (List ℕ)) → IsPermutation names moved → TellsFirsts hashed told names → TellsHashes hashed told moved
  hashes_moved told names moved permutation tells hash =
      let test = λ (n : List ℕ). nat_eq (hashed n) hash in
      ap is_some (tells hash) ∙ some_first test 0 names ∙ list_any-IsPermutation test names moved permutation
