-- Words at rising addresses are known by the places of each token.
use Rattle.std.proofs.Common.{◌≡◌, ℕ, ◌+◌, ◌≤◌, List, [], ◌∷◌, bytes_eq, inl, inr, refl, sym, ap, ◌∙◌, subst, arith, le_refl}
use Rattle.std.proofs.lemmas.Bool.{cases_Bool}
use Rattle.std.proofs.lemmas.Slice.Eq.{bytes_eq-Decides}
use Rattle.gcl_model.specs.Texts.{Word, places, AreRisingBelow}
use Rattle.index_shard.specs.Tables.{ShardContent, IsShard, postings_of, words_of}
use Rattle.index_shard.proofs.ShardWords.{word, shard_words_rise, places_are_postings}

-- no place is before the first address
first_place : (next low : ℕ) (words : List Word) (token : List ℕ) (p : ℕ) (ps : List ℕ) → AreRisingBelow next low words → places words token ≡ p ∷ ps → low ≤ p
first_place next low [] token p ps rising is = absurd cc
first_place next low (w ∷ ws) token p ps rising is =
    let le = rising.0 in
    elim (cases_Bool (bytes_eq w.token token)) [
      | inl h ↦ let is = rw h at is in let same : w.address ≡ p = cc in omega arith
      | inr h ↦ let later : w.address + 1 ≤ p = first_place next (w.address + 1) ws token p ps rising.2 (rw h at is) in omega arith
    ]

own_place : (w : Word) (ws : List Word) → places (w ∷ ws) w.token ≡ w.address ∷ places ws w.token
own_place w ws = rw ((bytes_eq-Decides w.token w.token).1 refl) refl

-- the first words of two such lists are the same
same_first : (next low : ℕ) (v w : Word) (vs ws : List Word) → AreRisingBelow next low (v ∷ vs) → AreRisingBelow next low (w ∷ ws) →
    ((token : List ℕ) → places (v ∷ vs) token ≡ places (w ∷ ws) token) → v ≡ w
same_first next low v w vs ws rv rw_ same =
    let mine : places (w ∷ ws) v.token ≡ v.address ∷ places vs v.token = sym (same v.token) ∙ own_place v vs in
    let other : places (v ∷ vs) w.token ≡ w.address ∷ places ws w.token = same w.token ∙ own_place w ws in
    let one : w.address ≤ v.address = first_place next w.address (w ∷ ws) v.token v.address (places vs v.token) (le_refl w.address, rw_.1, rw_.2) mine in
    let two : v.address ≤ w.address = first_place next v.address (v ∷ vs) w.token w.address (places ws w.token) (le_refl v.address, rv.1, rv.2) other in
    let at : v.address ≡ w.address = omega arith in
    elim (cases_Bool (bytes_eq w.token v.token)) [
      | inl h ↦ let tokens : v.token ≡ w.token = sym ((bytes_eq-Decides w.token v.token).0 h) in ap (λ p. word p v.token) at ∙ ap (word w.address) tokens
      | inr h ↦
          let late : w.address + 1 ≤ v.address = first_place next (w.address + 1) ws v.token v.address (places vs v.token) rw_.2 (rw h at mine) in
          absurd (omega arith)
    ]

same_rest : (v w : Word) (vs ws : List Word) (token : List ℕ) → v ≡ w → places (v ∷ vs) token ≡ places (w ∷ ws) token → places vs token ≡ places ws token
same_rest v w vs ws token heads same =
    let tokens : bytes_eq w.token token ≡ bytes_eq v.token token = ap (λ u. bytes_eq u.token token) (sym heads) in
    elim (cases_Bool (bytes_eq v.token token)) [
      | inl h ↦ let t = tokens ∙ h in let same = rw (h, t) at same in cc
      | inr h ↦ let t = tokens ∙ h in let same = rw (h, t) at same in same
    ]

pub same_words : (next low : ℕ) (vs ws : List Word) → AreRisingBelow next low vs → AreRisingBelow next low ws → ((token : List ℕ) → places vs token ≡ places ws token) → vs ≡ ws
same_words next low [] [] rv rw_ same = refl
same_words next low [] (w ∷ ws) rv rw_ same = let e : [] ≡ w.address ∷ places ws w.token = same w.token ∙ own_place w ws in absurd cc
same_words next low (v ∷ vs) [] rv rw_ same = let e : v.address ∷ places vs v.token ≡ [] = sym (own_place v vs) ∙ same v.token in absurd cc
same_words next low (v ∷ vs) (w ∷ ws) rv rw_ same =
    let heads = same_first next low v w vs ws rv rw_ same in
    let rest =
    same_words next (w.address + 1) vs ws (subst (λ (u : Word). AreRisingBelow next (u.address + 1) vs) heads rv.2) rw_.2
    (λ token. same_rest v w vs ws token heads (same token)) in
    ap (λ u. u ∷ vs) heads ∙ ap (λ us. w ∷ us) rest

-- a table that has the places of each token among rising words is the table of these words
pub shard_has_words : (shard : ShardContent) (words : List Word) → IsShard shard → AreRisingBelow (shard.range.last + 1) shard.range.first words →
    ((token : List ℕ) → postings_of shard.table token ≡ places words token) → words_of shard ≡ words
shard_has_words shard words is rising same =
    same_words (shard.range.last + 1) shard.range.first (words_of shard) words (shard_words_rise shard is) rising (λ token. places_are_postings shard token is ∙ same token)
