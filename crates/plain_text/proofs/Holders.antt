-- The next and the previous place of a token, by the words before and after an address.
use Rattle.std.proofs.Common.{◌≡◌, ℕ, zero, suc, ◌+◌, ◌<◌, ◌≤◌, true, false, cond, leb, ltb, List, [], ◌∷◌, take, drop, slice_get, Option, Some, None, inl, inr, refl, ap, sym, ◌∙◌, arith, bytes_eq}
use Rattle.std.specs.List.{prefix_len}
use Rattle.std.specs.Option.{option_map}
use Rattle.std.proofs.lemmas.Bool.{leb-false, le-leb, lt-leb, ltb-true, ltb-false, cases_Bool}
use Rattle.gcl_model.specs.Access.{find_last, later_or}
use Rattle.gcl_model.specs.Texts.{Word, AreRisingBelow, is_word, holds, next_place, previous_place}
use Rattle.gcl_model.proofs.Lists.{later_or-none, drop_past, take_past}
use Rattle.gcl_model.proofs.WordLists.{none_previous}
use Rattle.plain_text.specs.Puts.{word}
use Rattle.plain_text.specs.Holders.{first_holder, last_holder}

skip_first : (w : Word) (ws : List Word) (token : List ℕ) (k : ℕ) → w.address < k → next_place (w ∷ ws) token k ≡ next_place ws token k
skip_first w ws token k lt =
    elim (cases_Bool (bytes_eq w.token token)) [
      | inl t ↦ rw (t, lt-leb k w.address lt) refl
      | inr f ↦ rw f refl
    ]

-- if all are at or after k, the first holder is the next one
next_of_all : (next low : ℕ) (words : List Word) (token : List ℕ) (k : ℕ) → AreRisingBelow next low words → k ≤ low → next_place words token k ≡ first_holder words token
next_of_all next low [] token k r le = refl
next_of_all next low (w ∷ ws) token k r le =
    let from : low ≤ w.address = r.0 in
    elim (cases_Bool (bytes_eq w.token token)) [
      | inl t ↦ let far : leb k w.address ≡ true = le-leb k w.address (omega arith) in rw (t, far) refl
      | inr f ↦ rw f (next_of_all next (w.address + 1) ws token k r.2 (omega arith))
    ]

pub next_place_by_count : (next low : ℕ) (words : List Word) (token : List ℕ) (k : ℕ) → AreRisingBelow next low words →
    next_place words token k ≡ first_holder (drop (prefix_len (λ w. ltb w.address k) words) words) token
next_place_by_count next low [] token k r = refl
next_place_by_count next low (w ∷ ws) token k r =
    elim (cases_Bool (ltb w.address k)) [
      | inl t ↦ skip_first w ws token k (ltb-true w.address k t) ∙ next_place_by_count next (w.address + 1) ws token k r.2
          ∙ ap (λ rest. first_holder rest token) (sym (drop_past w ws (prefix_len (λ w. ltb w.address k) ws)) ∙ ap (λ n. drop n (w ∷ ws)) (sym (ap (λ b. cond b (1 + prefix_len (λ w. ltb w.address k) ws) 0) t)))
      | inr f ↦ let ge : k ≤ w.address = ltb-false w.address k f in rw f (next_of_all next w.address (w ∷ ws) token k (ge_self, r.1, r.2) ge)
    ]
  where
    ge_self : w.address ≤ w.address
    ge_self = omega arith

map_later : (o p : Option Word) → option_map (λ (w : Word). w.address) (later_or o p) ≡ later_or (option_map (λ (w : Word). w.address) o) (option_map (λ (w : Word). w.address) p)
map_later None p = refl
map_later (Some w) p = refl

take_first : (w : Word) (ws : List Word) (token : List ℕ) (k : ℕ) → leb w.address k ≡ true → previous_place (w ∷ ws) token k ≡ later_or (previous_place ws token k) (last_holder (w ∷ []) token)
take_first w ws token k le =
    elim (cases_Bool (bytes_eq w.token token)) [
      | inl t ↦ rw (t, le) refl
      | inr f ↦ rw f (sym (later_or-none (previous_place ws token k)))
    ]

pub last_holder-cons : (w : Word) (ws : List Word) (token : List ℕ) → last_holder (w ∷ ws) token ≡ later_or (last_holder ws token) (last_holder (w ∷ []) token)
last_holder-cons w ws token = map_later (find_last (λ w. bytes_eq w.token token) ws) (cond (bytes_eq w.token token) (Some w) None)

pub previous_place_by_count : (next low : ℕ) (words : List Word) (token : List ℕ) (k : ℕ) → AreRisingBelow next low words →
    previous_place words token k ≡ last_holder (take (prefix_len (λ w. leb w.address k) words) words) token
previous_place_by_count next low [] token k r = refl
previous_place_by_count next low (w ∷ ws) token k r =
    let n = prefix_len (λ (w : Word). leb w.address k) ws in
    elim (cases_Bool (leb w.address k)) [
      | inl t ↦ take_first w ws token k t ∙ ap (λ o. later_or o (last_holder (w ∷ []) token)) (previous_place_by_count next (w.address + 1) ws token k r.2)
          ∙ sym (last_holder-cons w (take n ws) token)
          ∙ ap (λ front. last_holder front token) (sym (take_past w ws n) ∙ ap (λ m. take m (w ∷ ws)) (sym (ap (λ b. cond b (1 + n) 0) t)))
      | inr f ↦ let gt : k < w.address = leb-false w.address k f in rw f (none_previous next w.address (w ∷ ws) token k (ge_self, r.1, r.2) gt)
    ]
  where
    ge_self : w.address ≤ w.address
    ge_self = omega arith

-- the word at a place is the token, or those after it go on
pub first_here : (words : List Word) (i a : ℕ) (t token : List ℕ) → slice_get words i ≡ Some (word a t) → bytes_eq t token ≡ true → first_holder (drop i words) token ≡ Some a
first_here [] i a t token is same = absurd cc
first_here (w ∷ ws) zero a t token is same = let e : w ≡ word a t = cc in rw (e, same) refl
first_here (w ∷ ws) (suc i) a t token is same = first_here ws i a t token is same

pub first_later : (words : List Word) (i a : ℕ) (t token : List ℕ) → slice_get words i ≡ Some (word a t) → bytes_eq t token ≡ false → first_holder (drop i words) token ≡ first_holder (drop (suc i) words) token
first_later [] i a t token is other = absurd cc
first_later (w ∷ ws) zero a t token is other = let e : w ≡ word a t = cc in rw (e, other) refl
first_later (w ∷ ws) (suc i) a t token is other = first_later ws i a t token is other

pub last_here : (words : List Word) (i a : ℕ) (t token : List ℕ) → slice_get words i ≡ Some (word a t) → bytes_eq t token ≡ true → last_holder (take (suc i) words) token ≡ Some a
last_here [] i a t token is same = absurd cc
last_here (w ∷ ws) zero a t token is same = let e : w ≡ word a t = cc in rw (e, same) refl
last_here (w ∷ ws) (suc i) a t token is same = last_holder-cons w (take (suc i) ws) token ∙ ap (λ o. later_or o (last_holder (w ∷ []) token)) (last_here ws i a t token is same)

pub last_earlier : (words : List Word) (i a : ℕ) (t token : List ℕ) → slice_get words i ≡ Some (word a t) → bytes_eq t token ≡ false → last_holder (take (suc i) words) token ≡ last_holder (take i words) token
last_earlier [] i a t token is other = absurd cc
last_earlier (w ∷ ws) zero a t token is other = let e : w ≡ word a t = cc in rw (e, other) refl
last_earlier (w ∷ ws) (suc i) a t token is other =
    last_holder-cons w (take (suc i) ws) token ∙ ap (λ o. later_or o (last_holder (w ∷ []) token)) (last_earlier ws i a t token is other) ∙ sym (last_holder-cons w (take i ws) token)

-- the word at a place is the token at an address, or the words after it decide
pub holds_here : (words : List Word) (i a : ℕ) (t token : List ℕ) (p : ℕ) → slice_get words i ≡ Some (word a t) → is_word token p (word a t) ≡ true → holds (drop i words) token p ≡ true
holds_here [] i a t token p is same = absurd cc
holds_here (w ∷ ws) zero a t token p is same = let e : w ≡ word a t = cc in rw (e, same) refl
holds_here (w ∷ ws) (suc i) a t token p is same = holds_here ws i a t token p is same

pub holds_later : (words : List Word) (i a : ℕ) (t token : List ℕ) (p : ℕ) → slice_get words i ≡ Some (word a t) → is_word token p (word a t) ≡ false → holds (drop i words) token p ≡ holds (drop (suc i) words) token p
holds_later [] i a t token p is other = absurd cc
holds_later (w ∷ ws) zero a t token p is other = let e : w ≡ word a t = cc in rw (e, other) refl
holds_later (w ∷ ws) (suc i) a t token p is other = holds_later ws i a t token p is other
