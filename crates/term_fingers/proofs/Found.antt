-- What a member of a list says of a whole version, if nothing of its slot is dead.
use Rattle.std.proofs.Common.{◌≡◌, ℕ, zero, suc, ◌<◌, ◌⊎◌, true, false, ◌&&◌, eqb, List, [], ◌∷◌, length, take, filter, get_or, Option, Some, None, slice_get, inl, inr, refl, sym, ap, ◌∙◌, subst, arith, bytes_eq}
use Rattle.std.specs.Option.{option_map}
use Rattle.std.proofs.lemmas.Bool.{cases_Bool, or_left, or_right, and_from, eq-eqb}
use Rattle.std.proofs.lemmas.List.Folds.{list_any-append}
use Rattle.gcl_model.specs.Texts.{Word, is_word, holds, places}
use Rattle.gcl_model.proofs.Lists.{filter_all}
use Rattle.posting_code.specs.Postings.{block_of}
use Rattle.index_shard.specs.Tables.{postings_of}
use Rattle.live_version.specs.Contents.{SlotContent, VersionContent, IsVersion, live_words, live_of}
use Rattle.live_version.specs.LookUps.{is_alive}
use Rattle.live_version.proofs.WordLemmas.{live_places}
use Rattle.term_fingers.specs.Lists.{HasNoDead, IsAt, addresses_in, list_of, places_of}
use Rattle.term_fingers.proofs.Beside.{at_of_block, list_is, slot_is}

-- a member of a block is one of the list
pub in_list : (xs part : List ℕ) (b p : ℕ) → part ≡ block_of xs b → IsAt part p → IsAt xs p
in_list xs part b p is at = subst (IsAt xs) at.is (at_of_block xs part b at.place is at.within)

-- a member is the first one, or one of those after it
pub first_or_behind : (x : ℕ) (xs : List ℕ) (p : ℕ) → IsAt (x ∷ xs) p → (x ≡ p) ⊎ IsAt xs p
first_or_behind x xs p at = by_place at.place at.within at.is
  where
    by_place : (n : ℕ) → n < length (x ∷ xs) → get_or (x ∷ xs) n 0 ≡ p → (x ≡ p) ⊎ IsAt xs p
    by_place zero within is = inl is
    by_place (suc n) within is = inr record { place = n; within = omega (arith, within); is = is }

-- a token is at each of its places
place_is_held : (words : List Word) (token : List ℕ) (p : ℕ) → IsAt (places words token) p → holds words token p ≡ true
place_is_held [] token p = λ at. absurd (omega (arith, at.within))
place_is_held (w ∷ ws) token p =
    let rest = place_is_held ws token p in
    elim (cases_Bool (bytes_eq w.token token)) [
      | inl b ↦ rw b (λ at.
          elim (first_or_behind w.address (places ws token) p at) [
            | inl here ↦ or_left (eqb w.address p && true) (holds ws token p) (and_from (eqb w.address p) true (eq-eqb w.address p here) refl)
            | inr behind ↦ or_right (eqb w.address p && true) (holds ws token p) (rest behind)
          ])
      | inr b ↦ rw b (λ at. or_right (eqb w.address p && false) (holds ws token p) (rest at))
    ]

-- a token that is in one slot is in all slots together
held_in_all : (slots : List SlotContent) (number : ℕ) (slot : SlotContent) (token : List ℕ) (p : ℕ) → slice_get slots number ≡ Some slot → holds (live_words slot) token p ≡ true → holds (live_of slots) token p ≡ true
held_in_all [] zero slot token p at held = absurd cc
held_in_all [] (suc number) slot token p at held = absurd cc
held_in_all (x ∷ xs) zero slot token p at held =
    let same : x ≡ slot = cc in
    list_any-append (is_word token p) (live_words x) (live_of xs)
    ∙ or_left (holds (live_words x) token p) (holds (live_of xs) token p) (subst (λ (s : SlotContent). holds (live_words s) token p ≡ true) (sym same) held)
held_in_all (x ∷ xs) (suc number) slot token p at held =
    let rest = held_in_all xs number slot token p at held in
    list_any-append (is_word token p) (live_words x) (live_of xs) ∙ or_right (holds (live_words x) token p) (holds (live_of xs) token p) rest

-- so a member of a term's list is in the version, if nothing of the slot is dead
pub version_holds : (v : VersionContent) (number place : ℕ) (term : List ℕ) (found : List (Option ℕ)) (p : ℕ) → IsVersion v → take (length v.slots) found ≡ places_of term v.slots →
    slice_get found number ≡ Some (Some place) → HasNoDead v.slots number → IsAt (list_of v.slots number place) p → holds (live_of v.slots) term p ≡ true
version_holds v number place term found p is all here whole member = by_slot (slice_get v.slots number) refl
  where
    by_slot : (o : Option SlotContent) → slice_get v.slots number ≡ o → holds (live_of v.slots) term p ≡ true
    by_slot None at =
        let none : list_of v.slots number place ≡ [] = ap (λ o. addresses_in (option_map (λ (slot : SlotContent). slot.shard) o) place) at in
        let nothing = subst (λ ps. IsAt ps p) none member in
        absurd (omega (arith, nothing.within))
    by_slot (Some slot) at =
        let good = slot_is v number slot is at in
        let posting = subst (λ ps. IsAt ps p) (list_is v is number slot at term place found all here) member in
        let live : places (live_words slot) term ≡ postings_of slot.shard.table term = live_places slot term good ∙ alive slot (whole slot at) in
        held_in_all v.slots number slot term p at (place_is_held (live_words slot) term p (subst (λ ps. IsAt ps p) (sym live) posting))
      where
        alive : (slot : SlotContent) → slot.mask ≡ [] → filter (is_alive slot.mask) (postings_of slot.shard.table term) ≡ postings_of slot.shard.table term
        alive slot none = ap (λ mask. filter (is_alive mask) (postings_of slot.shard.table term)) none ∙ filter_all (postings_of slot.shard.table term)
