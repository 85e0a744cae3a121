-- What the index of a slot has of the words of its version.
use Rattle.std.proofs.Common.{◌≡◌, ℕ, ◌≤◌, Bool, true, not, eqb, List, [], ◌∷◌, filter, slice_get, Some, bytes_eq, inl, inr, sym, ap, ◌∙◌, subst}
use Rattle.std.proofs.lemmas.Bool.{cases_Bool, or_cases, or_left, or_right, and_parts, eqb-true}
use Rattle.gcl_model.specs.Texts.{Word, is_word, holds}
use Rattle.index_shard.specs.Tables.{words_of}
use Rattle.delete_mask.specs.Masks.{is_dead, is_within}
use Rattle.delete_mask.proofs.MaskLemmas.{is_within-inside}
use Rattle.live_version.specs.Contents.{SlotContent, VersionContent, IsVersion, live_of}
use Rattle.live_version.proofs.PartLaws.{slots_are_parts}

-- a filter by address keeps what holds a token at an address that passes
holds_kept : (test : ℕ → Bool) (words : List Word) (token : List ℕ) (p : ℕ) → test p ≡ true → holds words token p ≡ true → holds (filter (λ w. test w.address) words) token p ≡ true
holds_kept test [] token p passes held = held
holds_kept test (w ∷ ws) token p passes held =
    elim (or_cases (is_word token p w) (holds ws token p) held) [
      | inl h ↦
          let at = eqb-true w.address p (and_parts (eqb w.address p) (bytes_eq w.token token) h).0 in
          rw (ap test at ∙ passes) (or_left (is_word token p w) (holds (filter (λ x. test x.address) ws) token p) h)
      | inr h ↦
          let rest = holds_kept test ws token p passes h in
          elim (cases_Bool (test w.address)) [ inl e ↦ rw e (or_right (is_word token p w) (holds (filter (λ x. test x.address) ws) token p) rest) | inr e ↦ rw e rest ]
    ]

-- what holds a token among the words that pass a test holds it among all
holds_whole : (test : Word → Bool) (words : List Word) (token : List ℕ) (p : ℕ) → holds (filter test words) token p ≡ true → holds words token p ≡ true
holds_whole test [] token p held = held
holds_whole test (w ∷ ws) token p held =
    elim (cases_Bool (test w)) [
      | inl e ↦ elim (or_cases (is_word token p w) (holds (filter test ws) token p) (rw e at held)) [
        | inl h ↦ or_left (is_word token p w) (holds ws token p) h
        | inr h ↦ or_right (is_word token p w) (holds ws token p) (holds_whole test ws token p h)
      ]
      | inr e ↦ or_right (is_word token p w) (holds ws token p) (holds_whole test ws token p (rw e at held))
    ]

-- an address of a slot's range that holds a token in the version holds it in the slot's index, too
pub held_in_slot : (v : VersionContent) (i : ℕ) (slot : SlotContent) (token : List ℕ) (p : ℕ) → IsVersion v → slice_get v.slots i ≡ Some slot → slot.range.first ≤ p → p ≤ slot.range.last →
    holds (live_of v.slots) token p ≡ true → holds (words_of slot.shard) token p ≡ true
held_in_slot v i slot token p is at from upto held =
    let part = slots_are_parts v i slot is at in
    holds_whole (λ w. not (is_dead slot.mask w.address)) (words_of slot.shard) token p
    (subst (λ ws. holds ws token p ≡ true) (sym part.words) (holds_kept (is_within slot.range) (live_of v.slots) token p (is_within-inside slot.range p from upto) held))
