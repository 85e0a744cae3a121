-- The first entry of what is still to come, by the first bytes of its term.
use Rattle.std.proofs.Common.{◌≡◌, ℕ, zero, suc, ◌+◌, true, List, [], ◌∷◌, ◌++◌, map, drop, slice_get, nat_cmp, Ordering, Some, IfSome, option_map, refl, sym, ap, ◌∙◌, subst, arith}
use Rattle.std.specs.declared.cmp.Ordering.TheVariants.{Less, Equal, Greater}
use Rattle.std.specs.Ordering.{ordering_then}
use Rattle.std.specs.Cmp.Lexicographic.{slice_cmp}
use Rattle.std.specs.List.{concat}
use Rattle.std.proofs.lemmas.List.{append-nil}
use Rattle.std.proofs.lemmas.List.Folds.{concat-append}
use Rattle.index_shard.specs.Kept.{AreBytes, leading}
use Rattle.index_shard.specs.Tables.{TermEntry, addresses_at}
use Rattle.index_shard.proofs.Heads.{heads_first}
use Rattle.slot_terms.specs.Parts.{PartContent, behind, is_headed, past}
use Rattle.slot_terms.specs.Firsts.{IsFirst, IsFirstOf}
use Rattle.slot_terms.specs.declared.first.First.{First}
use Rattle.slot_terms.proofs.Heads.{head_at, part_content}

-- what is left starting at the next place is what is left without the first
pub left_next : (es : List TermEntry) (n next : ℕ) → next ≡ n + 1 → drop next es ≡ drop 1 (drop n es)
left_next es n zero after = absurd (omega arith)
left_next [] zero (suc next) after = refl
left_next [] (suc n) (suc next) after = refl
left_next (e ∷ es) zero (suc zero) after = refl
left_next (e ∷ es) zero (suc (suc next)) after = absurd (omega arith)
left_next (e ∷ es) (suc n) (suc next) after = left_next es n next (omega arith)

-- then it alone goes
pub past_headed : (part : PartContent) (term : List ℕ) → is_headed part.left term ≡ true → record part { left = drop 1 part.left } ≡ past term part
past_headed part term is = ap (part_content part.mask) (sym (gone part.left is))
  where
    gone : (left : List TermEntry) → is_headed left term ≡ true → behind left term ≡ drop 1 left
    gone [] h = absurd cc
    gone (e ∷ es) h = rw h refl

-- the first of what is left starting at a place has the addresses at the place
pub addresses_from : (es : List TermEntry) (n : ℕ) → addresses_at (drop n es) 0 ≡ addresses_at es n
addresses_from [] zero = refl
addresses_from [] (suc n) = refl
addresses_from (e ∷ es) zero = refl
addresses_from (e ∷ es) (suc n) = addresses_from es n

-- what the index shows of the term at a place
pub first_at : (es : List TermEntry) (n : ℕ) (first : First) → option_map (leading 8 0) (slice_get (map (λ e. e.term) es) n) ≡ Some first.head → IfSome (slice_get (map (λ e. e.term) es) n) AreBytes →
    slice_get (map (λ e. e.term) es) n ≡ Some first.term.now → IsFirstOf (drop n es) (Some first)
first_at es n first value bytes is =
    let head : leading 8 0 first.term.now ≡ first.head = cc in
    record { term = head_at es n first.term.now is; told = record { head = sym head; bytes = subst (λ o. IfSome o AreBytes) is bytes } }

-- if the numbers differ, they decide the order
pub order_told : (own other : First) (o : Ordering) → IsFirst own → IsFirst other → o ≡ nat_cmp own.head other.head → (o ≡ Equal → ⊥) → o ≡ slice_cmp nat_cmp own.term.now other.term.now
order_told own other o mine yours told differs =
    let x = slice_cmp nat_cmp own.term.now other.term.now in
    alone o x differs
    ∙ ap (λ p. ordering_then p x) told
    ∙ ap (λ h. ordering_then (nat_cmp h other.head) x) mine.head
    ∙ ap (λ h. ordering_then (nat_cmp (leading 8 0 own.term.now) h) x) yours.head
    ∙ heads_first 8 own.term.now other.term.now mine.bytes yours.bytes
  where
    alone : (o x : Ordering) → (o ≡ Equal → ⊥) → o ≡ ordering_then o x
    alone Less x differs = refl
    alone Equal x differs = absurd (differs refl)
    alone Greater x differs = refl

-- one list more of several that are lent
pub concat_push : (lists : List (List ℕ)) (list : List ℕ) → concat (lists ++ list ∷ []) ≡ concat lists ++ list
concat_push lists list = concat-append lists (list ∷ []) ∙ ap (λ l. concat lists ++ l) (append-nil list)
