-- Tables of terms in order: their postings determine them, in one way.
use Rattle.std.proofs.Common.{◌≡◌, ℕ, ◌<◌, false, List, [], ◌∷◌, length, bytes_eq, nat_cmp, Ordering, inl, inr, refl, sym, ap, ◌∙◌, subst, arith}
use Rattle.std.specs.declared.cmp.Ordering.TheVariants.{Less, Equal, Greater}
use Rattle.std.specs.Ordering.{ordering_reverse}
use Rattle.std.specs.Cmp.Lexicographic.{slice_cmp}
use Rattle.std.specs.List.{AllByRecursion}
use Rattle.std.proofs.lemmas.Bool.{cases_Bool}
use Rattle.std.proofs.lemmas.Cmp.{nat_list_cmp_total}
use Rattle.std.proofs.lemmas.Map.Lookups.{exact_bytes}
use Rattle.std.proofs.lemmas.Slice.Eq.{bytes_eq-Decides}
use Rattle.gcl_model.specs.Texts.{Word, places}
use Rattle.gcl_model.proofs.Lists.{all_both}
use Rattle.index_shard.specs.Tables.{TermEntry, ComesBefore, postings_of}
use Rattle.slot_terms.proofs.Passing.{AllAfter, after_earlier, after_missed, before_differs}
use Rattle.image_file.specs.Images.{AreTermsOf, TermsRise}

pub reversed : (a b : List ℕ) → slice_cmp nat_cmp a b ≡ Greater → ComesBefore b a
reversed a b is = nat_list_cmp_total.antisymm b a ∙ ap ordering_reverse is

pub own_first : (e : TermEntry) (es : List TermEntry) → postings_of (e ∷ es) e.term ≡ e.addresses
own_first e es = rw ((bytes_eq-Decides e.term e.term).1 refl) refl

-- an earlier term has no postings in a table
missed_in : (x y : TermEntry) (ys : List TermEntry) → ComesBefore x.term y.term → AllAfter y.term ys → postings_of (y ∷ ys) x.term ≡ []
missed_in x y ys before all = after_missed x.term (y ∷ ys) (before, after_earlier x.term y.term ys before all)

none_of_some : (xs : List ℕ) → 0 < length xs → xs ≡ [] → ⊥
none_of_some [] some is = absurd (omega arith)
none_of_some (x ∷ xs) some is = absurd cc

abbrev AreSome : List TermEntry → Type 0
AreSome es = AllByRecursion (λ e. 0 < length e.addresses) es

-- an entry is known by its term and its addresses
pub entry_is : (x y : TermEntry) → x.term ≡ y.term → x.addresses ≡ y.addresses → x ≡ y
entry_is x y term addresses =
    ap (λ t. record { term = t; addresses = x.addresses }) term ∙ ap (λ l. record { term = y.term; addresses = l }) addresses

same_rest : (x y : TermEntry) (xs ys : List TermEntry) (t : List ℕ) → x.term ≡ y.term → AllAfter x.term xs → AllAfter y.term ys →
    postings_of (x ∷ xs) t ≡ postings_of (y ∷ ys) t → postings_of xs t ≡ postings_of ys t
same_rest x y xs ys t same after other is = elim (cases_Bool (bytes_eq x.term t)) [
  | inl h ↦
      let at : x.term ≡ t = (bytes_eq-Decides x.term t).0 h in
      let one : postings_of xs t ≡ [] = subst (λ u. postings_of xs u ≡ []) at (after_missed x.term xs after) in
      let two : postings_of ys t ≡ [] = subst (λ u. postings_of ys u ≡ []) (sym same ∙ at) (after_missed y.term ys other) in
      one ∙ sym two
  | inr h ↦
      let g : bytes_eq y.term t ≡ false = ap (λ u. bytes_eq u t) (sym same) ∙ h in
      let is = rw (h, g) at is in is
]

-- two tables of terms with the same postings are the same
pub same_terms : (xs ys : List TermEntry) → TermsRise xs → TermsRise ys → AreSome xs → AreSome ys → ((t : List ℕ) → postings_of xs t ≡ postings_of ys t) → xs ≡ ys
same_terms [] [] rx ry sx sy same = refl
same_terms [] (y ∷ ys) rx ry sx sy same = absurd (none_of_some y.addresses sy.0 (sym (own_first y ys) ∙ sym (same y.term)))
same_terms (x ∷ xs) [] rx ry sx sy same = absurd (none_of_some x.addresses sx.0 (sym (own_first x xs) ∙ same x.term))
same_terms (x ∷ xs) (y ∷ ys) rx ry sx sy same =
    by_order (slice_cmp nat_cmp x.term y.term) refl (λ term. same_terms xs ys rx.1 ry.1 sx.1 sy.1 (λ t. same_rest x y xs ys t term rx.0 ry.0 (same t)))
  where
    by_order : (o : Ordering) → slice_cmp nat_cmp x.term y.term ≡ o → (x.term ≡ y.term → xs ≡ ys) → x ∷ xs ≡ y ∷ ys
    by_order Less is rest = absurd (none_of_some x.addresses sx.0 (sym (own_first x xs) ∙ same x.term ∙ missed_in x y ys is ry.0))
    by_order Greater is rest = absurd (none_of_some y.addresses sy.0 (sym (own_first y ys) ∙ sym (same y.term) ∙ missed_in y x xs (reversed x.term y.term is) rx.0))
    by_order Equal is rest =
        let term : x.term ≡ y.term = exact_bytes x.term y.term is in
        let addresses : x.addresses ≡ y.addresses = sym (own_first x xs) ∙ same x.term ∙ ap (postings_of (y ∷ ys)) term ∙ own_first y ys in
        ap (λ e. e ∷ xs) (entry_is x y term addresses) ∙ ap (λ es. y ∷ es) (rest term)

pub one_table : (words : List Word) (xs ys : List TermEntry) → AreTermsOf words xs → AreTermsOf words ys → xs ≡ ys
one_table words xs ys a b = same_terms xs ys a.rising b.rising a.some b.some (λ t. a.places t ∙ sym (b.places t))

-- each entry has the postings of its term
skipped : (e : TermEntry) (es ds : List TermEntry) → AllAfter e.term ds → AllByRecursion (λ (d : TermEntry). postings_of es d.term ≡ d.addresses) ds
    → AllByRecursion (λ (d : TermEntry). postings_of (e ∷ es) d.term ≡ d.addresses) ds
skipped e es ds after all =
    all_both (λ (d : TermEntry). ComesBefore e.term d.term) (λ (d : TermEntry). postings_of es d.term ≡ d.addresses) (λ (d : TermEntry). postings_of (e ∷ es) d.term ≡ d.addresses)
    (λ d before is. rw (before_differs e.term d.term before) is) ds after all

pub own_postings : (es : List TermEntry) → TermsRise es → AllByRecursion (λ (e : TermEntry). postings_of es e.term ≡ e.addresses) es
own_postings [] rise = tt
own_postings (e ∷ es) rise = (own_first e es, skipped e es es rise.0 (own_postings es rise.1))
