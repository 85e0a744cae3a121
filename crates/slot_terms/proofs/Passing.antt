-- Past a term that no part has a lesser one than.
use Rattle.std.proofs.Common.{◌≡◌, ℕ, ◌<◌, ◌≤◌, true, false, List, [], ◌∷◌, ◌++◌, length, map, flat_map, bytes_eq, Some, None, inl, inr, refl, sym, ap, ◌∙◌, subst, arith, le_refl}
use Rattle.std.specs.declared.cmp.Ordering.TheVariants.{Less, Greater}
use Rattle.std.specs.Ordering.{ordering_reverse}
use Rattle.std.specs.List.{AllByRecursion, list_any}
use Rattle.std.proofs.lemmas.Bool.{true≢false, cases_Bool, or_cases}
use Rattle.std.proofs.lemmas.Cmp.{nat_list_cmp_total}
use Rattle.std.proofs.lemmas.Slice.Eq.{bytes_eq-Decides}
use Rattle.gcl_model.specs.Slots.{SlotRange}
use Rattle.index_shard.specs.Tables.{TermEntry, ComesBefore, Precedes, IsTable, postings_of}
use Rattle.index_shard.proofs.TableLaws.{same_term}
use Rattle.slot_terms.specs.Parts.{PartContent, alive, postings_left, entries_left, IsPart, head_term, is_headed, head_postings, behind, past, IsNoLater, NoneEarlier, IsNext}

-- all entries come after the term
abbrev pub AllAfter : List ℕ → List TermEntry → Type 0
AllAfter term es = AllByRecursion (λ e. ComesBefore term e.term) es

pub before_differs : (a b : List ℕ) → ComesBefore a b → bytes_eq a b ≡ false
before_differs a b before = same_term a b Less before

pub after_differs : (a b : List ℕ) → ComesBefore a b → bytes_eq b a ≡ false
after_differs a b before = same_term b a Greater (nat_list_cmp_total.antisymm b a ∙ ap ordering_reverse before)

-- a term that comes before all entries has no postings
pub after_missed : (term : List ℕ) (es : List TermEntry) → AllAfter term es → postings_of es term ≡ []
after_missed term [] all = refl
after_missed term (e ∷ es) all = rw (after_differs term e.term all.0) (after_missed term es all.1)

after_entry : (e : TermEntry) (es : List TermEntry) → AllByRecursion (Precedes e) es → AllAfter e.term es
after_entry e [] all = tt
after_entry e (d ∷ ds) all = (all.0.terms, after_entry e ds all.1)

-- what comes after a term comes after each earlier one
pub after_earlier : (a b : List ℕ) (es : List TermEntry) → ComesBefore a b → AllAfter b es → AllAfter a es
after_earlier a b [] before all = tt
after_earlier a b (e ∷ es) before all = (nat_list_cmp_total.trans a b e.term before all.0, after_earlier a b es before all.1)

-- what going past a term gives, and where it leaves
record IsPast (term : List ℕ) (left : List TermEntry) : Type 0 where
  pub postings : head_postings left term ≡ postings_of left term
  pub after : AllAfter term (behind left term)

is_past : (range : SlotRange) (left : List TermEntry) (term : List ℕ) → IsTable range left → IsNoLater (Some term) (head_term left) → IsPast term left
is_past range [] term table no_later = record { postings = refl; after = tt }
is_past range (e ∷ es) term table no_later =
    let rest = after_entry e es table.1 in
    elim (cases_Bool (bytes_eq e.term term)) [
      | inl h ↦
          let same : e.term ≡ term = (bytes_eq-Decides e.term term).0 h in
          record { postings = rw h refl; after = rw h (subst (λ t. AllAfter t es) same rest) }
      | inr h ↦ elim no_later [
        | inl same ↦ absurd (true≢false (sym ((bytes_eq-Decides e.term term).1 (sym same)) ∙ h))
        | inr before ↦
            let all = after_earlier term e.term es before rest in
            record { postings = rw h (sym (after_missed term es all)); after = rw h (before, all) }
      ]
    ]

behind_others : (left : List TermEntry) (term other : List ℕ) → bytes_eq term other ≡ false → postings_of (behind left term) other ≡ postings_of left other
behind_others [] term other differs = refl
behind_others (e ∷ es) term other differs =
    elim (cases_Bool (bytes_eq e.term term)) [
      | inl h ↦
          let head : bytes_eq e.term other ≡ false = ap (λ t. bytes_eq t other) ((bytes_eq-Decides e.term term).0 h) ∙ differs in
          rw (h, head) refl
      | inr h ↦ rw h refl
    ]

behind_table : (range : SlotRange) (left : List TermEntry) (term : List ℕ) → IsTable range left → IsTable range (behind left term)
behind_table range [] term table = tt
behind_table range (e ∷ es) term table = elim (cases_Bool (bytes_eq e.term term)) [ inl h ↦ rw h table.2 | inr h ↦ rw h table ]

behind_after : (left : List TermEntry) (term before : List ℕ) → AllAfter before left → AllAfter before (behind left term)
behind_after [] term before all = tt
behind_after (e ∷ es) term before all = elim (cases_Bool (bytes_eq e.term term)) [ inl h ↦ rw h all.1 | inr h ↦ rw h all ]

behind_fewer : (left : List TermEntry) (term : List ℕ) → length (behind left term) ≤ length left
behind_fewer [] term = le_refl 0
behind_fewer (e ∷ es) term = elim (cases_Bool (bytes_eq e.term term)) [ inl h ↦ rw h (omega arith) | inr h ↦ rw h (le_refl (length (e ∷ es))) ]

headed_fewer : (left : List TermEntry) (term : List ℕ) → is_headed left term ≡ true → length (behind left term) < length left
headed_fewer [] term is = absurd cc
headed_fewer (e ∷ es) term is = rw is (omega arith)

headed_after : (left : List TermEntry) (term before : List ℕ) → is_headed left term ≡ true → AllAfter before left → ComesBefore before term
headed_after [] term before is all = absurd cc
headed_after (e ∷ es) term before is all = subst (ComesBefore before) ((bytes_eq-Decides e.term term).0 is) all.0

-- the same of all parts

abbrev pub AllPartsAfter : List ℕ → List PartContent → Type 0
AllPartsAfter term parts = AllByRecursion (λ part. AllAfter term part.left) parts

pub heads_postings : (parts : List PartContent) (term : List ℕ) → AllByRecursion IsPart parts → NoneEarlier term parts →
    flat_map (λ part. alive part.mask (head_postings part.left term)) parts ≡ postings_left parts term
heads_postings [] term tables least = refl
heads_postings (part ∷ parts) term tables least =
    let here = is_past tables.0.0 part.left term tables.0.1 least.0 in
    ap (λ l. alive part.mask l ++ flat_map (λ p. alive p.mask (head_postings p.left term)) parts) here.postings
    ∙ ap (λ l. alive part.mask (postings_of part.left term) ++ l) (heads_postings parts term tables.1 least.1)

pub past_after : (parts : List PartContent) (term : List ℕ) → AllByRecursion IsPart parts → NoneEarlier term parts → AllPartsAfter term (map (past term) parts)
past_after [] term tables least = tt
past_after (part ∷ parts) term tables least = ((is_past tables.0.0 part.left term tables.0.1 least.0).after, past_after parts term tables.1 least.1)

pub after_none_left : (parts : List PartContent) (term : List ℕ) → AllPartsAfter term parts → postings_left parts term ≡ []
after_none_left [] term all = refl
after_none_left (part ∷ parts) term all =
    ap (λ l. alive part.mask l ++ postings_left parts term) (after_missed term part.left all.0) ∙ after_none_left parts term all.1

pub past_others : (parts : List PartContent) (term other : List ℕ) → bytes_eq term other ≡ false → postings_left (map (past term) parts) other ≡ postings_left parts other
past_others [] term other differs = refl
past_others (part ∷ parts) term other differs =
    ap (λ l. alive part.mask l ++ postings_left (map (past term) parts) other) (behind_others part.left term other differs)
    ∙ ap (λ l. alive part.mask (postings_of part.left other) ++ l) (past_others parts term other differs)

pub past_tables : (parts : List PartContent) (term : List ℕ) → AllByRecursion IsPart parts → AllByRecursion IsPart (map (past term) parts)
past_tables [] term tables = tt
past_tables (part ∷ parts) term tables = ((tables.0.0, behind_table tables.0.0 part.left term tables.0.1), past_tables parts term tables.1)

pub past_keeps_after : (parts : List PartContent) (term before : List ℕ) → AllPartsAfter before parts → AllPartsAfter before (map (past term) parts)
past_keeps_after [] term before all = tt
past_keeps_after (part ∷ parts) term before all = (behind_after part.left term before all.0, past_keeps_after parts term before all.1)

past_no_more : (parts : List PartContent) (term : List ℕ) → entries_left (map (past term) parts) ≤ entries_left parts
past_no_more [] term = le_refl 0
past_no_more (part ∷ parts) term = let here = behind_fewer part.left term in let rest = past_no_more parts term in omega arith

-- there is less to come after a term that some part has first
pub past_fewer : (parts : List PartContent) (term : List ℕ) → list_any (λ part. is_headed part.left term) parts ≡ true → entries_left (map (past term) parts) < entries_left parts
past_fewer [] term any = absurd cc
past_fewer (part ∷ parts) term any =
    elim (or_cases (is_headed part.left term) (list_any (λ p. is_headed p.left term) parts) any) [
      | inl h ↦ let here = headed_fewer part.left term h in let rest = past_no_more parts term in omega arith
      | inr h ↦ let here = behind_fewer part.left term in let rest = past_fewer parts term h in omega arith
    ]

pub member_after : (parts : List PartContent) (term before : List ℕ) → list_any (λ part. is_headed part.left term) parts ≡ true → AllPartsAfter before parts → ComesBefore before term
member_after [] term before any all = absurd cc
member_after (part ∷ parts) term before any all =
    elim (or_cases (is_headed part.left term) (list_any (λ p. is_headed p.left term) parts) any) [
      | inl h ↦ headed_after part.left term before h all.0
      | inr h ↦ member_after parts term before h all.1
    ]

-- if no part has a first term, nothing is left
pub none_left : (parts : List PartContent) (term : List ℕ) → AllByRecursion (λ part. IsNoLater None (head_term part.left)) parts → postings_left parts term ≡ []
none_left [] term all = refl
none_left (part ∷ parts) term all =
    let here : part.left ≡ [] = no_entries part.left all.0 in
    ap (λ l. alive part.mask (postings_of l term) ++ postings_left parts term) here ∙ none_left parts term all.1
  where
    no_entries : (left : List TermEntry) → IsNoLater None (head_term left) → left ≡ []
    no_entries [] none = refl
    no_entries (e ∷ es) none = absurd none

-- what was put of a term is all of it
pub next_of : (parts : List PartContent) (term cleared addresses : List ℕ) → AllByRecursion IsPart parts → NoneEarlier term parts → list_any (λ part. is_headed part.left term) parts ≡ true →
    cleared ≡ [] → addresses ≡ cleared ++ flat_map (λ part. alive part.mask (head_postings part.left term)) parts → IsNext parts term addresses
next_of parts term cleared addresses tables least member none put = record {
  least = least;
  member = member;
  all = put ∙ ap (λ l. l ++ flat_map (λ part. alive part.mask (head_postings part.left term)) parts) none ∙ heads_postings parts term tables least;
}
