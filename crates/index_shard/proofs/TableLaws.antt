-- Tables of terms: one entry more, and the entry of a term.
use Rattle.std.proofs.Common.{◌≡◌, ℕ, zero, suc, ◌+◌, ◌<◌, true, false, cond, Bool, find, map, List, [], ◌∷◌, ◌++◌, length, get_or, nat_cmp, Ordering, bytes_eq, Option, None, Some, inl, inr, refl, sym, ap, ◌∙◌, subst, arith}
use Rattle.std.specs.declared.cmp.Ordering.TheVariants.{Less, Equal, Greater}
use Rattle.std.specs.Ordering.{is_eq, is_lt, ordering_reverse, ordering_index}
use Rattle.std.specs.Cmp.Lexicographic.{slice_cmp}
use Rattle.std.specs.List.{AllByRecursion, slice_get}
use Rattle.std.specs.List.Sorted.{IsNonDecreasingBy, IsPartitionPoint}
use Rattle.std.specs.Option.{IfSome, option_map}
use Rattle.std.proofs.lemmas.Cmp.{nat_list_cmp_total}
use Rattle.std.proofs.lemmas.Bool.{cases_lt, cases_Bool}
use Rattle.std.proofs.lemmas.List.Sorted.{searchable_from_sorted}
use Rattle.std.proofs.lemmas.Map.Lookups.{exact_bytes}
use Rattle.std.proofs.lemmas.Map.Text.{is_eq-slice_cmp}
use Rattle.gcl_model.specs.Slots.{SlotRange}
use Rattle.index_shard.specs.Tables.{TermEntry, ShardContent, IsShard, ComesBefore, AreApart, ArePostingsIn, Precedes, IsTable, last_entry, postings_of, addresses_at, place_of, comes_from, least_term}

-- what holds of all members and of one more
pub all_push : {X : Type 0} (P : X → Type 0) (xs : List X) (y : X) → AllByRecursion P xs → P y → AllByRecursion P (xs ++ y ∷ [])
all_push P [] y all p = (p, tt)
all_push P (x ∷ xs) y all p = (all.0, all_push P xs y all.1 p)

pub all_at : {X : Type 0} (P : X → Type 0) (xs : List X) (i : ℕ) (d : X) → AllByRecursion P xs → i < length xs → P (get_or xs i d)
all_at P [] i d all lt = absurd (omega arith)
all_at P (x ∷ xs) zero d all lt = all.0
all_at P (x ∷ xs) (suc i) d all lt = all_at P xs i d all.1 (omega arith)

-- what comes before a later entry comes before what the last entry comes before
before_last : (x y : TermEntry) (ys : List TermEntry) (e : TermEntry) → AllByRecursion (Precedes x) (y ∷ ys) → IfSome (last_entry (y ∷ ys)) (λ last. ComesBefore last.term e.term) → ComesBefore x.term e.term
before_last x y [] e all before = nat_list_cmp_total.trans x.term y.term e.term all.0.terms before
before_last x y (z ∷ zs) e all before = before_last x z zs e all.1 before

-- an entry whose term comes last, with addresses of its own, goes at the end
pub table_push : (range : SlotRange) (es : List TermEntry) (e : TermEntry) → IsTable range es → ArePostingsIn range e.addresses →
    IfSome (last_entry es) (λ last. ComesBefore last.term e.term) → AllByRecursion (λ d. AreApart d.addresses e.addresses) es → IsTable range (es ++ e ∷ [])
table_push range [] e table postings before apart = (postings, tt, tt)
table_push range (x ∷ []) e table postings before apart = (table.0, (record { terms = before; addresses = apart.0 }, tt), (postings, tt, tt))
table_push range (x ∷ y ∷ ys) e table postings before apart =
    let one : Precedes x e = record { terms = before_last x y ys e table.1 before; addresses = apart.0 } in
    (table.0, all_push (Precedes x) (y ∷ ys) e table.1 one, table_push range (y ∷ ys) e table.2 postings before apart.1)

-- an entry of a term and its addresses
abbrev pub term_entry : List ℕ → List ℕ → TermEntry
term_entry term addresses = record { term = term; addresses = addresses }

-- the entries of a maker after one term more
pub shard_push : (shard : ShardContent) (range : SlotRange) (es : List TermEntry) → record { range = range; table = es } ≡ shard → IsShard record { range = range; table = es } →
    (t term a addresses : List ℕ) → t ≡ term → a ≡ addresses → ArePostingsIn shard.range addresses → IfSome (last_entry shard.table) (λ last. ComesBefore last.term term) →
    AllByRecursion (λ d. AreApart d.addresses addresses) shard.table → (more : List TermEntry) → more ≡ es ++ record { term = t; addresses = a } ∷ [] → IsShard record { range = range; table = more }
shard_push shard range es same is t term a addresses et ea postings before apart more em =
    let ranges : shard.range ≡ range = sym (ap (λ s. s.range) same) in
    let tables : shard.table ≡ es = sym (ap (λ s. s.table) same) in
    let entry : TermEntry = record { term = term; addresses = addresses } in
    let whole : more ≡ es ++ entry ∷ [] = em ∙ ap (λ u. es ++ term_entry u a ∷ []) et ∙ ap (λ u. es ++ term_entry term u ∷ []) ea in
    let table =
    table_push range es entry is.table (subst (λ r. ArePostingsIn r addresses) ranges postings)
    (subst (λ l. IfSome (last_entry l) (λ last. ComesBefore last.term term)) tables before)
    (subst (λ l. AllByRecursion (λ d. AreApart d.addresses addresses) l) tables apart) in
    record { ordered = is.ordered; in_range = is.in_range; table = subst (IsTable range) (sym whole) table }

terms_rise : (range : SlotRange) (es : List TermEntry) → IsTable range es → (k j : ℕ) (d : TermEntry) → j ≡ k + 1 → j < length es → ComesBefore (get_or es k d).term (get_or es j d).term
terms_rise range [] table k j d is lt = absurd (omega arith)
terms_rise range (x ∷ []) table k j d is lt = absurd (omega arith)
terms_rise range (x ∷ y ∷ ys) table zero zero d is lt = absurd (omega arith)
terms_rise range (x ∷ y ∷ ys) table zero (suc zero) d is lt = table.1.0.terms
terms_rise range (x ∷ y ∷ ys) table zero (suc (suc j)) d is lt = absurd (omega arith)
terms_rise range (x ∷ y ∷ ys) table (suc k) zero d is lt = absurd (omega arith)
terms_rise range (x ∷ y ∷ ys) table (suc k) (suc j) d is lt = terms_rise range (y ∷ ys) table.2 k j d (omega arith) (omega arith)

not_before : (a b : List ℕ) → ComesBefore a b → is_lt (slice_cmp nat_cmp b a) ≡ false
not_before a b before = ap is_lt (nat_list_cmp_total.antisymm b a ∙ ap ordering_reverse before)

-- halving by the terms may search a table
pub searchable : (range : SlotRange) (es : List TermEntry) (term : List ℕ) → IsTable range es → IsNonDecreasingBy (λ e. ordering_index (slice_cmp nat_cmp e.term term)) es
searchable range es term table =
    searchable_from_sorted nat_list_cmp_total (λ e. e.term) es term
    (λ k d low lt. not_before (get_or es k d).term (get_or es (k + 1) d).term (terms_rise range es table k (k + 1) d refl lt))

pub same_term : (a b : List ℕ) (o : Ordering) → slice_cmp nat_cmp a b ≡ o → bytes_eq a b ≡ is_eq o
same_term a b o e = sym (is_eq-slice_cmp a b) ∙ ap is_eq e

pub postings_missed : (es : List TermEntry) (term : List ℕ) → ((k : ℕ) (d : TermEntry) → k < length es → bytes_eq (get_or es k d).term term ≡ false) → postings_of es term ≡ []
postings_missed [] term none = refl
postings_missed (x ∷ xs) term none = rw (none 0 x (omega arith)) (postings_missed xs term (λ k d lt. none (suc k) d (omega arith)))

-- halving that met an entry found its place
pub place_met : (range : SlotRange) (es : List TermEntry) (i : ℕ) (term : List ℕ) (d : TermEntry) → IsTable range es → i < length es →
    slice_cmp nat_cmp (get_or es i d).term term ≡ Equal → place_of es term ≡ Some i
place_met range [] i term d table lt met = absurd (omega arith)
place_met range (x ∷ xs) zero term d table lt met = rw (same_term x.term term Equal met) refl
place_met range (x ∷ xs) (suc i) term d table lt met =
    let y = get_or xs i d in
    let before : ComesBefore x.term y.term = (all_at (Precedes x) xs i d table.1 (omega arith)).terms in
    let same : y.term ≡ term = exact_bytes y.term term met in
    let less : slice_cmp nat_cmp x.term term ≡ Less = ap (slice_cmp nat_cmp x.term) (sym same) ∙ before in
    let next : i + 1 ≡ suc i = omega arith in
    rw (same_term x.term term Less less) (ap (option_map (λ i. i + 1)) (place_met range xs i term d table.2 (omega arith) met) ∙ ap Some next)

place_missed : (es : List TermEntry) (term : List ℕ) → ((k : ℕ) (d : TermEntry) → k < length es → bytes_eq (get_or es k d).term term ≡ false) → place_of es term ≡ None
place_missed [] term none = refl
place_missed (x ∷ xs) term none = rw (none 0 x (omega arith)) (ap (option_map (λ i. i + 1)) (place_missed xs term (λ k d lt. none (suc k) d (omega arith))))

pub place_parted : (es : List TermEntry) (i : ℕ) (term : List ℕ) →
    IsPartitionPoint (λ e. slice_cmp nat_cmp e.term term ≡ Less) (λ e. slice_cmp nat_cmp e.term term ≡ Greater) es i → place_of es term ≡ None
place_parted es i term parted =
    place_missed es term
    (λ k d lt.
    elim (cases_lt k i) [
      | inl h ↦ same_term (get_or es k d).term term Less (parted.0 k d (omega arith) h)
      | inr h ↦ same_term (get_or es k d).term term Greater (parted.1 k d h lt)
    ])

-- the postings at a term's place are the term's
abbrev AtPlace : List TermEntry → List ℕ → Option ℕ → Type 0
AtPlace es term None = postings_of es term ≡ []
AtPlace es term (Some i) = (i < length es) × (addresses_at es i ≡ postings_of es term)

at_place_later : (x : TermEntry) (xs : List TermEntry) (term : List ℕ) (o : Option ℕ) → bytes_eq x.term term ≡ false → AtPlace xs term o → AtPlace (x ∷ xs) term (option_map (λ i. i + 1) o)
at_place_later x xs term None differs at = rw differs at
at_place_later x xs term (Some i) differs at =
    let lt = at.0 in
    let next : suc i ≡ i + 1 = omega arith in
    (omega arith, ap (addresses_at (x ∷ xs)) (sym next) ∙ rw differs at.1)

at_place_here : (x : TermEntry) (xs : List TermEntry) (term : List ℕ) → bytes_eq x.term term ≡ true → AtPlace (x ∷ xs) term (Some 0)
at_place_here x xs term e = (omega arith, rw e refl)

at_place : (es : List TermEntry) (term : List ℕ) → AtPlace es term (place_of es term)
at_place [] term = refl
at_place (x ∷ xs) term =
    elim (cases_Bool (bytes_eq x.term term)) [
      | inl e ↦ let p : place_of (x ∷ xs) term ≡ Some 0 = rw e refl in subst (AtPlace (x ∷ xs) term) (sym p) (at_place_here x xs term e)
      | inr e ↦ let p : place_of (x ∷ xs) term ≡ option_map (λ i. i + 1) (place_of xs term) = rw e refl in
          subst (AtPlace (x ∷ xs) term) (sym p) (at_place_later x xs term (place_of xs term) e (at_place xs term))
    ]

pub at_no_place : (es : List TermEntry) (term : List ℕ) → place_of es term ≡ None → postings_of es term ≡ []
at_no_place es term e = subst (AtPlace es term) e (at_place es term)

pub at_its_place : (es : List TermEntry) (term : List ℕ) (i : ℕ) → place_of es term ≡ Some i → (i < length es) × (addresses_at es i ≡ postings_of es term)
at_its_place es term i e = subst (AtPlace es term) e (at_place es term)

-- the terms of some entries
abbrev pub names : List TermEntry → List (List ℕ)
names es = map (λ (entry : TermEntry). entry.term) es

-- if the terms before a place fail a test and the one there passes, it is the first that does
found_at : (p : List ℕ → Bool) (es : List TermEntry) (i : ℕ) → ((k : ℕ) (d : TermEntry) → k < i → k < length es → p (get_or es k d).term ≡ false) →
    ((d : TermEntry) → i < length es → p (get_or es i d).term ≡ true) → slice_get (names es) i ≡ find p (names es)
found_at p [] zero before there = refl
found_at p [] (suc i) before there = refl
found_at p (x ∷ xs) zero before there = rw (there x (omega arith)) refl
found_at p (x ∷ xs) (suc i) before there =
    rw (before 0 x (omega arith) (omega arith))
    (found_at p xs i (λ k d low lt. before (suc k) d (omega (arith, low)) (omega (arith, lt))) (λ d lt. there d (omega (arith, lt))))

earlier : (range : SlotRange) (es : List TermEntry) → IsTable range es → (k j : ℕ) (d : TermEntry) → k < j → j < length es → ComesBefore (get_or es k d).term (get_or es j d).term
earlier range [] table k j d low lt = absurd (omega (arith, lt))
earlier range (x ∷ xs) table k zero d low lt = absurd (omega (arith, low))
earlier range (x ∷ xs) table zero (suc j) d low lt = (all_at (Precedes x) xs j d table.1 (omega (arith, lt))).terms
earlier range (x ∷ xs) table (suc k) (suc j) d low lt = earlier range xs table.2 k j d (omega (arith, low)) (omega (arith, lt))

-- halving met the term itself
pub least_met : (range : SlotRange) (es : List TermEntry) (i : ℕ) (low : List ℕ) (strict : Bool) → IsTable range es → i < length es → ((d : TermEntry) → slice_cmp nat_cmp (get_or es i d).term low ≡ Equal) →
    slice_get (names es) (cond strict (i + 1) i) ≡ least_term es low strict
least_met range es i low false table lt met =
    found_at (λ term. comes_from false (slice_cmp nat_cmp term low)) es i
    (λ k d below inside.
    let less : slice_cmp nat_cmp (get_or es k d).term low ≡ Less = ap (slice_cmp nat_cmp (get_or es k d).term) (sym (exact_bytes (get_or es i d).term low (met d))) ∙ earlier range es table k i d below lt in
    ap (comes_from false) less)
    (λ d inside. ap (comes_from false) (met d))
least_met range es i low true table lt met =
    found_at (λ term. comes_from true (slice_cmp nat_cmp term low)) es (i + 1)
    (λ k d below inside.
    elim (cases_lt k i) [
      | inl before ↦
          let less : slice_cmp nat_cmp (get_or es k d).term low ≡ Less = ap (slice_cmp nat_cmp (get_or es k d).term) (sym (exact_bytes (get_or es i d).term low (met d))) ∙ earlier range es table k i d before lt in
          ap (comes_from true) less
      | inr past ↦
          let same : k ≡ i = omega (arith, below, past) in
          ap (λ n. comes_from true (slice_cmp nat_cmp (get_or es n d).term low)) same ∙ ap (comes_from true) (met d)
    ])
    (λ d inside.
    let after : ComesBefore low (get_or es (i + 1) d).term = ap (λ t. slice_cmp nat_cmp t (get_or es (i + 1) d).term) (sym (exact_bytes (get_or es i d).term low (met d))) ∙ earlier range es table i (i + 1) d (omega arith) inside in
    ap (comes_from true) (nat_list_cmp_total.antisymm (get_or es (i + 1) d).term low ∙ ap ordering_reverse after))

-- halving ended between the lesser and the greater terms
pub least_parted : (es : List TermEntry) (i : ℕ) (low : List ℕ) (strict : Bool) →
    IsPartitionPoint (λ e. slice_cmp nat_cmp e.term low ≡ Less) (λ e. slice_cmp nat_cmp e.term low ≡ Greater) es i → slice_get (names es) i ≡ least_term es low strict
least_parted es i low strict parted =
    found_at (λ term. comes_from strict (slice_cmp nat_cmp term low)) es i
    (λ k d below inside. ap (comes_from strict) (parted.0 k d (omega arith) below))
    (λ d inside. ap (comes_from strict) (parted.1 i d (omega arith) inside))
