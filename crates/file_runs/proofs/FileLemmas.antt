-- Files by id and by place.
use Rattle.std.proofs.Common.{◌≡◌, ℕ, zero, suc, ◌+◌, ◌<◌, false, eqb, List, [], ◌∷◌, ◌++◌, length, get_or, find, slice_get, nat_cmp, Option, Some, None, inl, inr, refl, sym, ap, ◌∙◌, arith}
use Rattle.std.specs.declared.cmp.Ordering.TheVariants.{Less, Equal, Greater}
use Rattle.std.specs.Ordering.{is_lt, ordering_index}
use Rattle.std.specs.List.{AllByRecursion}
use Rattle.std.specs.List.Sorted.{IsNonDecreasingBy, IsPartitionPoint}
use Rattle.std.specs.Option.{option_or}
use Rattle.std.proofs.lemmas.Bool.{cases_lt, eq-eqb, ne_eqb}
use Rattle.std.proofs.lemmas.Bool.Decides.{nat_tests}
use Rattle.std.proofs.lemmas.Cmp.{nat_cmp_total}
use Rattle.std.proofs.lemmas.List.Folds.{find-append}
use Rattle.std.proofs.lemmas.List.Sorted.{searchable_from_sorted}
use Rattle.std.proofs.lemmas.Map.Lookups.{exact_unsigned}
use Rattle.address_space.specs.Runs.{FileEntry, IsFileRun, Precedes}

-- the file with this id
abbrev pub file_with_id : ℕ → List FileEntry → Option FileEntry
file_with_id id files = find (λ file. eqb file.id id) files

-- what holds of all members holds of the one at a place
pub all_at : {X : Type 0} (P : X → Type 0) (xs : List X) (k : ℕ) (d : X) → AllByRecursion P xs → k < length xs → P (get_or xs k d)
all_at P [] k d h lt = absurd (omega arith)
all_at P (x ∷ xs) zero d h lt = h.0
all_at P (x ∷ xs) (suc k) d h lt = all_at P xs k d h.1 (omega arith)

not_less : (a b : ℕ) → b < a → is_lt (nat_cmp a b) ≡ false
not_less a b lt = grind (arith, nat_tests)

less_differs : (a b : ℕ) → nat_cmp a b ≡ Less → a ≡ b → ⊥
less_differs a b e same = grind (arith, nat_tests)

greater_differs : (a b : ℕ) → nat_cmp a b ≡ Greater → a ≡ b → ⊥
greater_differs a b e same = grind (arith, nat_tests)

ids_rise : (files : List FileEntry) → IsFileRun files → (k j : ℕ) (d : FileEntry) → j ≡ k + 1 → j < length files → (get_or files k d).id < (get_or files j d).id
ids_rise [] run k j d is lt = absurd (omega arith)
ids_rise (file ∷ files) run zero zero d is lt = absurd (omega arith)
ids_rise (file ∷ files) run zero (suc j) d is lt = (all_at (Precedes file) files j d run.1 (omega arith)).ids
ids_rise (file ∷ files) run (suc k) zero d is lt = absurd (omega arith)
ids_rise (file ∷ files) run (suc k) (suc j) d is lt = ids_rise files run.2 k j d (omega arith) (omega arith)

-- halving by the ids may search a run
pub searchable : (files : List FileEntry) (id : ℕ) → IsFileRun files → IsNonDecreasingBy (λ file. ordering_index (nat_cmp file.id id)) files
searchable files id run =
    searchable_from_sorted nat_cmp_total (λ (file : FileEntry). file.id) files id
    (λ k d low lt. not_less (get_or files (k + 1) d).id (get_or files k d).id (ids_rise files run k (k + 1) d refl lt))

-- the file that halving met
pub file_met : (files : List FileEntry) (id i : ℕ) (d : FileEntry) → IsFileRun files → i < length files → nat_cmp (get_or files i d).id id ≡ Equal → file_with_id id files ≡ Some (get_or files i d)
file_met [] id i d run lt met = absurd (omega arith)
file_met (file ∷ files) id zero d run lt met = rw (eq-eqb file.id id (exact_unsigned file.id id met)) refl
file_met (file ∷ files) id (suc i) d run lt met =
    let before = (all_at (Precedes file) files i d run.1 (omega arith)).ids in
    let same = exact_unsigned (get_or files i d).id id met in
    rw (ne_eqb file.id id (λ e. absurd (omega arith))) (file_met files id i d run.2 (omega arith) met)

missed : (files : List FileEntry) (id : ℕ) → ((k : ℕ) (d : FileEntry) → k < length files → (get_or files k d).id ≡ id → ⊥) → file_with_id id files ≡ None
missed [] id none = refl
missed (file ∷ files) id none = rw (ne_eqb file.id id (none 0 file (omega arith))) (missed files id (λ k d lt. none (suc k) d (omega arith)))

-- if halving ends between the lesser and the greater ids, no file has the id
pub file_missed : (files : List FileEntry) (id i : ℕ) → IsPartitionPoint (λ file. nat_cmp file.id id ≡ Less) (λ file. nat_cmp file.id id ≡ Greater) files i → file_with_id id files ≡ None
file_missed files id i parted =
    missed files id
    (λ k d lt.
    elim (cases_lt k i) [
      | inl h ↦ less_differs (get_or files k d).id id (parted.0 k d (omega arith) h)
      | inr h ↦ greater_differs (get_or files k d).id id (parted.1 k d h lt)
    ])

pub find_in_first : (files rest : List FileEntry) (id : ℕ) (file : FileEntry) → file_with_id id files ≡ Some file → file_with_id id (files ++ rest) ≡ Some file
find_in_first files rest id file is = find-append (λ f. eqb f.id id) files rest ∙ ap (λ o. option_or o (file_with_id id rest)) is

pub find_in_rest : (files rest : List FileEntry) (id : ℕ) → file_with_id id files ≡ None → file_with_id id (files ++ rest) ≡ file_with_id id rest
find_in_rest files rest id none = find-append (λ f. eqb f.id id) files rest ∙ ap (λ o. option_or o (file_with_id id rest)) none

pub at_in_first : (files rest : List FileEntry) (i : ℕ) (file : FileEntry) → i < length files → file ≡ get_or files i file → slice_get (files ++ rest) i ≡ Some file
at_in_first [] rest i file lt is = absurd (omega arith)
at_in_first (x ∷ xs) rest zero file lt is = ap Some (sym is)
at_in_first (x ∷ xs) rest (suc i) file lt is = at_in_first xs rest i file (omega arith) is

pub at_in_rest : (files rest : List FileEntry) (i j : ℕ) → j + length files ≡ i → slice_get (files ++ rest) i ≡ slice_get rest j
at_in_rest [] rest i j e = ap (slice_get rest) (omega_same i j e)
  where
    omega_same : (i j : ℕ) → j + 0 ≡ i → i ≡ j
    omega_same i j e = omega arith
at_in_rest (x ∷ xs) rest zero j e = absurd (omega arith)
at_in_rest (x ∷ xs) rest (suc i) j e = at_in_rest xs rest i j (omega arith)
