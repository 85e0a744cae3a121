-- The surviving files of a run, and the one that goes.
use Rattle.std.proofs.Common.{◌≡◌, ℕ, ◌+◌, ◌-◌, ◌<◌, ◌≤◌, Bool, true, false, not, ◌&&◌, cond, eqb, leb, ltb, List, [], ◌∷◌, ◌++◌, filter, length, Some, None, refl, sym, ap, ◌∙◌, subst, arith, inl, inr, ◌⊎◌}
use Rattle.std.specs.List.{AllByRecursion, find}
use Rattle.std.proofs.lemmas.Bool.{cases_lt, false≢true, eqb-true, ne_eqb, le-leb, lt-leb, leb-true, lt-ltb, le-ltb, ltb-true, and_parts, and_left, and_right, and_from, or_cases, or_left, or_right}
use Rattle.address_space.specs.Runs.{FileEntry, Precedes, IsFileRun, range_of}
use Rattle.delete_mask.specs.Masks.{is_within}
use Rattle.live_version.specs.Contents.{is_of_file, is_of_files}
use Rattle.live_version.specs.Changes.{file_with_id}
use Rattle.file_runs.proofs.RunLemmas.{survives}

-- the test by which a file is deleted
abbrev pub has_id : ℕ → FileEntry → Bool
has_id id file = eqb file.id id

-- an address is one of a file's exactly within its bounds
pub is_of_file-bounds : (p : ℕ) (file : FileEntry) → is_of_file p file ≡ true → (file.base ≤ p) × (p < file.base + file.len)
is_of_file-bounds p file e =
    let both = and_parts (leb file.base p) (ltb p (file.base + file.len)) e in
    (leb-true file.base p both.0, ltb-true p (file.base + file.len) both.1)

pub is_of_file-before : (p : ℕ) (file : FileEntry) → p < file.base → is_of_file p file ≡ false
is_of_file-before p file h = and_left (leb file.base p) (ltb p (file.base + file.len)) (lt-leb file.base p h)

pub is_of_file-behind : (p : ℕ) (file : FileEntry) → file.base + file.len ≤ p → is_of_file p file ≡ false
is_of_file-behind p file h = and_right (leb file.base p) (ltb p (file.base + file.len)) (le-ltb p (file.base + file.len) h)

pub is_of_file-inside : (p : ℕ) (file : FileEntry) → file.base ≤ p → p < file.base + file.len → is_of_file p file ≡ true
is_of_file-inside p file h k = and_from (leb file.base p) (ltb p (file.base + file.len)) (le-leb file.base p h) (lt-ltb p (file.base + file.len) k)

-- the range of a file has its addresses
pub is_within-range_of : (file : FileEntry) (p : ℕ) → 2 ≤ file.len → is_within (range_of file) p ≡ is_of_file p file
is_within-range_of file p some = by_place (cases_lt p (file.base + file.len))
  where
    by_place : (p < file.base + file.len) ⊎ (file.base + file.len ≤ p) → is_within (range_of file) p ≡ is_of_file p file
    by_place (inl before) = ap (λ t. leb file.base p && t) (le-leb p (file.base + file.len - 1) (omega arith) ∙ sym (lt-ltb p (file.base + file.len) before))
    by_place (inr behind) = ap (λ t. leb file.base p && t) (lt-leb p (file.base + file.len - 1) (omega arith) ∙ sym (le-ltb p (file.base + file.len) behind))

-- a file is the one with the id, or has another id and no address of it
pub record IsSorted (id : ℕ) (gone file : FileEntry) : Type 0 where
  pub same : has_id id file ≡ true → file ≡ gone
  pub other : has_id id file ≡ false → (p : ℕ) → is_of_file p file ≡ true → is_of_file p gone ≡ false

other_id : (a b : FileEntry) (id : ℕ) → Precedes a b → has_id id a ≡ true → has_id id b ≡ false
other_id a b id before e =
    let rise : a.id < b.id = before.ids in
    let same : a.id ≡ id = eqb-true a.id id e in
    ne_eqb b.id id (λ also. let is : b.id ≡ id = also in absurd (omega arith))

apart_before : (a b : FileEntry) (p : ℕ) → Precedes a b → is_of_file p a ≡ true → is_of_file p b ≡ false
apart_before a b p before e =
    let ends : a.base + a.len ≤ b.base = before.addresses in
    let at : p < a.base + a.len = (is_of_file-bounds p a e).1 in
    is_of_file-before p b (omega arith)

apart_behind : (a b : FileEntry) (p : ℕ) → Precedes a b → is_of_file p b ≡ true → is_of_file p a ≡ false
apart_behind a b p before e =
    let ends : a.base + a.len ≤ b.base = before.addresses in
    let at : b.base ≤ p = (is_of_file-bounds p b e).0 in
    is_of_file-behind p a (omega arith)

pub all_found : {X : Type 0} (P : X → Type 0) (t : X → Bool) (x : X) (xs : List X) → AllByRecursion P xs → find t xs ≡ Some x → P x
all_found P t x [] h e = absurd cc
all_found P t x (y ∷ ys) h e = here (t y) e (all_found P t x ys h.1)
  where
    here : (b : Bool) → cond b (Some y) (find t ys) ≡ Some x → (find t ys ≡ Some x → P x) → P x
    here true found rest = let same : y ≡ x = cc in subst P same h.0
    here false found rest = rest found

pub none_passes : {X : Type 0} (t : X → Bool) (xs : List X) → find t xs ≡ None → AllByRecursion (λ x. t x ≡ false) xs
none_passes t [] e = tt
none_passes t (x ∷ xs) e = here (t x) refl e (none_passes t xs)
  where
    here : (b : Bool) → t x ≡ b → cond b (Some x) (find t xs) ≡ None → (find t xs ≡ None → AllByRecursion (λ y. t y ≡ false) xs) → AllByRecursion (λ y. t y ≡ false) (x ∷ xs)
    here true is e rest = absurd cc
    here false is e rest = (is, rest e)

-- the files after the one with the id
sorted_behind : (id : ℕ) (gone : FileEntry) (files : List FileEntry) → has_id id gone ≡ true → AllByRecursion (Precedes gone) files → AllByRecursion (IsSorted id gone) files
sorted_behind id gone [] e h = tt
sorted_behind id gone (file ∷ files) e h = (
  record {
    same = λ also. absurd (false≢true (sym (other_id gone file id h.0 e) ∙ also));
    other = λ not_same p is. apart_behind gone file p h.0 is;
  },
  sorted_behind id gone files e h.1,
)

-- of the files of a run
pub run_sorted : (id : ℕ) (gone : FileEntry) (files : List FileEntry) → IsFileRun files → file_with_id id files ≡ Some gone → AllByRecursion (IsSorted id gone) files
run_sorted id gone [] run e = tt
run_sorted id gone (file ∷ files) run e = here (has_id id file) refl e (run_sorted id gone files run.2)
  where
    here : (b : Bool) → has_id id file ≡ b → cond b (Some file) (file_with_id id files) ≡ Some gone → (file_with_id id files ≡ Some gone → AllByRecursion (IsSorted id gone) files)
        → AllByRecursion (IsSorted id gone) (file ∷ files)
    here true is found rest =
        let same : file ≡ gone = cc in (
          record { same = λ also. same; other = λ not_same p of. absurd (false≢true (sym not_same ∙ is)) },
          sorted_behind id gone files (sym (ap (has_id id) same) ∙ is) (subst (λ f. AllByRecursion (Precedes f) files) same run.1),
        )
    here false is found rest =
        let before : Precedes file gone = all_found (Precedes file) (has_id id) gone files run.1 found in
        (record { same = λ also. absurd (false≢true (sym is ∙ also)); other = λ not_same p of. apart_before file gone p before of }, rest found)

-- the files that survive have no address of the one that goes
pub survivors_apart : (id : ℕ) (gone : FileEntry) (files : List FileEntry) (p : ℕ) → AllByRecursion (IsSorted id gone) files → is_of_files (filter (survives id) files) p ≡ true → is_of_file p gone ≡ false
survivors_apart id gone [] p h e = absurd (false≢true e)
survivors_apart id gone (file ∷ files) p h e = here (has_id id file) refl e (survivors_apart id gone files p h.1)
  where
    here : (b : Bool) → has_id id file ≡ b → is_of_files (cond (not b) (file ∷ filter (survives id) files) (filter (survives id) files)) p ≡ true → (is_of_files (filter (survives id) files) p ≡ true → is_of_file p gone ≡ false)
        → is_of_file p gone ≡ false
    here true is of rest = rest of
    here false is of rest = elim (or_cases (is_of_file p file) (is_of_files (filter (survives id) files) p) of) [ inl this ↦ h.0.other is p this | inr later ↦ rest later ]

-- an address of the files that is none of the one that goes is one of those that survive
pub survivors_have : (id : ℕ) (gone : FileEntry) (files : List FileEntry) (p : ℕ) → AllByRecursion (IsSorted id gone) files → is_of_files files p ≡ true → is_of_file p gone ≡ false → is_of_files (filter (survives id) files) p ≡ true
survivors_have id gone [] p h e apart = e
survivors_have id gone (file ∷ files) p h e apart = here (has_id id file) refl (or_cases (is_of_file p file) (is_of_files files p) e) (λ later. survivors_have id gone files p h.1 later apart)
  where
    here : (b : Bool) → has_id id file ≡ b → (is_of_file p file ≡ true) ⊎ (is_of_files files p ≡ true) → (is_of_files files p ≡ true → is_of_files (filter (survives id) files) p ≡ true)
        → is_of_files (cond (not b) (file ∷ filter (survives id) files) (filter (survives id) files)) p ≡ true
    here true is (inl this) rest = absurd (false≢true (sym apart ∙ sym (ap (is_of_file p) (h.0.same is)) ∙ this))
    here true is (inr later) rest = rest later
    here false is (inl this) rest = or_left (is_of_file p file) (is_of_files (filter (survives id) files) p) this
    here false is (inr later) rest = or_right (is_of_file p file) (is_of_files (filter (survives id) files) p) (rest later)

-- what survives was there
pub survivors_were : (id : ℕ) (files : List FileEntry) (p : ℕ) → is_of_files (filter (survives id) files) p ≡ true → is_of_files files p ≡ true
survivors_were id [] p e = e
survivors_were id (file ∷ files) p e = here (survives id file) e (survivors_were id files p)
  where
    here : (b : Bool) → is_of_files (cond b (file ∷ filter (survives id) files) (filter (survives id) files)) p ≡ true → (is_of_files (filter (survives id) files) p ≡ true → is_of_files files p ≡ true)
        → is_of_files (file ∷ files) p ≡ true
    here true of rest = elim (or_cases (is_of_file p file) (is_of_files (filter (survives id) files) p) of) [
      | inl this ↦ or_left (is_of_file p file) (is_of_files files p) this
      | inr later ↦ or_right (is_of_file p file) (is_of_files files p) (rest later)
    ]
    here false of rest = or_right (is_of_file p file) (is_of_files files p) (rest of)

-- a file with the id is the only one
pub none_behind : (id : ℕ) (gone : FileEntry) (files more : List FileEntry) → IsFileRun (files ++ more) → file_with_id id files ≡ Some gone → AllByRecursion (λ file. has_id id file ≡ false) more
none_behind id gone [] more run e = absurd cc
none_behind id gone (file ∷ files) more run e = here (has_id id file) refl e (none_behind id gone files more run.2)
  where
    rest_of : (others : List FileEntry) → AllByRecursion (Precedes file) (others ++ more) → AllByRecursion (Precedes file) more
    rest_of [] h = h
    rest_of (other ∷ others) h = rest_of others h.1

    all_other : (others : List FileEntry) → has_id id file ≡ true → AllByRecursion (Precedes file) others → AllByRecursion (λ other. has_id id other ≡ false) others
    all_other [] is h = tt
    all_other (other ∷ others) is h = (other_id file other id h.0 is, all_other others is h.1)

    here : (b : Bool) → has_id id file ≡ b → cond b (Some file) (file_with_id id files) ≡ Some gone → (file_with_id id files ≡ Some gone → AllByRecursion (λ other. has_id id other ≡ false) more)
        → AllByRecursion (λ other. has_id id other ≡ false) more
    here true is found rest = all_other more is (rest_of files run.1)
    here false is found rest = rest found

-- there are no more files of a run than ids up to the next one
pub run_length : (low next : ℕ) (files : List FileEntry) → AllByRecursion (λ file. low ≤ file.id) files → AllByRecursion (λ file. file.id < next) files → IsFileRun files → low ≤ next → low + length files ≤ next
run_length low next [] above below run le = omega arith
run_length low next (file ∷ files) above below run le =
    let first : low ≤ file.id = above.0 in
    let last : file.id < next = below.0 in
    let rest : file.id + 1 + length files ≤ next = run_length (file.id + 1) next files (later files run.1) below.1 run.2 (omega arith) in
    omega arith
  where
    later : (others : List FileEntry) → AllByRecursion (Precedes file) others → AllByRecursion (λ other. file.id + 1 ≤ other.id) others
    later [] h = tt
    later (other ∷ others) h = (let rise : file.id < other.id = h.0.ids in omega arith, later others h.1)
