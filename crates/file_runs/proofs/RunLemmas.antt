-- The files of a run that are left, and parts of a run.
use Rattle.std.proofs.Common.{◌≡◌, ℕ, ◌+◌, ◌<◌, Bool, true, false, not, cond, eqb, zero, suc, get_or, take, drop, List, [], ◌∷◌, ◌++◌, filter, length, IfSome, sym, ap, ◌∙◌, subst, arith}
use Rattle.std.specs.List.{AllByRecursion}
use Rattle.std.proofs.lemmas.List.{take-append-drop, take_more, drop_more, append_assoc}
use Rattle.std.proofs.lemmas.List.Elements.{filter-append}
use Rattle.address_space.specs.Runs.{FileEntry, Precedes, IsFileRun, last_file}
use Rattle.gcl_model.proofs.Lists.{all_kept}

-- the test by which a file is left out
abbrev pub survives : ℕ → FileEntry → Bool
survives id file = not (eqb file.id id)

-- the files that survive are a run
pub run_survives : (id : ℕ) (files : List FileEntry) → IsFileRun files → IsFileRun (filter (survives id) files)
run_survives id [] run = tt
run_survives id (file ∷ files) run = here (survives id file) (run_survives id files run.2)
  where
    here : (b : Bool) → IsFileRun (filter (survives id) files) → IsFileRun (cond b (file ∷ filter (survives id) files) (filter (survives id) files))
    here true rest = (run.0, all_kept (Precedes file) (survives id) files run.1, rest)
    here false rest = rest

pub run_left : (files more : List FileEntry) → IsFileRun (files ++ more) → IsFileRun files
run_left [] more run = tt
run_left (file ∷ files) more run = (run.0, first files run.1, run_left files more run.2)
  where
    first : (others : List FileEntry) → AllByRecursion (Precedes file) (others ++ more) → AllByRecursion (Precedes file) others
    first [] h = tt
    first (other ∷ others) h = (h.0, first others h.1)

pub run_right : (files more : List FileEntry) → IsFileRun (files ++ more) → IsFileRun more
run_right [] more run = run
run_right (file ∷ files) more run = run_right files more run.2

-- what holds of all files holds of the last one
pub last_of_all : (P : FileEntry → Type 0) (files : List FileEntry) → AllByRecursion P files → IfSome (last_file files) P
last_of_all P [] h = tt
last_of_all P (file ∷ []) h = h.0
last_of_all P (file ∷ next ∷ files) h = last_of_all P (next ∷ files) h.1

-- of the members before a place each precedes the one at it
before_at : (files : List FileEntry) (i : ℕ) (d : FileEntry) → IsFileRun files → i < length files → AllByRecursion (λ file. Precedes file (get_or files i d)) (take i files)
before_at [] i d run lt = absurd (omega arith)
before_at (file ∷ files) zero d run lt = tt
before_at (file ∷ files) (suc i) d run lt = (at files i run.1 (omega arith), before_at files i d run.2 (omega arith))
  where
    at : (others : List FileEntry) (k : ℕ) → AllByRecursion (Precedes file) others → k < length others → Precedes file (get_or others k d)
    at [] k h lt = absurd (omega arith)
    at (other ∷ others) zero h lt = h.0
    at (other ∷ others) (suc k) h lt = at others k h.1 (omega arith)

-- the next file goes after those that survive of the ones before it
pub next_survivor : (id : ℕ) (files : List FileEntry) (i : ℕ) (file : FileEntry) (d : FileEntry) → IsFileRun files → i < length files → file ≡ get_or files i d → IfSome (last_file (filter (survives id) (take i files))) (λ last. Precedes last file)
next_survivor id files i file d run lt e =
    subst (λ f. IfSome (last_file (filter (survives id) (take i files))) (λ last. Precedes last f)) (sym e)
    (last_of_all (λ last. Precedes last (get_or files i d)) (filter (survives id) (take i files)) (all_kept (λ last. Precedes last (get_or files i d)) (survives id) (take i files) (before_at files i d run lt)))

-- what survives of one file more
pub survivors_more : (id : ℕ) (files : List FileEntry) (i : ℕ) (file : FileEntry) → i < length files → file ≡ get_or files i file →
    filter (survives id) (take i files) ++ filter (survives id) (file ∷ []) ≡ filter (survives id) (take (i + 1) files)
survivors_more id files i file lt is =
    sym (ap (filter (survives id)) (take_more files i file lt ∙ ap (λ f. take i files ++ f ∷ []) (sym is)) ∙ filter-append (survives id) (take i files) (file ∷ []))

-- the next file of a run goes after those before it
pub run_next : (xs ys : List FileEntry) (y : FileEntry) → IsFileRun (xs ++ y ∷ ys) → IfSome (last_file xs) (λ last. Precedes last y)
run_next [] ys y run = tt
run_next (x ∷ []) ys y run = run.1.0
run_next (x ∷ z ∷ zs) ys y run = run_next (z ∷ zs) ys y run.2

-- the next record to be put after the files that are copied already
pub put_next : (files records now : List FileEntry) (i : ℕ) (item : FileEntry) → IsFileRun (files ++ records) → i < length records → item ≡ get_or records i item →
    now ≡ files ++ take i records → IfSome (last_file now) (λ last. Precedes last item)
put_next files records now i item run lt at is =
    let rest : drop i records ≡ item ∷ drop (i + 1) records = drop_more records i item lt ∙ ap (λ f. f ∷ drop (i + 1) records) (sym at) in
    let whole : files ++ records ≡ now ++ item ∷ drop (i + 1) records =
    ap (λ l. files ++ l) (sym (take-append-drop i records) ∙ ap (λ l. take i records ++ l) rest)
    ∙ sym (append_assoc files (take i records) (item ∷ drop (i + 1) records))
    ∙ ap (λ l. l ++ item ∷ drop (i + 1) records) (sym is) in
    run_next now (drop (i + 1) records) item (subst IsFileRun whole run)
