-- Where halving over runs finds the run that a file may be in.
use Rattle.std.proofs.Common.{◌≡◌, ℕ, zero, suc, ◌+◌, ◌<◌, ◌≤◌, Bool, true, false, not, cond, eqb, ltb, List, [], ◌∷◌, ◌++◌, filter, length, length-append, take, drop, get_or, slice_get, le_refl, Option, Some, None, refl, sym, ap, ◌∙◌, subst, arith}
use Rattle.std.specs.List.{AllByRecursion, prefix_len}
use Rattle.std.specs.List.Sorted.{IsNonDecreasingBy}
use Rattle.std.specs.Option.{option_or}
use Rattle.std.proofs.lemmas.Bool.{ne_eqb, ltb-true, ltb-false}
use Rattle.std.proofs.lemmas.List.{append_assoc, append-nil, drop_more, take-append-drop, take_more}
use Rattle.std.proofs.lemmas.List.Folds.{find-append}
use Rattle.std.proofs.lemmas.List.Elements.{filter-append}
use Rattle.std.proofs.lemmas.Grind.{flat_map-append}
use Rattle.gcl_model.specs.Limits.{address_end}
use Rattle.gcl_model.proofs.Lists.{all_append, all_drop, all_right, all_take, all_weaker, filter_kept}
use Rattle.address_space.specs.Runs.{FileEntry, IsFileRun, Precedes}
use Rattle.file_runs.specs.Records.{AreRuns, IsInhabited, files_in, last_id, left_of}
use Rattle.file_runs.proofs.FileLemmas.{file_with_id, find_in_rest}
use Rattle.file_runs.proofs.RunLemmas.{survives, run_left, run_right}

-- ids before one, and after one

other_before : (file : FileEntry) (id : ℕ) → file.id < id → eqb file.id id ≡ false
other_before file id lt = ne_eqb file.id id (λ e. let is : file.id ≡ id = e in absurd (omega arith))

other_after : (file : FileEntry) (id : ℕ) → id < file.id → eqb file.id id ≡ false
other_after file id lt = ne_eqb file.id id (λ e. let is : file.id ≡ id = e in absurd (omega arith))

none_other : (id : ℕ) (files : List FileEntry) → AllByRecursion (λ file. eqb file.id id ≡ false) files → file_with_id id files ≡ None
none_other id [] h = refl
none_other id (file ∷ files) h = ap (λ t. cond t (Some file) (file_with_id id files)) h.0 ∙ none_other id files h.1

kept_other : (id : ℕ) (files : List FileEntry) → AllByRecursion (λ file. eqb file.id id ≡ false) files → filter (survives id) files ≡ files
kept_other id files h = filter_kept (survives id) files (all_weaker (λ (file : FileEntry). eqb file.id id ≡ false) (λ file. survives id file ≡ true) (λ file e. ap not e) files h)

-- no id of a run is above that of its last file
upto_last : (files : List FileEntry) → IsFileRun files → AllByRecursion (λ file. file.id ≤ last_id files) files
upto_last [] run = tt
upto_last (file ∷ []) run = (le_refl file.id, tt)
upto_last (file ∷ next ∷ files) run =
    let rest : next.id ≤ last_id (next ∷ files) = (upto_last (next ∷ files) run.2).0 in
    let rise : file.id < next.id = run.1.0.ids in
    (omega arith, upto_last (next ∷ files) run.2)

-- what comes after a run has later ids
behind_last : (files rest : List FileEntry) → 0 < length files → IsFileRun (files ++ rest) → AllByRecursion (λ file. last_id files < file.id) rest
behind_last [] rest some run = absurd (omega arith)
behind_last (file ∷ []) rest some run = all_weaker (Precedes file) (λ (next : FileEntry). file.id < next.id) (λ next before. before.ids) rest run.1
behind_last (file ∷ next ∷ files) rest some run = behind_last (next ∷ files) rest (omega arith) run.2

last_from : (low : ℕ) (files : List FileEntry) → 0 < length files → AllByRecursion (λ file. low ≤ file.id) files → low ≤ last_id files
last_from low [] some h = absurd (omega arith)
last_from low (file ∷ []) some h = h.0
last_from low (file ∷ next ∷ files) some h = last_from low (next ∷ files) (omega arith) h.1

pub last_at : (files : List FileEntry) (i : ℕ) (d : FileEntry) → i + 1 ≡ length files → (get_or files i d).id ≡ last_id files
last_at [] i d is = absurd (omega arith)
last_at (file ∷ []) zero d is = refl
last_at (file ∷ []) (suc i) d is = absurd (omega arith)
last_at (file ∷ next ∷ files) zero d is = absurd (omega arith)
last_at (file ∷ next ∷ files) (suc i) d is = last_at (next ∷ files) i d (omega arith)

-- the test by which runs are passed
abbrev pub ends_before : ℕ → List FileEntry → Bool
ends_before id files = ltb (last_id files) id

passed : (id : ℕ) (files : List FileEntry) → IsFileRun files → ends_before id files ≡ true → AllByRecursion (λ file. eqb file.id id ≡ false) files
passed id files run is =
    let lt : last_id files < id = ltb-true (last_id files) id is in
    all_weaker (λ (file : FileEntry). file.id ≤ last_id files) (λ file. eqb file.id id ≡ false) (λ file le. let upto : file.id ≤ last_id files = le in other_before file id (omega arith)) files (upto_last files run)

beyond : (id : ℕ) (files rest : List FileEntry) → 0 < length files → IsFileRun (files ++ rest) → ends_before id files ≡ false → AllByRecursion (λ file. eqb file.id id ≡ false) rest
beyond id files rest some run is =
    let le : id ≤ last_id files = ltb-false (last_id files) id is in
    all_weaker (λ (file : FileEntry). last_id files < file.id) (λ file. eqb file.id id ≡ false) (λ file lt. let above : last_id files < file.id = lt in other_after file id (omega arith)) rest (behind_last files rest some run)

pub runs_rest : (files : List FileEntry) (runs : List (List FileEntry)) → AreRuns (files ∷ runs) → AreRuns runs
runs_rest files runs are = record { inhabited = are.inhabited.1; run = run_right files (files_in runs) are.run }

first_run : (files : List FileEntry) (runs : List (List FileEntry)) → AreRuns (files ∷ runs) → IsFileRun files
first_run files runs are = run_left files (files_in runs) are.run

lasts_from : (low : ℕ) (runs : List (List FileEntry)) (j : ℕ) (d : List FileEntry) → AllByRecursion IsInhabited runs → AllByRecursion (λ file. low ≤ file.id) (files_in runs) → j < length runs → low ≤ last_id (get_or runs j d)
lasts_from low [] j d some h lt = absurd (omega arith)
lasts_from low (files ∷ runs) zero d some h lt = last_from low files some.0 (front files h)
  where
    front : (files : List FileEntry) → AllByRecursion (λ file. low ≤ file.id) (files ++ files_in runs) → AllByRecursion (λ file. low ≤ file.id) files
    front [] h = tt
    front (file ∷ files) h = (h.0, front files h.1)
lasts_from low (files ∷ runs) (suc j) d some h lt = lasts_from low runs j d some.1 (all_right (λ (file : FileEntry). low ≤ file.id) files (files_in runs) h) (omega arith)

-- the last ids rise from run to run
pub lasts_rise : (runs : List (List FileEntry)) → AreRuns runs → IsNonDecreasingBy last_id runs
lasts_rise [] are i j d le lt = absurd (omega arith)
lasts_rise (files ∷ runs) are zero zero d le lt = le_refl (last_id files)
lasts_rise (files ∷ runs) are zero (suc j) d le lt =
    lasts_from (last_id files) runs j d are.inhabited.1
    (all_weaker (λ (file : FileEntry). last_id files < file.id) (λ (file : FileEntry). last_id files ≤ file.id) (λ file lt. let above : last_id files < file.id = lt in omega arith) (files_in runs) (behind_last files (files_in runs) are.inhabited.0 are.run))
    (omega arith)
lasts_rise (files ∷ runs) are (suc i) zero d le lt = absurd (omega arith)
lasts_rise (files ∷ runs) are (suc i) (suc j) d le lt = lasts_rise runs (runs_rest files runs are) i j d (omega arith) (omega arith)

-- what a run has, if there is one
abbrev pub found_in : ℕ → Option (List FileEntry) → Option FileEntry
found_in id None = None
found_in id (Some files) = file_with_id id files

or_none : (found : Option FileEntry) → option_or found None ≡ found
or_none None = refl
or_none (Some file) = refl

-- of all runs only the first that does not end before the id may have it
pub find_halved : (runs : List (List FileEntry)) (id : ℕ) → AreRuns runs → file_with_id id (files_in runs) ≡ found_in id (slice_get runs (prefix_len (ends_before id) runs))
find_halved [] id are = refl
find_halved (files ∷ runs) id are = by_test (ends_before id files) refl (find_halved runs id (runs_rest files runs are))
  where
    by_test : (t : Bool) → ends_before id files ≡ t → file_with_id id (files_in runs) ≡ found_in id (slice_get runs (prefix_len (ends_before id) runs)) →
        file_with_id id (files_in (files ∷ runs)) ≡ found_in id (slice_get (files ∷ runs) (prefix_len (ends_before id) (files ∷ runs)))
    by_test true is rest =
        let count : prefix_len (ends_before id) (files ∷ runs) ≡ suc (prefix_len (ends_before id) runs) = ap (λ t. cond t (1 + prefix_len (ends_before id) runs) 0) is ∙ omega arith in
        find_in_rest files (files_in runs) id (none_other id files (passed id files (first_run files runs are) is)) ∙ rest ∙ sym (ap (λ n. found_in id (slice_get (files ∷ runs) n)) count)
    by_test false is rest =
        let count : prefix_len (ends_before id) (files ∷ runs) ≡ 0 = ap (λ t. cond t (1 + prefix_len (ends_before id) runs) 0) is in
        find-append (λ (file : FileEntry). eqb file.id id) files (files_in runs)
        ∙ ap (option_or (file_with_id id files)) (none_other id (files_in runs) (beyond id files (files_in runs) are.inhabited.0 are.run is))
        ∙ or_none (file_with_id id files)
        ∙ sym (ap (λ n. found_in id (slice_get (files ∷ runs) n)) count)

-- the runs before that one are left as they are
pub without_halved : (runs : List (List FileEntry)) (id : ℕ) → AreRuns runs →
    filter (survives id) (files_in runs) ≡ files_in (take (prefix_len (ends_before id) runs) runs) ++ left_of id (drop (prefix_len (ends_before id) runs) runs)
without_halved [] id are = refl
without_halved (files ∷ runs) id are = by_test (ends_before id files) refl (without_halved runs id (runs_rest files runs are))
  where
    whole : filter (survives id) (files_in (files ∷ runs)) ≡ filter (survives id) files ++ filter (survives id) (files_in runs)
    whole = filter-append (survives id) files (files_in runs)

    by_test : (t : Bool) → ends_before id files ≡ t
        → filter (survives id) (files_in runs) ≡ files_in (take (prefix_len (ends_before id) runs) runs) ++ left_of id (drop (prefix_len (ends_before id) runs) runs)
        → filter (survives id) (files_in (files ∷ runs)) ≡ files_in (take (prefix_len (ends_before id) (files ∷ runs)) (files ∷ runs)) ++ left_of id (drop (prefix_len (ends_before id) (files ∷ runs)) (files ∷ runs))
    by_test true is rest =
        let count : prefix_len (ends_before id) (files ∷ runs) ≡ suc (prefix_len (ends_before id) runs) = ap (λ t. cond t (1 + prefix_len (ends_before id) runs) 0) is ∙ omega arith in
        whole
        ∙ ap (λ l. l ++ filter (survives id) (files_in runs)) (kept_other id files (passed id files (first_run files runs are) is))
        ∙ ap (λ l. files ++ l) rest
        ∙ sym (append_assoc files (files_in (take (prefix_len (ends_before id) runs) runs)) (left_of id (drop (prefix_len (ends_before id) runs) runs)))
        ∙ sym (ap (λ n. files_in (take n (files ∷ runs)) ++ left_of id (drop n (files ∷ runs))) count)
    by_test false is rest =
        let count : prefix_len (ends_before id) (files ∷ runs) ≡ 0 = ap (λ t. cond t (1 + prefix_len (ends_before id) runs) 0) is in
        whole
        ∙ ap (λ l. filter (survives id) files ++ l) (kept_other id (files_in runs) (beyond id files (files_in runs) are.inhabited.0 are.run is))
        ∙ sym (ap (λ n. files_in (take n (files ∷ runs)) ++ left_of id (drop n (files ∷ runs))) count)

-- there are fewer files than addresses
run_few : (low : ℕ) (files : List FileEntry) → low ≤ address_end → AllByRecursion (λ file. low ≤ file.base) files → IsFileRun files → low + length files ≤ address_end
run_few low [] le above run = omega arith
run_few low (file ∷ files) le above run =
    let first : low ≤ file.base = above.0 in
    let some : 2 ≤ file.len = run.0.bounded in
    let upto : file.base + file.len ≤ address_end = run.0.in_range in
    let rest : file.base + file.len + length files ≤ address_end =
    run_few (file.base + file.len) files upto (all_weaker (Precedes file) (λ (next : FileEntry). file.base + file.len ≤ next.base) (λ next before. before.addresses) files run.1) run.2 in
    omega arith

all_from_zero : (files : List FileEntry) → AllByRecursion (λ file. 0 ≤ file.base) files
all_from_zero [] = tt
all_from_zero (file ∷ files) = (omega arith, all_from_zero files)

pub few_files : (files : List FileEntry) → IsFileRun files → length files ≤ address_end
few_files files run = let h : 0 + length files ≤ address_end = run_few 0 files (omega arith) (all_from_zero files) run in omega arith

files_append : (xs ys : List (List FileEntry)) → files_in (xs ++ ys) ≡ files_in xs ++ files_in ys
files_append xs ys = flat_map-append (λ (files : List FileEntry). files) xs ys

-- the last of some runs, and what comes after it
pub last_two : (runs before : List (List FileEntry)) (last run : List FileEntry) → runs ≡ before ++ last ∷ [] → IsFileRun (files_in runs ++ run) → IsFileRun (last ++ run)
last_two runs before last run is are =
    let whole : files_in runs ++ run ≡ files_in before ++ (last ++ run) =
    ap (λ rs. files_in rs ++ run) is ∙ ap (λ l. l ++ run) (files_append before (last ∷ []) ∙ ap (λ l. files_in before ++ l) (append-nil last)) ∙ append_assoc (files_in before) last run in
    run_right (files_in before) (last ++ run) (subst IsFileRun whole are)

-- the next run goes after those that are put
pub next_run : (old runs now : List (List FileEntry)) (i : ℕ) (run : List FileEntry) → IsFileRun (files_in old ++ files_in runs) → i < length runs → run ≡ get_or runs i run →
    files_in now ≡ files_in old ++ files_in (take i runs) → IsFileRun (files_in now ++ run)
next_run old runs now i run are lt at is =
    let parts : files_in runs ≡ files_in (take i runs) ++ (run ++ files_in (drop (i + 1) runs)) =
    ap files_in (sym (take-append-drop i runs) ∙ ap (λ l. take i runs ++ l) (drop_more runs i run lt ∙ ap (λ r. r ∷ drop (i + 1) runs) (sym at))) ∙ files_append (take i runs) (run ∷ drop (i + 1) runs) in
    let whole : files_in old ++ files_in runs ≡ (files_in now ++ run) ++ files_in (drop (i + 1) runs) =
    ap (λ l. files_in old ++ l) parts
    ∙ sym (append_assoc (files_in old) (files_in (take i runs)) (run ++ files_in (drop (i + 1) runs)))
    ∙ ap (λ l. l ++ (run ++ files_in (drop (i + 1) runs))) (sym is)
    ∙ sym (append_assoc (files_in now) run (files_in (drop (i + 1) runs))) in
    run_left (files_in now ++ run) (files_in (drop (i + 1) runs)) (subst IsFileRun whole are)

-- the runs without a file
pub runs_left : (runs before left : List (List FileEntry)) (id at : ℕ) → AreRuns runs → at ≡ prefix_len (ends_before id) runs → before ≡ take at runs →
    files_in left ≡ files_in before ++ left_of id (drop at runs) → files_in left ≡ filter (survives id) (files_in runs)
runs_left runs before left id at are is front whole =
    whole
    ∙ ap (λ rs. files_in rs ++ left_of id (drop at runs)) front
    ∙ ap (λ n. files_in (take n runs) ++ left_of id (drop n runs)) is
    ∙ sym (without_halved runs id are)

pub all_front : (n : ℕ) (runs : List (List FileEntry)) → AllByRecursion IsInhabited runs → AllByRecursion IsInhabited (take n runs)
all_front n runs all = all_take IsInhabited n runs all

pub all_back : (n : ℕ) (runs : List (List FileEntry)) → AllByRecursion IsInhabited runs → AllByRecursion IsInhabited (drop n runs)
all_back n runs all = all_drop IsInhabited n runs all

-- what is cut off, and what is left

pub whole_of : (rest front behind : List FileEntry) (n : ℕ) → front ≡ take n rest → behind ≡ drop n rest → front ++ behind ≡ rest
whole_of rest front behind n e f = ap (λ l. l ++ behind) e ∙ ap (λ l. take n rest ++ l) f ∙ take-append-drop n rest

pub cut_off : (runs made : List (List FileEntry)) (rest front behind all : List FileEntry) (n : ℕ) → front ≡ take n rest → behind ≡ drop n rest → 0 < length front → made ≡ runs ++ front ∷ [] →
    files_in runs ++ rest ≡ all → AllByRecursion IsInhabited runs → IsFileRun rest → (files_in made ++ behind ≡ all) × AllByRecursion IsInhabited made × IsFileRun behind
cut_off runs made rest front behind all n e f some is whole inhabited run =
    let parts : front ++ behind ≡ rest = whole_of rest front behind n e f in (
      ap (λ rs. files_in rs ++ behind) is
          ∙ ap (λ l. l ++ behind) (files_append runs (front ∷ []) ∙ ap (λ l. files_in runs ++ l) (append-nil front))
          ∙ append_assoc (files_in runs) front behind
          ∙ ap (λ l. files_in runs ++ l) parts
          ∙ whole,
      subst (AllByRecursion IsInhabited) (sym is) (all_append IsInhabited runs (front ∷ []) inhabited (some, tt)),
      run_right front behind (subst IsFileRun (sym parts) run),
    )

-- the files of one run more
pub files_more : (runs made : List (List FileEntry)) (run : List FileEntry) → made ≡ runs ++ run ∷ [] → files_in made ≡ files_in runs ++ run
files_more runs made run is = ap files_in is ∙ files_append runs (run ∷ []) ∙ ap (λ l. files_in runs ++ l) (append-nil run)

pub more_inhabited : (runs made : List (List FileEntry)) (run : List FileEntry) → made ≡ runs ++ run ∷ [] → 0 < length run → AllByRecursion IsInhabited runs → AllByRecursion IsInhabited made
more_inhabited runs made run is some inhabited = subst (AllByRecursion IsInhabited) (sym is) (all_append IsInhabited runs (run ∷ []) inhabited (some, tt))

pub two_more : (runs one both : List (List FileEntry)) (last run : List FileEntry) → one ≡ runs ++ last ∷ [] → both ≡ one ++ run ∷ [] → files_in both ≡ (files_in runs ++ last) ++ run
two_more runs one both last run is_one is_both = files_more one both run is_both ∙ ap (λ l. l ++ run) (files_more runs one last is_one)

-- the files of a run that is made of two
pub joined_files : (files both last run : List FileEntry) → both ≡ last ++ run → files ++ both ≡ (files ++ last) ++ run
joined_files files both last run is = ap (λ l. files ++ l) is ∙ sym (append_assoc files last run)

-- how many files there are with one run more
pub count_more : (runs : List (List FileEntry)) (i : ℕ) (files run : List FileEntry) → i < length runs → files ≡ get_or runs i run → length (files_in (take i runs)) + length files ≡ length (files_in (take (i + 1) runs))
count_more runs i files run lt is =
    sym (ap length (files_more (take i runs) (take (i + 1) runs) files (take_more runs i run lt ∙ ap (λ f. take i runs ++ f ∷ []) (sym is))) ∙ length-append (files_in (take i runs)) files)
