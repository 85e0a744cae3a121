-- The files of a slot, in runs that versions share.
use Rattle.std.specs.Prelude.{◌≡◌, ℕ, zero, suc, ◌+◌, ◌<◌, ◌==◌, not, List, [], ◌∷◌, ◌++◌, length, filter, flat_map}
use Rattle.std.specs.List.{AllByRecursion}
use Rattle.address_space.specs.Runs.{FileEntry, IsFileRun}

-- the files of runs, one run after the other
abbrev pub files_in : List (List FileEntry) → List FileEntry
files_in runs = flat_map (λ files. files) runs

-- a run has a file
abbrev pub IsInhabited : List FileEntry → Type 0
IsInhabited files = 0 < length files

-- the id of the last file of a run
abbrev pub last_id : List FileEntry → ℕ
last_id [] = 0
last_id (file ∷ []) = file.id
last_id (file ∷ next ∷ files) = last_id (next ∷ files)

-- runs that have a file each, and whose files are a run together
pub record AreRuns (runs : List (List FileEntry)) : Type 0 where
  pub inhabited : AllByRecursion IsInhabited runs
  pub run : IsFileRun (files_in runs)

-- how many files there are up to the end of each run, after `before` others: of two runs of two and one, after none, 2 and 3
abbrev pub ends_from : ℕ → List (List FileEntry) → List ℕ
ends_from before [] = []
ends_from before (files ∷ runs) = (before + length files) ∷ ends_from (before + length files) runs

-- how many files come before the run at a place, if `before` come before the first: before the second of two runs that end at 2 and 3, 2
abbrev pub start_at : ℕ → List ℕ → ℕ → ℕ
start_at before ends zero = before
start_at before [] (suc at) = before
start_at before (end ∷ ends) (suc at) = start_at end ends at

-- runs, where each ends, and how many files they have together
pub record IsOf (runs : List (List FileEntry)) (ends : List ℕ) (count : ℕ) : Type 0 where
  pub are : AreRuns runs
  pub ended : ends ≡ ends_from 0 runs
  pub counted : count ≡ length (files_in runs)

-- the files of runs except those of the first run that have this id
abbrev pub left_of : ℕ → List (List FileEntry) → List FileEntry
left_of id [] = []
left_of id (files ∷ runs) = filter (λ file. not (file.id == id)) files ++ files_in runs
