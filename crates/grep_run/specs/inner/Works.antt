-- For proofs only: files that threads visit before their turn.
use Rattle.std.specs.Prelude.{◌≡◌, ℕ, ◌≤◌, List, length, Option, IfSome, ⊤}
use Rattle.std.specs.List.{AllByRecursion}
use Rattle.outside.specs.Contents.{Contents}
use Rattle.gcl_model.specs.Limits.{most_file}
use Rattle.grep_run.specs.Requests.{Request, file_output, has_answer}
use Rattle.grep_run.specs.Visits.{Fate, IsFate, searched, too_long}
use Rattle.grep_run.specs.declared.work.Answered.{Answered}
use Rattle.grep_run.specs.declared.work.Gone.{Gone}
use Rattle.grep_run.specs.declared.work.Gone.TheVariants.{Searched, Loaded, TooLong}
use Rattle.grep_run.specs.declared.work.Work.{Work}

-- what became of a file
abbrev pub fate_of : Gone → Fate
fate_of (Searched bytes answered) = searched bytes.value.items
fate_of (Loaded bytes) = searched bytes
fate_of TooLong = too_long

-- a search gave what is asked of a file of this name with these bytes
abbrev pub IsAnswer : Request → List ℕ → List ℕ → Answered → Type 0
IsAnswer r name bytes answered = (answered.found ≡ has_answer r bytes) × (answered.text ≡ file_output r name bytes)

-- what is held for a file of this name is right
abbrev pub IsRight : Request → List ℕ → Gone → Type 0
IsRight r name (Searched bytes answered) = IsAnswer r name bytes.value.items answered
IsRight r name (Loaded bytes) = length bytes ≤ most_file
IsRight r name TooLong = ⊤

-- and it is the file of that name
abbrev pub IsFound : Option Contents → Request → List ℕ → Gone → Type 0
IsFound told r name gone = IsFate told name (fate_of gone) × IsRight r name gone

abbrev pub IsSound : Option Contents → Request → Work → Type 0
IsSound told r work = IsFound told r work.name work.gone

abbrev pub AreSound : Option Contents → Request → List Work → Type 0
AreSound told r works = AllByRecursion (IsSound told r) works

-- what a thread found in a file, if one did
abbrev pub IsReady : Option Contents → Request → Option Work → Type 0
IsReady told r work = IfSome work (IsSound told r)

abbrev pub AreReady : Option Contents → Request → List (Option Work) → Type 0
AreReady told r ready = AllByRecursion (IsReady told r) ready
