-- The files that were visited, in order, and what became of each.
use Rattle.std.specs.Prelude.{◌≡◌, ℕ, ◌+◌, ◌-◌, ◌^◌, ◌≤◌, min, Bool, true, false, List, [], length, take, map, flat_map, sum_by, count_by, Option, Some, IfSome, MatchBool, ⊤, ◌⊎◌, if◌then◌else◌}
use Rattle.std.specs.List.{AllByRecursion, list_any}
use Rattle.std.specs.Io.KnownBytes.{Appends}
use Rattle.outside.specs.Contents.{BeginsContent, Contents}
use Rattle.gcl_model.specs.Limits.{most_file}
use Rattle.gcl_readers.specs.MergeCost.{merge_cost}
use Rattle.text_search.specs.FileTexts.{file_text}
use Rattle.wide_terms.specs.Expansion.{expansion}
use Rattle.file_answers.specs.Written.{GetsPart}
use Rattle.file_answers.specs.declared.mode.Mode.TheVariants.{Quiet}
use Rattle.grep_run.specs.Requests.{Request, file_output, has_answer}
use Rattle.grep_run.specs.declared.outcome.Outcome.{Outcome}
use Rattle.grep_run.specs.declared.outcome.Outcome.TheVariants.{Found, NotFound, TooLong, Failed}
use Rattle.grep_run.specs.declared.outcome.Summary.{Summary}

-- it was searched, and these are its bytes; it has too many bytes; or it could not be loaded
pub data Fate : Type 0 where
  searched : List ℕ → Fate
  too_long : Fate
  failed : Fate

-- a name, and what became of its file
pub record Visit : Type 0 where
  pub name : List ℕ
  pub fate : Fate

-- if it is known what the files hold: what was searched is the whole content, and what was left out for its length has at least one byte
-- too many
abbrev pub IsFate : Option Contents → List ℕ → Fate → Type 0
IsFate told name (searched bytes) = (length bytes ≤ most_file) × IfSome told (λ contents. contents name ≡ Some bytes)
IsFate told name too_long = IfSome told (λ contents. (text : List ℕ) × (length text ≡ most_file + 1) × BeginsContent contents name text)
IsFate told name failed = ⊤

-- what is written at a visit
abbrev pub fate_text : Request → List ℕ → Fate → List ℕ
fate_text r name (searched bytes) = file_output r name bytes
fate_text r name too_long = []
fate_text r name failed = []

abbrev pub visit_text : Request → Visit → List ℕ
visit_text r v = fate_text r v.name v.fate

-- the outcome of the search of one file
abbrev pub outcome_of : Request → Fate → Outcome
outcome_of r (searched bytes) = if has_answer r bytes then Found else NotFound
outcome_of r too_long = TooLong
outcome_of r failed = Failed

abbrev pub is_found : Outcome → Bool
is_found Found = true
is_found NotFound = false
is_found TooLong = false
is_found Failed = false

abbrev pub is_left_out : Outcome → Bool
is_left_out Found = false
is_left_out NotFound = false
is_left_out TooLong = true
is_left_out Failed = true

abbrev pub is_failed : Fate → Bool
is_failed (searched bytes) = false
is_failed too_long = false
is_failed failed = true

-- the most look-ups that the search of a file takes: those of a merge of the lists of all parts of the query, with each prefix term as one of
-- the words that begin with it; for "to".."be" over `to be or not to be` 18
abbrev pub look_ups : Request → Fate → ℕ
look_ups r (searched bytes) = merge_cost (file_text bytes) 1 (expansion (file_text bytes) r.form)
look_ups r too_long = 0
look_ups r failed = 0

-- the names were visited in order, as far as it went, and each fate is that of its file
pub record AreVisits (told : Option Contents) (names : List (List ℕ)) (visits : List Visit) : Type 0 where
  pub within : length visits ≤ length names
  pub named : map (λ v. v.name) visits ≡ take (length visits) names
  pub fates : AllByRecursion (λ v. IsFate told v.name v.fate) visits

-- a visit found an answer, or left its file out
abbrev pub finds : Request → Visit → Bool
finds r v = is_found (outcome_of r v.fate)

abbrev pub leaves_out : Request → Visit → Bool
leaves_out r v = is_left_out (outcome_of r v.fate)

-- what the visits wrote, in order
abbrev pub text_of_visits : Request → List Visit → List ℕ
text_of_visits r visits = flat_map (visit_text r) visits

-- how many files could not be loaded
abbrev pub failures : List Visit → ℕ
failures visits = count_by (λ v. is_failed v.fate) visits

-- the most look-ups that the visits take
abbrev pub all_look_ups : Request → List Visit → ℕ
all_look_ups r visits = sum_by (λ v. look_ups r v.fate) visits

-- one file was visited: what was written, its outcome, whether the files failed, and how many look-ups it took
pub record IsVisited (told : Option Contents) (r : Request) (name : List ℕ) (outcome : Outcome) (old new : Option (List ℕ)) (faults faults' steps steps' : ℕ) : Type 0 where
  pub fate : Fate
  pub is : IsFate told name fate
  pub outcome_is : outcome ≡ outcome_of r fate
  pub written : Appends old new (fate_text r name fate)
  pub failed_is : MatchBool (is_failed fate) (min (faults + 1) (2 ^ 64 - 1) ≤ faults') (faults' ≡ faults)
  pub looked : steps' ≤ steps + look_ups r fate

-- one file was visited in part
pub record IsBegun (told : Option Contents) (r : Request) (name : List ℕ) (old new : Option (List ℕ)) : Type 0 where
  pub fate : Fate
  pub is : IsFate told name fate
  pub part : GetsPart old new (fate_text r name fate)

-- files were visited: all of them, or, if nothing is to be written, enough to know that there is an answer
pub record AreSearched (told : Option Contents) (r : Request) (names : List (List ℕ)) (summary : Summary) (old new : Option (List ℕ)) (faults faults' steps steps' : ℕ) : Type 0 where
  pub visits : List Visit
  pub are : AreVisits told names visits
  pub all : (length visits ≡ length names) ⊎ ((r.mode ≡ Quiet) × (summary.found ≡ true))
  pub written : Appends old new (text_of_visits r visits)
  pub found_is : summary.found ≡ list_any (finds r) visits
  pub left_out_is : summary.left_out ≡ list_any (leaves_out r) visits
  pub failed_are : min (faults + failures visits) (2 ^ 64 - 1) ≤ faults'
  pub calm : failures visits ≡ 0 → faults' ≡ faults
  pub looked : steps' ≤ steps + all_look_ups r visits

-- files were visited, the last of them in part
pub record AreBegun (told : Option Contents) (r : Request) (names : List (List ℕ)) (old new : Option (List ℕ)) : Type 0 where
  pub visits : List Visit
  pub are : AreVisits told names visits
  pub part : GetsPart old new (text_of_visits r visits)
