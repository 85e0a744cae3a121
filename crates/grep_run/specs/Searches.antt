-- A search: a query with its definitions, and how it ends.
use Rattle.std.specs.Prelude.{◌≡◌, ℕ, Bool, true, false, ◌&&◌, List, Option, Some, None, Result, Ok, Err, if◌then◌else◌}
use Rattle.outside.specs.Contents.{Contents}
use Rattle.gcl_model.specs.Forms.{Form}
use Rattle.gcl_parser.specs.QueryForm.{query_form}
use Rattle.gcl_parser.specs.Refusal.{refused}
use Rattle.query_names.specs.Names.{Defined}
use Rattle.query_names.specs.PutIn.{put_in}
use Rattle.query_names.specs.declared.fault.NameFault.{NameFault}
use Rattle.file_answers.specs.declared.mode.Mode.{Mode}
use Rattle.file_answers.specs.declared.mode.Mode.TheVariants.{Lines, Answers, Count, Names, Quiet}
use Rattle.grep_run.specs.Requests.{Request}
use Rattle.grep_run.specs.Visits.{AreBegun, AreSearched}
use Rattle.grep_run.specs.declared.asked.Asked.{Asked}
use Rattle.grep_run.specs.declared.outcome.Summary.{Summary}
use Rattle.grep_run.specs.declared.status.Status.{Status}
use Rattle.grep_run.specs.declared.status.Status.TheVariants.{Found, NotFound, LeftOut, BadName, BadQuery, WriteFault, NoMemory}

-- the form of a text, if the names were put in
abbrev pub form_of_text : Result (List ℕ) NameFault → Option Form
form_of_text (Ok text) = query_form text
form_of_text (Err fault) = None

-- the form of a query with its definitions, None if it is refused
abbrev pub form_asked : Defined → List ℕ → Option Form
form_asked defined query = form_of_text (put_in defined query)

-- what is asked, with this form
abbrev pub request_with : Asked → Form → Request
request_with asked form = record { mode = asked.mode; named = asked.named; numbered = asked.numbered; most = asked.most; form = form }

-- the exit status of the program
abbrev pub number_of : Status → ℕ
number_of Found = 0
number_of NotFound = 1
number_of LeftOut = 2
number_of (BadName fault) = 2
number_of (BadQuery fault) = 2
number_of WriteFault = 2
number_of NoMemory = 2

-- nothing is to be written
abbrev pub is_quiet : Mode → Bool
is_quiet Lines = false
is_quiet Answers = false
is_quiet Count = false
is_quiet Names = false
is_quiet Quiet = true

-- how a search that came to its end ended: if nothing is to be written, one answer is enough
abbrev pub end_of : Mode → Summary → Status
end_of mode summary = if summary.found && is_quiet mode then Found else (if summary.left_out then LeftOut else (if summary.found then Found else NotFound))

-- a query was read, and its files were searched to the end
pub record IsSearched (told : Option Contents) (asked : Asked) (read : Option Form) (status : Status) (old new : Option (List ℕ)) (faults faults' steps steps' : ℕ) : Type 0 where
  pub form : Form
  pub form_is : read ≡ Some form
  pub summary : Summary
  pub status_is : status ≡ end_of asked.mode summary
  pub searched : AreSearched told (request_with asked form) asked.names.now summary old new faults faults' steps steps'

-- a query was read, and its files were searched as far as the search went
pub record IsBegun (told : Option Contents) (asked : Asked) (read : Option Form) (old new : Option (List ℕ)) : Type 0 where
  pub form : Form
  pub form_is : read ≡ Some form
  pub begun : AreBegun told (request_with asked form) asked.names.now old new

-- what holds if the search for a text ends as it does
abbrev pub TextEnds : Option Contents → Asked → List ℕ → Status → Option (List ℕ) → Option (List ℕ) → ℕ → ℕ → ℕ → ℕ → Type 0
TextEnds told asked text Found old new f f' s s' = IsSearched told asked (query_form text) Found old new f f' s s'
TextEnds told asked text NotFound old new f f' s s' = IsSearched told asked (query_form text) NotFound old new f f' s s'
TextEnds told asked text LeftOut old new f f' s s' = IsSearched told asked (query_form text) LeftOut old new f f' s s'
TextEnds told asked text (BadName fault) old new f f' s s' = ⊥
TextEnds told asked text (BadQuery fault) old new f f' s s' = refused text ≡ Some fault
TextEnds told asked text WriteFault old new f f' s s' = IsBegun told asked (query_form text) old new
TextEnds told asked text NoMemory old new f f' s s' = Unit {0}

-- what holds if a search ends as it does: what was written, and why it ended
abbrev pub Ends : Option Contents → Asked → Defined → List ℕ → Status → Option (List ℕ) → Option (List ℕ) → ℕ → ℕ → ℕ → ℕ → Type 0
Ends told asked defined query Found old new f f' s s' = IsSearched told asked (form_asked defined query) Found old new f f' s s'
Ends told asked defined query NotFound old new f f' s s' = IsSearched told asked (form_asked defined query) NotFound old new f f' s s'
Ends told asked defined query LeftOut old new f f' s s' = IsSearched told asked (form_asked defined query) LeftOut old new f f' s s'
Ends told asked defined query (BadName fault) old new f f' s s' = put_in defined query ≡ Err fault
Ends told asked defined query (BadQuery fault) old new f f' s s' = (text : List ℕ) × (put_in defined query ≡ Ok text) × (refused text ≡ Some fault)
Ends told asked defined query WriteFault old new f f' s s' = IsBegun told asked (form_asked defined query) old new
Ends told asked defined query NoMemory old new f f' s s' = Unit {0}

-- files were searched to the end, or as far as the search went
abbrev pub FilesEnd : Option Contents → Request → List (List ℕ) → Status → Option (List ℕ) → Option (List ℕ) → ℕ → ℕ → ℕ → ℕ → Type 0
FilesEnd told r names Found old new f f' s s' = (summary : Summary) × (Found ≡ end_of r.mode summary) × AreSearched told r names summary old new f f' s s'
FilesEnd told r names NotFound old new f f' s s' = (summary : Summary) × (NotFound ≡ end_of r.mode summary) × AreSearched told r names summary old new f f' s s'
FilesEnd told r names LeftOut old new f f' s s' = (summary : Summary) × (LeftOut ≡ end_of r.mode summary) × AreSearched told r names summary old new f f' s s'
FilesEnd told r names (BadName fault) old new f f' s s' = ⊥
FilesEnd told r names (BadQuery fault) old new f f' s s' = ⊥
FilesEnd told r names WriteFault old new f f' s s' = AreBegun told r names old new
FilesEnd told r names NoMemory old new f f' s s' = Unit {0}

-- the query is refused
abbrev pub IsRefusal : Status → Type 0
IsRefusal Found = ⊥
IsRefusal NotFound = ⊥
IsRefusal LeftOut = ⊥
IsRefusal (BadName fault) = Unit {0}
IsRefusal (BadQuery fault) = Unit {0}
IsRefusal WriteFault = ⊥
IsRefusal NoMemory = ⊥
