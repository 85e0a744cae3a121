-- The definitions of a run: those of its file, and those of its words.
use Rattle.std.specs.Prelude.{◌≡◌, ℕ, ◌==◌, ◌&&◌, ◌≤◌, ◌+◌, Bool, false, not, nat_le, List, [], ◌∷◌, length, map, filter, take, drop, Option, None, Some, Result, Ok, Err, IfSome, ⊤, if◌then◌else◌}
use Rattle.std.specs.List.{list_all, position_or_len}
use Rattle.outside.specs.Causes.{Rose}
use Rattle.outside.specs.Contents.{BeginsContent, Contents}
use Rattle.gcl_model.specs.Limits.{most_file}
use Rattle.gcl_parser.specs.Refusal.{refused}
use Rattle.gcl_parser.specs.declared.fault.QueryFault.{QueryFault}
use Rattle.script_lang.specs.Lines.{lines}
use Rattle.query_names.specs.Names.{Defined, is_name}
use Rattle.query_names.specs.PutIn.{most_query, put_in}
use Rattle.query_names.specs.declared.fault.NameFault.{NameFault}
use Rattle.query_names.specs.declared.fault.DefineFault.{DefineFault}
use Rattle.query_names.specs.declared.fault.DefineFault.TheVariants.{Name as FaultName, Query as FaultQuery, NoMemory as FaultNoMemory}
use Rattle.grep_run.specs.declared.defining.DefineRefusal.{DefineRefusal}
use Rattle.grep_run.specs.declared.defining.DefineRefusal.TheVariants.{NoName, Name, Query}
use Rattle.grep_run.specs.declared.defining.DefineStop.{DefineStop}
use Rattle.grep_run.specs.declared.defining.DefineStop.TheVariants.{Refused, NoMemory}
use Rattle.grep_run.specs.declared.definitions_file.FileStop.{FileStop}
use Rattle.grep_run.specs.declared.definitions_file.FileStop.TheVariants.{Failed, TooLong, NoLines, NoMemory as FileNoMemory}

-- `=`
abbrev pub is_equals : ℕ → Bool
is_equals b = b == 61

-- a name in front of a query, which begins after one byte; None if the name is not a name
abbrev pub parts_at : List ℕ → List ℕ → Option (List ℕ × List ℕ)
parts_at name [] = None
parts_at name (b ∷ query) = if is_name name then Some (name, query) else None

-- the name and the query of `NAME=QUERY`, None if there is no `=`, or no name in front of the first one
abbrev pub parts_of : List ℕ → Option (List ℕ × List ℕ)
parts_of text = parts_at (take (position_or_len is_equals text) text) (drop (position_or_len is_equals text) text)

-- a name, defined as a text in which all names are put in, if that is a query
abbrev pub defined_as : Defined → List ℕ → List ℕ → Option QueryFault → Result Defined DefineRefusal
defined_as defined name query None = Ok ((name, query) ∷ defined)
defined_as defined name query (Some fault) = Err (Query fault)

-- the same, if the names can be put in
abbrev pub defined_with : Defined → List ℕ → Result (List ℕ) NameFault → Result Defined DefineRefusal
defined_with defined name (Ok query) = defined_as defined name query (refused query)
defined_with defined name (Err fault) = Err (Name fault)

-- the same, for a name and a query, if there are any
abbrev pub defined_by_parts : Defined → Option (List ℕ × List ℕ) → Result Defined DefineRefusal
defined_by_parts defined None = Err NoName
defined_by_parts defined (Some parts) = defined_with defined parts.0 (put_in defined parts.1)

-- what is defined after `NAME=QUERY`, or why that is refused: the query may use the names that were defined before
abbrev pub defined_by : Defined → List ℕ → Result Defined DefineRefusal
defined_by defined text = defined_by_parts defined (parts_of text)

-- the first refusal, or what comes next
abbrev pub define_next : (Defined → Result Defined DefineRefusal) → Result Defined DefineRefusal → Result Defined DefineRefusal
define_next next (Ok defined) = next defined
define_next next (Err refusal) = Err refusal

-- what is defined after these definitions, one after another
abbrev pub defined_by_all : Defined → List (List ℕ) → Result Defined DefineRefusal
defined_by_all defined [] = Ok defined
defined_by_all defined (text ∷ texts) = define_next (λ more. defined_by_all more texts) (defined_by defined text)

-- a stop is a refusal, or there is no memory
abbrev pub IsStopOf : Result Defined DefineRefusal → DefineStop → Type 0
IsStopOf result (Refused refusal) = result ≡ Err refusal
IsStopOf result NoMemory = ⊤

-- the stop that a definition's fault becomes
abbrev pub stop_of : DefineFault → DefineStop
stop_of (FaultName fault) = Refused (Name fault)
stop_of (FaultQuery fault) = Refused (Query fault)
stop_of FaultNoMemory = NoMemory

-- ---- the definitions of a file

-- a line that is a definition: it is not empty, and does not begin with `#`
abbrev pub says_something : List ℕ → Bool
says_something [] = false
says_something (b ∷ rest) = not (b == 35)

-- the most definitions that a file may have
abbrev pub most_definitions : ℕ
most_definitions = 256

-- such lines of a file
abbrev pub definition_lines : List ℕ → List (List ℕ)
definition_lines bytes = filter says_something (map (λ line. line.bytes) (lines most_query bytes))

-- each line has at most as many bytes as a query
abbrev pub are_short : List ℕ → Bool
are_short bytes = list_all (λ line. not line.long) (lines most_query bytes)

-- the definitions of a file, None if a line is too long or there are too many
abbrev pub definitions_in : List ℕ → Option (List (List ℕ))
definitions_in bytes = if are_short bytes && nat_le (length (definition_lines bytes)) most_definitions then Some (definition_lines bytes) else None

-- if it is known what the files hold: these are the definitions of the file of this name, or none if no file is named
abbrev pub AreOfFile : Option Contents → Option (List ℕ) → List (List ℕ) → Type 0
AreOfFile told None texts = texts ≡ []
AreOfFile told (Some name) texts = (bytes : List ℕ) × (length bytes ≤ most_file) × IfSome told (λ contents. contents name ≡ Some bytes) × (definitions_in bytes ≡ Some texts)

-- why there are no definitions: the file cannot be loaded, is longer than a file may be, or its lines give none
abbrev pub HasFileStopCause : Option Contents → Option (List ℕ) → ℕ → ℕ → FileStop → Type 0
HasFileStopCause told None faults faults' stop = stop ≡ FileNoMemory
HasFileStopCause told (Some name) faults faults' Failed = Rose faults faults'
HasFileStopCause told (Some name) faults faults' TooLong = IfSome told (λ contents. (text : List ℕ) × (length text ≡ most_file + 1) × BeginsContent contents name text)
HasFileStopCause told (Some name) faults faults' NoLines = (bytes : List ℕ) × (length bytes ≤ most_file) × IfSome told (λ contents. contents name ≡ Some bytes) × (definitions_in bytes ≡ None)
HasFileStopCause told (Some name) faults faults' FileNoMemory = ⊤
