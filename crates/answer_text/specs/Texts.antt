-- The lines that answer what is asked.
use Rattle.std.specs.Prelude.{ℕ, List, [], ◌∷◌, ◌++◌, length, map}
use Rattle.gcl_model.specs.Extents.{Extent}
use Rattle.address_space.specs.Runs.{FileEntry}
use Rattle.script_lang.specs.Answers.{interval_line, record_line, refusal_line, total_line}
use Rattle.script_lang.specs.declared.refusals.Refusal.{Refusal}
use Rattle.script_lang.specs.declared.refusals.Refusal.TheVariants.{Query}
use Rattle.query_lanes.specs.declared.asks.Found.{Found}
use Rattle.query_lanes.specs.declared.asks.Found.TheVariants.{List as Members, Total, Refused}

-- the one line of a refusal
abbrev pub refusal_lines : Refusal → List (List ℕ)
refusal_lines refusal = refusal_line refusal ∷ []

-- a line for each interval, and then their number
abbrev pub list_lines : List Extent → List (List ℕ)
list_lines list = map interval_line list ++ total_line (length list) ∷ []

-- a line for each of some files
abbrev pub record_lines : List FileEntry → List (List ℕ)
record_lines files = map record_line files

-- a line for each of some files, and then how many they are
abbrev pub listing_lines : List FileEntry → List (List ℕ)
listing_lines files = record_lines files ++ total_line (length files) ∷ []

-- the lines of what was found of a query
abbrev pub found_lines : Found → List (List ℕ)
found_lines (Members list) = list_lines list
found_lines (Total total) = total_line total ∷ []
found_lines (Refused fault) = refusal_lines (Query fault)
