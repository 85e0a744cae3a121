-- The lines of answers, each without its newline.
use Rattle.std.specs.Prelude.{ℕ, ◌+◌, ◌-◌, ◌≡◌, Bool, List, ◌++◌, codes, decimal, if◌then◌else◌}
use Rattle.gcl_model.specs.Tokens.{starts_with_byte}
use Rattle.gcl_model.specs.Extents.{Extent}
use Rattle.address_space.specs.Runs.{FileEntry}
use Rattle.gcl_parser.specs.declared.fault.QueryFault.{QueryFault}
use Rattle.gcl_parser.specs.declared.fault.QueryKind.{QueryKind}
use Rattle.gcl_parser.specs.declared.fault.QueryKind.TheVariants.{OperandExpected, OperatorOrCloseExpected, EmptyTerm, BadPrefix, BadWidth, OpenQuote, Character, TooLarge, TooDeep}
use Rattle.script_lang.specs.declared.refusals.Refusal.{Refusal}
use Rattle.script_lang.specs.declared.refusals.Refusal.TheVariants.{Command, LongLine, Query, NoFile, TooLong, NoAddresses, NotEmpty, NotImage, NoWatch, TooManyWatches}

-- "file ID FIRST LAST" of a file that was added
abbrev pub file_line : ℕ → ℕ → ℕ → List ℕ
file_line id first last = codes "file " ++ decimal id ++ codes " " ++ decimal first ++ codes " " ++ decimal last

-- "gone ID" of a file that was deleted
abbrev pub gone_line : ℕ → List ℕ
gone_line id = codes "gone " ++ decimal id

-- "P Q" of an interval
abbrev pub interval_line : Extent → List ℕ
interval_line interval = decimal interval.start ++ codes " " ++ decimal interval.end

-- "= K" of a total
abbrev pub total_line : ℕ → List ℕ
total_line total = codes "= " ++ decimal total

-- "ID FIRST LAST NAME" of a surviving file
abbrev pub record_line : FileEntry → List ℕ
record_line file = decimal file.id ++ codes " " ++ decimal file.base ++ codes " " ++ decimal (file.base + file.len - 1) ++ codes " " ++ file.name

-- "merging", once a merge is asked for
abbrev pub merging_line : List ℕ
merging_line = codes "merging"

-- "shards N" of the number of slots
abbrev pub shards_line : ℕ → List ℕ
shards_line count = codes "shards " ++ decimal count

-- "saved BYTES" of an image of this length that was kept
abbrev pub saved_line : ℕ → List ℕ
saved_line bytes = codes "saved " ++ decimal bytes

-- "opened FILES" of an image with this number of files that was taken
abbrev pub opened_line : ℕ → List ℕ
opened_line files = codes "opened " ++ decimal files

-- "watch W" of the number that a watch was given
abbrev pub watch_line : ℕ → List ℕ
watch_line number = codes "watch " ++ decimal number

-- "unwatched W" of a watch that was ended
abbrev pub unwatched_line : ℕ → List ℕ
unwatched_line number = codes "unwatched " ++ decimal number

-- what is put before an interval that came, and before one that went
abbrev pub change_mark : Bool → List ℕ
change_mark came = if came then codes "+ " else codes "- "

-- "+ W P Q" of an interval that came, and "- W P Q" of one that went, by the number of the watch
abbrev pub change_line : ℕ → Bool → Extent → List ℕ
change_line number came interval = change_mark came ++ decimal number ++ codes " " ++ interval_line interval

-- what is wrong with a query, in words
abbrev pub kind_text : QueryKind → List ℕ
kind_text OperandExpected = codes "operand expected"
kind_text OperatorOrCloseExpected = codes "operator or close expected"
kind_text EmptyTerm = codes "empty term"
kind_text BadPrefix = codes "bad prefix"
kind_text BadWidth = codes "bad width"
kind_text OpenQuote = codes "open quote"
kind_text Character = codes "character"
kind_text TooLarge = codes "too large"
kind_text TooDeep = codes "too deep"

-- "! query at N: KIND"
abbrev pub query_line : QueryFault → List ℕ
query_line fault = codes "! query at " ++ decimal fault.at ++ codes ": " ++ kind_text fault.kind

-- the line of a refusal
abbrev pub refusal_line : Refusal → List ℕ
refusal_line Command = codes "! command"
refusal_line LongLine = codes "! long line"
refusal_line (Query fault) = query_line fault
refusal_line (NoFile id) = codes "! no file " ++ decimal id
refusal_line TooLong = codes "! file too long"
refusal_line NoAddresses = codes "! no addresses"
refusal_line NotEmpty = codes "! not empty"
refusal_line NotImage = codes "! not an image"
refusal_line (NoWatch number) = codes "! no watch " ++ decimal number
refusal_line TooManyWatches = codes "! too many watches"

-- the line begins with an exclamation mark: "! command" does, and "= 2" does not
abbrev pub is_refusal : List ℕ → Bool
is_refusal = starts_with_byte 33

-- the new bytes begin with the old ones
pub record Grows (old new : List ℕ) : Type 0 where
  pub more : List ℕ
  pub is : new ≡ old ++ more
