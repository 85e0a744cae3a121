-- The lines of a file, and the lines that passages meet.
use Rattle.std.specs.Prelude.{ℕ, ◌+◌, ◌==◌, ◌&&◌, Bool, nat_lt, List, [], ◌∷◌, length, take, drop, filter, count_by}
use Rattle.std.specs.List.{list_any}
use Rattle.script_lang.specs.Lines.{cut_at_newlines}
use Rattle.passages.specs.declared.passage.Passage.{Passage}
use Rattle.passages.specs.declared.cursors.LineCursor.{LineCursor}

-- a line: its number, the place of its first byte, and its bytes without the newline
pub record Line : Type 0 where
  pub number : ℕ
  pub from : ℕ
  pub bytes : List ℕ

-- consecutive lines, the first with this number at this place: between each two is a newline
abbrev pub lines_from : ℕ → ℕ → List (List ℕ) → List Line
lines_from number from [] = []
lines_from number from (bytes ∷ rest) = record { number = number; from = from; bytes = bytes } ∷ lines_from (number + 1) (from + length bytes + 1) rest

-- the lines of a file: for "to", a newline and "be" they are "to" with number 1 at 0, and "be" with number 2 at 3
abbrev pub lines_of : List ℕ → List Line
lines_of bytes = lines_from 1 0 (cut_at_newlines bytes)

-- a byte of the passage is a byte of the line, or its newline
abbrev pub meets : Line → Passage → Bool
meets line p = nat_lt p.from p.to && (nat_lt p.from (line.from + length line.bytes + 1) && nat_lt line.from p.to)

-- the lines that some of these passages meet, each once
abbrev pub lines_met : List Passage → List Line → List Line
lines_met ps lines = filter (λ line. list_any (meets line) ps) lines

-- the number of the line that this place belongs to: one more than the newlines in front of it
abbrev pub line_number : List ℕ → ℕ → ℕ
line_number bytes place = 1 + count_by (λ b. b == 10) (take place bytes)

-- the lines starting at a cursor
abbrev pub lines_at : List ℕ → LineCursor → List Line
lines_at bytes cursor = lines_from cursor.number cursor.at (cut_at_newlines (drop cursor.at bytes))
