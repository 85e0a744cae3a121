-- The text that is written for a file's passages, for each way of writing them.
use Rattle.std.specs.Prelude.{ℕ, ◌+◌, List, [], ◌∷◌, ◌++◌, decimal, flat_map}
use Rattle.std.specs.List.{slice_range}
use Rattle.script_lang.specs.Lines.{cut_at_newlines}
use Rattle.passages.specs.declared.passage.Passage.{Passage}
use Rattle.passages.specs.declared.shown.Shown.{Shown}
use Rattle.passages.specs.declared.cursors.PartCursor.{PartCursor}
use Rattle.passages.specs.Lines.{Line, lines_of, lines_met, line_number}
use Rattle.passages.specs.Shown.{name_head, shown_line}

-- lines as they are written, each with `:` after its name and after its number
abbrev pub text_of_met : Shown → List Line → List ℕ
text_of_met shown lines = flat_map (λ line. shown_line shown 58 line.number line.bytes) lines

-- each line that some passage meets, once
abbrev pub lines_text : Shown → List ℕ → List Passage → List ℕ
lines_text shown bytes ps = text_of_met shown (lines_met ps (lines_of bytes))

-- the parts of a passage in its lines: an empty passage has one, which is empty
abbrev pub parts_of : List ℕ → List (List ℕ)
parts_of [] = [] ∷ []
parts_of (b ∷ bytes) = cut_at_newlines (b ∷ bytes)

-- parts in consecutive lines: this mark after the name and the number of the first, and `-` after those of each further part
abbrev pub parts_text : Shown → ℕ → ℕ → List (List ℕ) → List ℕ
parts_text shown mark number [] = []
parts_text shown mark number (part ∷ rest) = shown_line shown mark number part ++ parts_text shown 45 (number + 1) rest

-- a passage with all its parts
abbrev pub passage_text : Shown → List ℕ → Passage → List ℕ
passage_text shown bytes p = parts_text shown 58 (line_number bytes p.from) (parts_of (slice_range bytes p.from p.to))

-- each passage by itself
abbrev pub answers_text : Shown → List ℕ → List Passage → List ℕ
answers_text shown bytes ps = flat_map (passage_text shown bytes) ps

-- how many answers a file has
abbrev pub count_text : Shown → ℕ → List ℕ
count_text shown count = name_head shown.name 58 ++ decimal count ++ 10 ∷ []

-- a file's name
abbrev pub name_text : List ℕ → List ℕ
name_text name = name ++ 10 ∷ []

-- the text still to come of a passage that ends at `to`, with its next part at the cursor
abbrev pub parts_at : Shown → List ℕ → PartCursor → ℕ → List ℕ
parts_at shown bytes cursor to = parts_text shown cursor.mark cursor.number (parts_of (slice_range bytes cursor.at to))
