-- The script over made files.
use Rattle.std.specs.Prelude.{◌≡◌, ℕ, zero, suc, ◌+◌, ◌%◌, ◌^◌, ◌==◌, nat_lt, List, [], ◌∷◌, ◌++◌, codes, decimal, if◌then◌else◌}
use Rattle.script_lang.specs.Lines.{text_of_lines}
use Rattle.made_corpus.specs.Draws.{next_state, draw, state_after}
use Rattle.made_corpus.specs.MadeFiles.{name_of}

-- lines whose parts were drawn, and the state after them
pub record DrawnLines : Type 0 where
  pub lines : List (List ℕ)
  pub state : ℕ

-- lines, and then those that are drawn next
abbrev pub followed : DrawnLines → (ℕ → DrawnLines) → DrawnLines
followed drawn next = record { lines = drawn.lines ++ (next drawn.state).lines; state = (next drawn.state).state }

-- a line, and the state after it
abbrev pub one_line : List ℕ → ℕ → DrawnLines
one_line line state = record { lines = line ∷ []; state = state }

-- a quoted word: of 7 it is "w7", with its quotes
abbrev pub quoted : ℕ → List ℕ
quoted n = codes "\"w" ++ decimal n ++ codes "\""

-- file i is added
abbrev pub add_from : ℕ → ℕ → DrawnLines
add_from i state = one_line (codes "add " ++ name_of i) state

-- by a number below 10: one of the files up to i is deleted, a merge is asked for, the slots are counted, or there is no line
abbrev pub change_by : ℕ → ℕ → ℕ → DrawnLines
change_by i kind state = if nat_lt kind 2 then one_line (codes "del " ++ decimal (draw state (i + 1))) (next_state state)
    else (if kind == 2 then one_line (codes "merge") state
    else (if kind == 3 then one_line (codes "shards") state else record { lines = []; state = state }))

-- the same by a number that is drawn
abbrev pub change_from : ℕ → ℕ → DrawnLines
change_from i state = change_by i (draw state 10) (next_state state)

-- a word that is followed by another
abbrev pub find_from : ℕ → DrawnLines
find_from state = one_line (codes "find " ++ quoted (draw state 50) ++ codes ".." ++ quoted (draw (next_state state) 50)) (state_after 2 state)

-- the parts that contain a word
abbrev pub count_from : ℕ → DrawnLines
count_from state = one_line (codes "count (\"<s>\"..\"</s>\") > " ++ quoted (draw state 50)) (state_after 1 state)

-- two words that are within 20 of each other
abbrev pub top_from : ℕ → DrawnLines
top_from state = one_line (codes "top 5 (" ++ quoted (draw state 50) ++ codes "^" ++ quoted (draw (next_state state) 50) ++ codes ") < [20]") (state_after 2 state)

-- file i is added, what is there changes, and three queries follow
abbrev pub turn_from : ℕ → ℕ → DrawnLines
turn_from i state = followed (followed (followed (followed (add_from i state) (change_from i)) find_from) count_from) top_from

-- the lines of n turns, starting with file i
abbrev pub turns_from : ℕ → ℕ → ℕ → List (List ℕ)
turns_from zero i state = []
turns_from (suc n) i state = (turn_from i state).lines ++ turns_from n (i + 1) (turn_from i state).state

-- the lines of the script: a turn for each file
abbrev pub made_lines : ℕ → ℕ → List (List ℕ)
made_lines start count = turns_from count 0 ((start + 2 ^ 40) % 2 ^ 64)

-- the lines were appended, and this is the state after them
pub record HasDrawnLines (drawn : DrawnLines) (old new : List ℕ) (after : ℕ) : Type 0 where
  pub text : new ≡ old ++ text_of_lines drawn.lines
  pub state : after ≡ drawn.state

-- the script
abbrev pub made_text : ℕ → ℕ → List ℕ
made_text start count = text_of_lines (made_lines start count)
