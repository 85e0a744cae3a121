-- The lines of a text, and where one of them is.
use Rattle.std.specs.Prelude.{ℕ, ◌-◌, ◌<◌, ◌≤◌, ◌==◌, Bool, true, false, nat_lt, nat_eq, List, [], ◌∷◌, ◌++◌, length, take, drop, map, flat_map, min, ◌+◌, if◌then◌else◌, ◌≡◌}
use Rattle.std.specs.List.{onto_first, ends_with, slice_range, position_or_len}
use Rattle.script_lang.specs.Blanks.{without_front, without_back}
use Rattle.script_lang.specs.declared.line_cut.LineCut.{LineCut}

-- a line of a script: whether it is long, and else what it says
pub record Line : Type 0 where
  pub long : Bool
  pub bytes : List ℕ

-- the text cut at each newline; what comes after the last newline counts if there is anything
abbrev pub cut_at_newlines : List ℕ → List (List ℕ)
cut_at_newlines [] = []
cut_at_newlines (b ∷ rest) = if b == 10 then [] ∷ cut_at_newlines rest else onto_first b (cut_at_newlines rest)

-- the bytes without one carriage return at their end
abbrev pub without_return : List ℕ → List ℕ
without_return bytes = if ends_with nat_eq bytes (13 ∷ []) then take (length bytes - 1) bytes else bytes

-- a line of more than `most` bytes is long; of any other a carriage return at its end is dropped, and then the blanks at both ends
abbrev pub line_of : ℕ → List ℕ → Line
line_of most bytes = if nat_lt most (length bytes) then record { long = true; bytes = [] }
    else record { long = false; bytes = without_front (without_back (without_return bytes)) }

-- the lines of a text
abbrev pub lines : ℕ → List ℕ → List Line
lines most text = map (line_of most) (cut_at_newlines text)

-- lines written out, each with its newline
abbrev pub text_of_lines : List (List ℕ) → List ℕ
text_of_lines = flat_map (λ line. line ++ 10 ∷ [])

-- the byte before others, or nothing if nothing follows
abbrev pub before_any : ℕ → List ℕ → List ℕ
before_any b [] = []
before_any b (c ∷ cs) = b ∷ c ∷ cs

-- the bytes up to and including the last newline
abbrev pub ended : List ℕ → List ℕ
ended [] = []
ended (b ∷ rest) = if b == 10 then 10 ∷ ended rest else before_any b (ended rest)

-- the line that a cut of the text gives
abbrev pub line_of_cut : List ℕ → LineCut → Line
line_of_cut text cut = record { long = cut.long; bytes = slice_range text cut.from cut.to }

-- where the line that begins at this place ends: at its newline, or at the end of the text
abbrev pub line_end : List ℕ → ℕ → ℕ
line_end text at = at + position_or_len (λ b. b == 10) (drop at text)

-- the places of a cut at this place of the text: the next line begins after the newline, or at the end of the text if there is none
pub record IsCut (text : List ℕ) (at : ℕ) (cut : LineCut) : Type 0 where
  pub after_is : cut.after ≡ min (line_end text at + 1) (length text)
  pub further : at < cut.after
  pub in_text : cut.after ≤ length text
  pub behind : at ≤ cut.from
  pub ordered : cut.from ≤ cut.to
  pub before : cut.to ≤ cut.after
  pub from_of_long : cut.long ≡ true → cut.from ≡ at
  pub to_of_long : cut.long ≡ true → cut.to ≡ at
