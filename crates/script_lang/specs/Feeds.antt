-- What a feed of lines holds, and what is taken from it.
use Rattle.std.specs.Prelude.{◌≡◌, ℕ, ◌+◌, ◌<◌, ◌≤◌, ◌==◌, Bool, true, false, List, [], ◌∷◌, ◌++◌, length, drop, Option, None, Some}
use Rattle.std.specs.List.{list_any}
use Rattle.script_lang.specs.Lines.{Line as ScriptLine, lines, line_end}
use Rattle.script_lang.specs.declared.taken.Taken.{Taken}
use Rattle.script_lang.specs.declared.taken.Taken.TheVariants.{Line, Long, More}

-- the bytes that are held, and how many a line may have
pub record Feed : Type 0 where
  pub most : ℕ
  pub held : List ℕ

-- one of the bytes is a newline
abbrev pub has_newline : List ℕ → Bool
has_newline = list_any (λ b. b == 10)

-- the first line is there whole, and has more bytes than a line may have
pub record BeginsLong (feed : Feed) : Type 0 where
  pub ended : has_newline feed.held ≡ true
  pub over : feed.most < line_end feed.held 0

-- what is after the last newline has at most one byte more than a line may have: more would change nothing
abbrev pub HasShortEnd : ℕ → List ℕ → Type 0
HasShortEnd most bytes = (k : ℕ) → has_newline (drop k bytes) ≡ false → length bytes ≤ k + (most + 1)

-- the line that was taken: "More" means none
abbrev pub line_taken : Taken → Option ScriptLine
line_taken (Line bytes) = Some (record { long = false; bytes = bytes })
line_taken Long = Some (record { long = true; bytes = [] })
line_taken More = None

-- the line is the first of what was held, whatever follows, and the rest is held now
pub record IsTakenFrom (old new : Feed) (line : ScriptLine) : Type 0 where
  pub first : (later : List ℕ) → lines old.most (old.held ++ later) ≡ line ∷ lines old.most (new.held ++ later)
  pub fewer : length new.held < length old.held
