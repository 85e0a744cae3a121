-- For proofs only: where lines and passages begin.
use Rattle.std.specs.Prelude.{◌≡◌, ℕ, ◌+◌, ◌≤◌, List, length}
use Rattle.std.specs.List.{AllByRecursion}
use Rattle.passages.specs.declared.passage.Passage.{Passage}
use Rattle.passages.specs.declared.cursors.LineCursor.{LineCursor}
use Rattle.passages.specs.declared.cursors.NumberedPlace.{NumberedPlace}
use Rattle.passages.specs.declared.cursors.PartCursor.{PartCursor}
use Rattle.passages.specs.Lines.{line_number}

-- none of these passages begins in front of the place
abbrev pub BeginFrom : ℕ → List Passage → Type 0
BeginFrom place ps = AllByRecursion (λ p. place ≤ p.from) ps

-- the cursor is within the file, and its number is at most one more than its place
pub record IsLineStart (bytes : List ℕ) (cursor : LineCursor) : Type 0 where
  pub within : cursor.at ≤ length bytes
  pub few : cursor.number ≤ cursor.at + 1

-- the place is within the file, and the number is that of its line
pub record IsNumbered (bytes : List ℕ) (place : NumberedPlace) : Type 0 where
  pub within : place.at ≤ length bytes
  pub number_is : place.number ≡ line_number bytes place.at

-- the next part of a passage begins at or in front of its end
pub record IsPartStart (to : ℕ) (cursor : PartCursor) : Type 0 where
  pub before : cursor.at ≤ to
  pub few : cursor.number ≤ cursor.at + 1
