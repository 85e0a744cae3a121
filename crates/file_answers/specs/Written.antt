-- What a sink gets of a text, a piece at a time.
use Rattle.std.specs.Prelude.{◌≡◌, ℕ, List, ◌++◌, Option}
use Rattle.std.specs.Io.KnownBytes.{Appends}

-- the first of the bytes that were to be written were written, and these are left
pub record Moves (old new : Option (List ℕ)) (all left : List ℕ) : Type 0 where
  pub part : List ℕ
  pub whole : all ≡ part ++ left
  pub written : Appends old new part

-- the sink got the beginning of a text, or all of it
pub record GetsPart (old new : Option (List ℕ)) (text : List ℕ) : Type 0 where
  pub left : List ℕ
  pub moves : Moves old new text left
