-- What is written about a share.
use Rattle.std.specs.Prelude.{◌≡◌, ℕ, List, [], ◌∷◌, ◌++◌, Option, length, codes, decimal}
use Rattle.std.specs.Io.KnownBytes.{Appends}
use Rattle.live_version.specs.Contents.{files_of}
use Rattle.script_lang.specs.Lines.{text_of_lines}
use Rattle.shared_edit.specs.Books.{ClosedContent}
use Rattle.shared_edit.specs.Histories.{count_of, is_added, is_gone, is_refused}

-- how many editors there were, how many adds and deletions of the journal were accepted and how many edits were refused, and how many files
-- there are, each on a line of its own
abbrev pub summary : ℕ → ClosedContent → List ℕ
summary editors closed = text_of_lines (
    (codes "editors " ++ decimal editors) ∷
    (codes "added " ++ decimal (count_of is_added closed.journal)) ∷
    (codes "gone " ++ decimal (count_of is_gone closed.journal)) ∷
    (codes "refused " ++ decimal (count_of is_refused closed.journal)) ∷
    (codes "files " ++ decimal (length (files_of closed.engine.version.slots))) ∷ [])

-- the sink got the beginning of a text, or all of it
pub record GetsPart (old new : Option (List ℕ)) (text : List ℕ) : Type 0 where
  pub part : List ℕ
  pub rest : List ℕ
  pub whole : text ≡ part ++ rest
  pub written : Appends old new part
