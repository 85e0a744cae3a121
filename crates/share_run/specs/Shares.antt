-- What a share leaves.
use Rattle.std.specs.Prelude.{ℕ, List, Option}
use Rattle.std.specs.Io.KnownBytes.{Appends}
use Rattle.shared_edit.specs.Books.{ClosedContent}
use Rattle.shared_edit.specs.Histories.{count_of, is_added, is_gone, is_refused}
use Rattle.share_run.specs.Text.{summary}
use Rattle.share_run.specs.Work.{AreSums}
use Rattle.share_run.specs.declared.options.ShareOptions.{ShareOptions}

-- the numbers of the journal are those of this many files and editors
abbrev pub HasSums : ShareOptions → ClosedContent → Type 0
HasSums options closed = AreSums options.count options.editors (count_of is_added closed.journal) (count_of is_gone closed.journal) (count_of is_refused closed.journal)

-- the whole text of what was closed was written, and the numbers in it are those of this many files and editors
pub record IsShared (options : ShareOptions) (closed : ClosedContent) (old new : Option (List ℕ)) : Type 0 where
  pub written : Appends old new (summary options.editors closed)
  pub sums : HasSums options closed
