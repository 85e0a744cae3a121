-- Readers of one publisher, and what they know after they entered.
use Rattle.std.specs.Prelude.{◌≡◌, ℕ, ◌<◌, List, length, slice_index_or}
use Rattle.std.specs.List.{AllByRecursion}
use mathlib.Core.List.{IsPrefix}
use Rattle.logbook.specs.Pages.{Book}
use Rattle.live_version.specs.Contents.{VersionContent}
use Rattle.manifest_publish.specs.Accounts.{ReaderContent, GoesOn}

-- each reader is one of this publisher's
abbrev pub AreOf : Book → List ReaderContent → Type 0
AreOf publisher readers = AllByRecursion (λ reader. reader.publisher ≡ publisher) readers

-- the same for the reader at each place
abbrev pub EachIsOf : Book → List ReaderContent → Type 0
EachIsOf publisher readers = (i : ℕ) (d : ReaderContent) → i < length readers → (slice_index_or readers i d).publisher ≡ publisher

-- the reader knows no less than before: what it has seen has grown, and a history that goes on from all that it knows now goes on from all
-- that it knew
pub record IsLater (before after : ReaderContent) : Type 0 where
  pub publisher : after.publisher ≡ before.publisher
  pub seen : IsPrefix before.seen after.seen
  pub known : (history : List VersionContent) → GoesOn after history → GoesOn before history
