-- Readers that plan merges.
use Rattle.std.specs.Prelude.{◌≡◌, ⊤, Option, None, Some}
use Rattle.logbook.specs.Pages.{Book}
use Rattle.manifest_publish.specs.Accounts.{ReaderContent}

-- the reader is of the publisher, if there is one
abbrev pub IsOf : Book → Option ReaderContent → Type 0
IsOf publisher None = ⊤
IsOf publisher (Some reader) = reader.publisher ≡ publisher
