-- What is published, and the rule that binds a publisher and its readers.
use Rattle.std.specs.Prelude.{◌≡◌, ℕ, true, false, List, [], ◌∷◌, Option}
use mathlib.Core.Option.{some}
use lib.ListN.{get_elem?}
use Rattle.atomic_table.specs.declared.shared.Seat.{Seat}
use Rattle.left_right.specs.declared.part.Part.{Part}
use Rattle.left_right.specs.declared.board.Doing.{Doing}
use Rattle.logbook.specs.Pages.{Book, Named}
use Rattle.live_version.specs.Contents.{VersionContent}
use Rattle.live_version.specs.Changes.{empty_version}
use Rattle.manifest_publish.specs.Accounts.{Account}
use Rattle.manifest_publish.specs.Log.{head_of}

-- which publisher the value is of, the version that it was to show, and, if it shows it, the history up to there
pub record ShownContent : Type 0 where
  pub publisher : Book
  pub version : VersionContent
  pub pass : Option Account

-- what is shown of a publisher
abbrev pub shown_content : Book → VersionContent → Option Account → ShownContent
shown_content publisher version pass = record { publisher = publisher; version = version; pass = pass }

-- the history so far, and the version that is to be added
pub record NextContent : Type 0 where
  pub publisher : Book
  pub history : List VersionContent
  pub version : VersionContent

-- the first of them, or some version if there is none
abbrev pub first_of : List VersionContent → VersionContent
first_of [] = empty_version 0
first_of (v ∷ vs) = v

-- one that knows of no publisher yet
abbrev pub newcomer : Named
newcomer = record { tracked = false; key = 0; book = record { number = 0; log_name = 0; cells_name = 0 } }

-- each seat that knows of a publisher knows of the one whose value this is
abbrev pub Keeps : ShownContent → List Named → Type 0
Keeps shown views = (seat : ℕ) (v : Named) → get_elem? views seat ≡ some v → v.tracked ≡ true → v ≡ head_of shown.publisher

-- what a seat knows
abbrev pub known : Seat (Option (Part ShownContent)) (Doing ShownContent Named) → Named
known seat = seat.me.0.client
