-- What contracts see of a publisher, its receipts, its readers and their passes.
use Rattle.std.specs.Prelude.{◌≡◌, ◌≢◌, ◌⊎◌, ℕ, List, []}
use Rattle.std.specs.List.{AllByRecursion}
use mathlib.Core.List.{IsPrefix}
use Rattle.logbook.specs.Pages.{Book}
use Rattle.live_version.specs.Contents.{VersionContent}
use Rattle.manifest_publish.specs.Histories.{IsLawful, IsLatest}

-- which publisher it is of, and the versions up to some moment: what is seen of a publisher and of a pass
pub record Account : Type 0 where
  pub publisher : Book
  pub history : List VersionContent

-- the account of a publisher with this history
abbrev pub account : Book → List VersionContent → Account
account publisher history = record { publisher = publisher; history = history }

-- the history is lawful, and this is its last version
abbrev pub EndsWith : List VersionContent → VersionContent → Type 0
EndsWith history v = IsLawful history × IsLatest history v

-- what is seen of a receipt: whose it is, the versions that it vouches for, and two numbers
pub record ReceiptContent : Type 0 where
  pub publisher : Book
  pub history : List VersionContent
  pub number : ℕ
  pub edition : ℕ

-- what contracts see of a receipt
abbrev pub receipt_content : Book → List VersionContent → ℕ → ℕ → ReceiptContent
receipt_content publisher history number edition = record { publisher = publisher; history = history; number = number; edition = edition }

-- the receipt vouches for all of this history, and its numbers are those of the last version
pub record VouchesFor (receipt : ReceiptContent) (all : Account) : Type 0 where
  pub same_publisher : receipt.publisher ≡ all.publisher
  pub same_history : receipt.history ≡ all.history
  pub last : VersionContent
  pub ends : EndsWith all.history last
  pub same_number : receipt.number ≡ last.number
  pub same_edition : receipt.edition ≡ last.edition

-- which publisher a reader is of; the history up to the last version that it reached; the histories of the receipts that it
-- learnt since; and the history of its last pass
pub record ReaderContent : Type 0 where
  pub publisher : Book
  pub seen : List VersionContent
  pub told : List (List VersionContent)
  pub kept : List VersionContent

-- what contracts see of a reader
abbrev pub reader_content : Book → List VersionContent → List (List VersionContent) → List VersionContent → ReaderContent
reader_content publisher seen told kept = record { publisher = publisher; seen = seen; told = told; kept = kept }

-- a reader that entered the last version of this history, and learnt nothing since
abbrev pub with_pass : Book → List VersionContent → ReaderContent
with_pass publisher history = reader_content publisher history [] history

-- the history begins with each of these lists
abbrev pub BeginWith : List (List VersionContent) → List VersionContent → Type 0
BeginWith told history = AllByRecursion (λ list. IsPrefix list history) told

-- the history begins with all that the reader has seen and learnt
abbrev pub GoesOn : ReaderContent → List VersionContent → Type 0
GoesOn r history = IsPrefix r.seen history × BeginWith r.told history

-- a lawful history of the reader's publisher that continues all that the reader has seen and learnt
abbrev pub MayEnter : ReaderContent → Account → Type 0
MayEnter r found = (found.publisher ≡ r.publisher) × IsLawful found.history × GoesOn r found.history

-- it learnt a receipt since it last entered, or it reached a version that it could not keep
abbrev pub IsOwed : ReaderContent → Type 0
IsOwed r = (r.told ≢ []) ⊎ (r.seen ≢ r.kept)

-- a version was reached, and its pass was not kept: what was seen is the history up to there
abbrev pub reached : ReaderContent → Account → ReaderContent
reached r found = reader_content r.publisher found.history [] r.kept

-- an entering ran out of memory: nothing changed, or a version was reached that was not kept
abbrev pub IsRefused : ReaderContent → ReaderContent → Type 0
IsRefused before after = (after ≡ before) ⊎ ((found : Account) × MayEnter before found × (after ≡ reached before found))
