-- What the lanes of a batch have done.
use Rattle.std.specs.Prelude.{◌≡◌, ℕ, ◌+◌, ◌*◌, ◌≤◌, ◌<◌, Bool, true, List, [], ◌∷◌, ◌++◌, length, slice_get, slice_index_or, Option, Some}
use mathlib.Core.List.{IsPrefix}
use Rattle.gcl_model.specs.Texts.{Text}
use Rattle.live_version.specs.Contents.{VersionContent, version_text}
use Rattle.manifest_publish.specs.Accounts.{ReaderContent, EndsWith, GoesOn}
use Rattle.query_lanes.specs.declared.asks.Ask.{Ask}
use Rattle.query_lanes.specs.declared.lane.Made.{Made}
use Rattle.query_lanes.specs.declared.lane.Work.{Work}
use Rattle.query_lanes.specs.Answers.{answer_in}
use Rattle.query_lanes.specs.Readers.{IsLater}

-- The answer was made on the last version of a history that goes on from all that the reader knew before, and that the reader has seen by
-- now
pub record IsMadeOn (ask : Ask) (before after : ReaderContent) (made : Made) : Type 0 where
  pub history : List VersionContent
  pub version : VersionContent
  pub ends : EndsWith history version
  pub from : GoesOn before history
  pub seen : IsPrefix history after.seen
  pub number : made.number ≡ version.number
  pub found : made.found ≡ answer_in (version_text version) ask

-- the k-th answer of a lane, if there is one, is to the k-th of its queries: every `lanes`-th query, starting with the one at `at`
abbrev pub AreMadeOn : List Ask → ℕ → ℕ → ReaderContent → ReaderContent → List (Option Made) → Type 0
AreMadeOn asks lanes at before after answers = (k : ℕ) (made : Made) (ask : Ask) → slice_get answers k ≡ Some (Some made)
    → slice_get asks (at + k * lanes) ≡ Some ask → IsMadeOn ask before after made

-- a lane has answered its queries
pub record IsRun (asks : List Ask) (lanes at : ℕ) (before after : ReaderContent) (work : Work) : Type 0 where
  pub later : IsLater before after
  pub made : AreMadeOn asks lanes at before after work.made.items

-- this lane and those after it have answered their queries
pub record AreRun (asks : List Ask) (lanes from : ℕ) (before after : List ReaderContent) (works : List Work) : Type 0 where
  pub readers : length after ≡ length before
  pub works_are : length works ≡ length before
  pub later : (i : ℕ) (d : ReaderContent) → i < length before → IsLater (slice_index_or before i d) (slice_index_or after i d)
  pub made : (i : ℕ) (d : ReaderContent) (e : Work) → i < length before
      → AreMadeOn asks lanes (from + i) (slice_index_or before i d) (slice_index_or after i d) (slice_index_or works i e).made.items

-- the reader was notified of one more history
pub record IsTold (history : List VersionContent) (before after : ReaderContent) : Type 0 where
  pub publisher : after.publisher ≡ before.publisher
  pub seen : after.seen ≡ before.seen
  pub told : after.told ≡ before.told ++ history ∷ []

-- each reader was
pub record AreTold (history : List VersionContent) (before after : List ReaderContent) : Type 0 where
  pub count : length after ≡ length before
  pub each : (i : ℕ) (d : ReaderContent) → i < length before → IsTold history (slice_index_or before i d) (slice_index_or after i d)

-- the reader was notified of the history, and if it has entered since, what it has seen goes on from that and from what it had seen
pub record IsSettled (history : List VersionContent) (before after : ReaderContent) (work work' : Work) : Type 0 where
  pub publisher : after.publisher ≡ before.publisher
  pub same : work'.made ≡ work.made
  pub knows : work'.is_settled ≡ true → IsPrefix history after.seen
  pub keeps : work'.is_settled ≡ true → IsPrefix before.seen after.seen

-- each reader was
pub record AreSettled (history : List VersionContent) (before after : List ReaderContent) (works works' : List Work) : Type 0 where
  pub readers : length after ≡ length before
  pub works_are : length works' ≡ length works
  pub each : (i : ℕ) (d : ReaderContent) (e : Work) → i < length before
      → IsSettled history (slice_index_or before i d) (slice_index_or after i d) (slice_index_or works i e) (slice_index_or works' i e)

-- an answer counts if the lane's reader entered after the batch and the version is no later than the engine's last one
abbrev pub Counts : Bool → ℕ → ℕ → Type 0
Counts settled last number = (settled ≡ true) × (number ≤ last)

-- each answer of a lane that counts, if the last version has this number, is the answer over a text
abbrev pub IsTrusted : List Ask → ℕ → ℕ → Text → ℕ → Work → Type 0
IsTrusted asks lanes last text at work = (k : ℕ) (made : Made) (ask : Ask) → slice_get work.made.items k ≡ Some (Some made)
    → slice_get asks (at + k * lanes) ≡ Some ask → Counts work.is_settled last made.number → made.found ≡ answer_in text ask

-- the same for each lane
abbrev pub AreTrusted : List Ask → ℕ → Text → List Work → Type 0
AreTrusted asks last text works = (i : ℕ) (e : Work) → i < length works → IsTrusted asks (length works) last text i (slice_index_or works i e)
