-- Loops over readers, each changed in its turn.
use Rattle.std.proofs.Common.{◌≡◌, ℕ, ◌≤◌, ◌<◌, List, length, slice_index_or}
use Rattle.live_version.specs.Contents.{VersionContent}
use Rattle.manifest_publish.specs.Accounts.{ReaderContent}
use Rattle.query_lanes.specs.declared.lane.Work.{Work}
use Rattle.query_lanes.specs.inner.Lanes.{IsTold, IsSettled}

-- the readers below a place were notified, and the others are as before
pub record ToldUpto (history : List VersionContent) (place : ℕ) (before after : List ReaderContent) : Type 0 where
  pub count : length after ≡ length before
  pub below : (i : ℕ) (d : ReaderContent) → i < place → IsTold history (slice_index_or before i d) (slice_index_or after i d)
  pub rest : (i : ℕ) (d : ReaderContent) → place ≤ i → slice_index_or after i d ≡ slice_index_or before i d

-- the lanes below a place are settled, and the others are as before
pub record SettledUpto (history : List VersionContent) (place : ℕ) (before after : List ReaderContent) (works works' : List Work) : Type 0 where
  pub readers : length after ≡ length before
  pub works_are : length works' ≡ length works
  pub below : (i : ℕ) (d : ReaderContent) (e : Work) → i < place → IsSettled history (slice_index_or before i d) (slice_index_or after i d) (slice_index_or works i e) (slice_index_or works' i e)
  pub rest : (i : ℕ) (d : ReaderContent) → place ≤ i → slice_index_or after i d ≡ slice_index_or before i d
  pub rest_works : (i : ℕ) (e : Work) → place ≤ i → slice_index_or works' i e ≡ slice_index_or works i e
