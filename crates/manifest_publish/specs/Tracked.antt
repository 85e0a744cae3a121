-- What a reader keeps, so that it knows what is due to it.
use Rattle.std.specs.Prelude.{◌≡◌, ◌≢◌, Bool, MatchBool, List, []}
use mathlib.Core.List.{IsPrefix}
use Rattle.live_version.specs.Contents.{VersionContent}
use Rattle.manifest_publish.specs.Histories.{IsLawful}
use Rattle.manifest_publish.specs.Accounts.{Account, BeginWith}

-- a lawful history of the same publisher that begins with all that is due
abbrev pub HasAll : Account → Account → Type 0
HasAll due found = (found.publisher ≡ due.publisher) × IsLawful found.history × IsPrefix due.history found.history

-- What is due begins with all that the reader has seen and learnt. `learnt` says whether it learnt anything
pub record IsTracked (seen due kept : Account) (told : List (List VersionContent)) (learnt : Bool) : Type 0 where
  pub publishers : (due.publisher ≡ seen.publisher) × (kept.publisher ≡ seen.publisher)
  pub told_due : BeginWith told due.history
  pub seen_due : IsPrefix seen.history due.history
  pub kept_seen : IsPrefix kept.history seen.history
  pub learns : MatchBool learnt (told ≢ []) (told ≡ [])
