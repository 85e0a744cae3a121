-- A merge changes no text.
use Rattle.std.proofs.Common.{◌≡◌, Bool, true, false, ℕ, ◌+◌, ◌≤◌, ◌⊎◌, inl, inr, List, [], ◌∷◌, ◌++◌, length, slice_get, Some, refl, ap, sym, ◌∙◌, subst, arith, length-append}
use Rattle.std.proofs.lemmas.Option.{slice_get_within}
use Rattle.gcl_model.specs.Collections.{Collection, text_of}
use Rattle.live_version.specs.Contents.{VersionContent, version_text}
use Rattle.live_version.specs.StandsFor.{StandsFor, Keeps}
use Rattle.manifest_publish.specs.Accounts.{EndsWith}
use Rattle.manifest_publish.proofs.HistoryLemmas.{latest-number}
use Rattle.manifest_publish.proofs.PlaceLemmas.{each-stands}
use Rattle.collection.specs.Engines.{EngineContent}
use Rattle.query_lanes.specs.Merges.{IsMerged, IsMergedWhere, HasOneText}
use Rattle.query_lanes.proofs.ListLemmas.{get_behind, get_more}

-- the last version is at the place of its number
pub latest_at : (history : List VersionContent) (v : VersionContent) → EndsWith history v → slice_get history v.number ≡ Some v
latest_at history v ends =
    let count : v.number + 1 ≡ length history = latest-number history v ends.0 ends.1 in
    let all : length history ≡ length ends.1.0 + 1 = ap length ends.1.1 ∙ length-append ends.1.0 (v ∷ []) in
    let place : length ends.1.0 ≡ v.number = omega arith in
    let P : ℕ → Type 0 = λ k. slice_get history k ≡ Some v in
    subst P place (subst (λ (l : List VersionContent). slice_get l (length ends.1.0) ≡ Some v) (sym ends.1.1) (get_behind ends.1.0 v))

-- what is at the last place is the last version
last_is : (history : List VersionContent) (v w : VersionContent) (i : ℕ) → EndsWith history v → length history ≤ i + 1 → slice_get history i ≡ Some w → w ≡ v
last_is history v w i ends far here =
    let count : v.number + 1 ≡ length history = latest-number history v ends.0 ends.1 in
    let within = slice_get_within history i w here in
    let place : i ≡ v.number = omega arith in
    let at : slice_get history i ≡ Some v = subst (λ (k : ℕ). slice_get history k ≡ Some v) (sym place) (latest_at history v ends) in
    cc (here, at)

-- a version that stands for a collection has its text
pub same_text : (v : VersionContent) (c : Collection) → StandsFor v c → version_text v ≡ text_of c
same_text v c stands = rw (stands.first, stands.next, stands.words) refl

-- a version that stands for all that the last one of a history stands for has its text
kept_text : (history : List VersionContent) (v w : VersionContent) → EndsWith history v → Keeps v w → version_text v ≡ version_text w
kept_text history v w ends keeps =
    let stands = each-stands history v.number v ends.0 (latest_at history v ends) in
    same_text v stands.0 stands.1 ∙ sym (same_text w stands.0 (keeps stands.0 stands.1))

-- all slots were merged
merged_text : (old new : EngineContent) → EndsWith old.history old.version → IsMerged old new → HasOneText old new
merged_text old new ends merged =
    let history : new.history ≡ old.history ++ new.version ∷ [] = merged.1.published.history in
    record {
      ends = (merged.1.published.receipt.ends.0, (old.history, history));
      texts = λ i v far here. text_at i v far (get_more old.history new.version i v (subst (λ (l : List VersionContent). slice_get l i ≡ Some v) history here));
    }
  where
    text_at : (i : ℕ) (v : VersionContent) → length old.history ≤ i + 1 → (slice_get old.history i ≡ Some v) ⊎ ((i ≡ length old.history) × (new.version ≡ v)) → version_text v ≡ version_text new.version
    text_at i v far (inl before) = ap version_text (last_is old.history old.version v i ends far before) ∙ kept_text old.history old.version new.version ends merged.1.change.stands
    text_at i v far (inr now) = ap version_text (sym now.1)

-- nothing was published
unchanged_text : (e : EngineContent) → EndsWith e.history e.version → HasOneText e e
unchanged_text e ends = record {
  ends = ends;
  texts = λ i v far here. ap version_text (last_is e.history e.version v i ends far here);
}

-- all slots were merged, or nothing changed
pub where_text : (pending : Bool) (old new : EngineContent) → EndsWith old.history old.version → IsMergedWhere pending old new → HasOneText old new
where_text true old new ends merged = merged_text old new ends merged
where_text false old new ends same = subst (λ (e : EngineContent). HasOneText old e) (sym same) (unchanged_text old ends)
