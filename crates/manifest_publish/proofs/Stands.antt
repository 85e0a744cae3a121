-- Each version of a lawful history stands for a collection.
use Rattle.std.proofs.Common.{◌≡◌, ℕ, ◌+◌, List, [], ◌∷◌, ◌++◌, refl, sym, subst, inl, inr}
use Rattle.gcl_model.specs.Collections.{Collection, empty_from}
use Rattle.live_version.specs.Contents.{VersionContent}
use Rattle.live_version.specs.Changes.{empty_version}
use Rattle.live_version.specs.StandsFor.{StandsFor}
use Rattle.gcl_model.specs.Steps.{IsStep}
use Rattle.manifest_publish.specs.Histories.{Follow, IsLawful, IsLatest}
use Rattle.manifest_publish.proofs.HistoryLemmas.{lawful-snoc}

-- the opening version stands for a collection without files
pub opening-stands : (first : ℕ) → StandsFor (empty_version first) (empty_from first)
opening-stands first = record { first = refl; next = refl; next_id = refl; dels = refl; files = refl; words = refl }

follow-stands : (u : VersionContent) (before : List VersionContent) (v : VersionContent) → Follow u (before ++ v ∷ []) → (c : Collection) × StandsFor v c
follow-stands u [] v h = (h.0.after, h.0.to)
follow-stands u (x ∷ xs) v h = follow-stands x xs v h.1

latest-stands_at : (before : List VersionContent) (v : VersionContent) → IsLawful (before ++ v ∷ []) → (c : Collection) × StandsFor v c
latest-stands_at [] v h = (empty_from v.first, subst (λ u. StandsFor u (empty_from v.first)) (sym h.0) (opening-stands v.first))
latest-stands_at (x ∷ xs) v h = follow-stands x xs v h.1

-- the last version of a lawful history stands for a collection
pub latest-stands : (history : List VersionContent) (v : VersionContent) → IsLawful history → IsLatest history v → (c : Collection) × StandsFor v c
latest-stands history v h last = latest-stands_at last.0 v (subst IsLawful last.1 h)

-- a version with the next number that stands for the same collections as the last one, with the edition kept, is a next one
pub lawful-same : (history : List VersionContent) (v w : VersionContent) → IsLawful history → IsLatest history v → w.number ≡ v.number + 1 → w.edition ≡ v.edition
    → ((c : Collection) → StandsFor v c → StandsFor w c) → IsLawful (history ++ w ∷ [])
lawful-same history v w h last number edition to =
    let s = latest-stands history v h last in
    lawful-snoc history v w h last (record { number = number; before = s.0; after = s.0; from = s.1; to = to s.0 s.1; step = inr (edition, refl) })

-- a version with the next number and the next edition that stands for what one step makes of the last one's collection, is a next one
pub lawful-step : (history : List VersionContent) (v w : VersionContent) → IsLawful history → IsLatest history v → w.number ≡ v.number + 1 → w.edition ≡ v.edition + 1
    → ((c : Collection) → StandsFor v c → (d : Collection) × IsStep c d × StandsFor w d) → IsLawful (history ++ w ∷ [])
lawful-step history v w h last number edition to =
    let s = latest-stands history v h last in
    let d = to s.0 s.1 in
    lawful-snoc history v w h last (record { number = number; before = s.0; after = d.0; from = s.1; to = d.2; step = inl (edition, d.1) })
