-- Lawful histories: one version more, and numbers that are places.
use Rattle.std.proofs.Common.{◌≡◌, ◌+◌, Bool, true, false, IsTrue, List, [], ◌∷◌, ◌++◌, length, fold, refl, ap, sym, ◌∙◌, subst, arith, length-append}
use Rattle.std.proofs.lemmas.List.{same_from_push}
use mathlib.Core.List.{IsPrefix}
use Rattle.live_version.specs.Contents.{VersionContent}
use Rattle.manifest_publish.specs.Histories.{IsNext, Follow, IsLawful, IsLatest}
use Rattle.manifest_publish.specs.Accounts.{EndsWith}
use Rattle.manifest_publish.proofs.Prefixes.{prefix_whole, prefix_shorter, prefix_length}

follow-snoc : (u : VersionContent) (before : List VersionContent) (v w : VersionContent) → Follow u (before ++ v ∷ []) → IsNext v w → Follow u ((before ++ v ∷ []) ++ w ∷ [])
follow-snoc u [] v w h next = (h.0, (next, tt))
follow-snoc u (x ∷ xs) v w h next = (h.0, follow-snoc x xs v w h.1 next)

lawful-snoc_at : (before : List VersionContent) (v w : VersionContent) → IsLawful (before ++ v ∷ []) → IsNext v w → IsLawful ((before ++ v ∷ []) ++ w ∷ [])
lawful-snoc_at [] v w h next = (h.0, (next, tt))
lawful-snoc_at (x ∷ xs) v w h next = (h.0, follow-snoc x xs v w h.1 next)

-- a lawful history and a next version make a lawful history
pub lawful-snoc : (history : List VersionContent) (v w : VersionContent) → IsLawful history → IsLatest history v → IsNext v w → IsLawful (history ++ w ∷ [])
lawful-snoc history v w h last next =
    subst (λ l. IsLawful (l ++ w ∷ [])) (sym last.1) (lawful-snoc_at last.0 v w (subst IsLawful last.1 h) next)

follow-number : (u : VersionContent) (before : List VersionContent) (v : VersionContent) → Follow u (before ++ v ∷ []) → v.number ≡ u.number + length before + 1
follow-number u [] v h = let n = h.0.number in omega arith
follow-number u (x ∷ xs) v h = let n = h.0.number in let m = follow-number x xs v h.1 in omega arith

-- the number of the last version is how many come before it
pub latest-number_at : (before : List VersionContent) (v : VersionContent) → IsLawful (before ++ v ∷ []) → v.number ≡ length before
latest-number_at [] v h = ap (λ u. u.number) h.0
latest-number_at (x ∷ xs) v h = let n = ap (λ u. u.number) h.0 in let m = follow-number x xs v h.1 in omega arith

-- the number of the latest version is one less than the history is long
pub latest-number : (history : List VersionContent) (v : VersionContent) → IsLawful history → IsLatest history v → v.number + 1 ≡ length history
latest-number history v h last =
    let n = latest-number_at last.0 v (subst IsLawful last.1 h) in
    let m : length history ≡ length last.0 + 1 = ap length last.1 ∙ length-append last.0 (v ∷ []) in
    omega arith

-- a beginning of a history with a last version of the same number is all of it
pub whole : (seen history : List VersionContent) (v w : VersionContent) → IsLawful seen → IsLatest seen v → IsLawful history → IsLatest history w → v.number ≡ w.number
    → IsPrefix seen history → seen ≡ history
whole seen history v w hs ls hh lh same p =
    let n = latest-number seen v hs ls in let m = latest-number history w hh lh in prefix_whole seen history p (omega arith)

-- if each operation puts its own value in place of all, the last one decides
pub fold-last : {S O : Type 0} (f : O → S) (s : S) (ops : List O) (op : O) → fold (λ _ o. f o) s (ops ++ op ∷ []) ≡ f op
fold-last f s [] op = refl
fold-last f s (o ∷ os) op = fold-last f (f o) os op

-- one history begins another: if the other ends with the version that may be added to the first, it is the first and that version
pub grown : (history longer : List VersionContent) (v : VersionContent) → IsLawful (history ++ v ∷ []) → EndsWith longer v → IsPrefix history longer → longer ≡ history ++ v ∷ []
grown history longer v lawful ends p =
    let n = latest-number_at history v lawful in
    let m = latest-number longer v ends.0 ends.1 in
    let ends-before : longer ≡ ends.1.0 ++ v ∷ [] = ends.1.1 in
    let k : length longer ≡ length ends.1.0 + 1 = ap length ends-before ∙ length-append ends.1.0 (v ∷ []) in
    let q : IsPrefix ends.1.0 longer = (v ∷ [], sym ends-before) in
    let same : history ≡ ends.1.0 = prefix_whole history ends.1.0 (prefix_shorter history ends.1.0 longer p q (omega arith)) (omega arith) in
    ends-before ∙ ap (λ l. l ++ v ∷ []) (sym same)

-- the same, if one of the two begins the other
pub grown-either : (history longer : List VersionContent) (v : VersionContent) (b : Bool) → IsLawful (history ++ v ∷ []) → EndsWith longer v → (IsTrue b → IsPrefix history longer) → (b ≡ false → IsPrefix longer history)
    → longer ≡ history ++ v ∷ []
grown-either history longer v true lawful ends covers begins = grown history longer v lawful ends (covers refl)
grown-either history longer v false lawful ends covers begins =
    let n = latest-number_at history v lawful in
    let m = latest-number longer v ends.0 ends.1 in
    let less = prefix_length longer history (begins refl) in
    absurd (omega arith)

-- a history has one last version
pub latest-one : (history : List VersionContent) (v w : VersionContent) → IsLatest history v → IsLatest history w → v ≡ w
latest-one history v w one other = (same_from_push one.0 other.0 v w (sym one.1 ∙ other.1)).1
