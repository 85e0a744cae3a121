-- The places of versions in a history.
use Rattle.std.proofs.Common.{◌≡◌, ℕ, zero, suc, ◌+◌, ◌<◌, List, [], ◌∷◌, length, Some, sym, ◌∙◌, ap, subst, arith}
use Rattle.std.specs.List.{slice_get}
use mathlib.Core.List.{IsPrefix}
use Rattle.gcl_model.specs.Collections.{Collection, empty_from}
use Rattle.live_version.specs.Contents.{VersionContent}
use Rattle.live_version.specs.StandsFor.{StandsFor}
use Rattle.manifest_publish.specs.Histories.{Follow, IsLawful}
use Rattle.manifest_publish.proofs.Stands.{opening-stands}

module _ {A : Type 0} where
  -- what is at a place of a beginning is there in the whole
  pub prefix_get : (xs ys : List A) (i : ℕ) (x : A) → IsPrefix xs ys → slice_get xs i ≡ Some x → slice_get ys i ≡ Some x
  prefix_get [] ys i x p e = absurd (cc e)
  prefix_get (w ∷ xs) [] i x p e = absurd (cc (p.1))
  prefix_get (w ∷ xs) (y ∷ ys) zero x p e = let same : w ≡ y = cc (p.1) in ap Some (sym same) ∙ e
  prefix_get (w ∷ xs) (y ∷ ys) (suc i) x p e = prefix_get xs ys i x (p.0, cc (p.1)) e

  -- what is in the whole is in a beginning that is long enough
  pub prefix_within : (xs ys : List A) (i : ℕ) (x : A) → IsPrefix xs ys → slice_get ys i ≡ Some x → i < length xs → slice_get xs i ≡ Some x
  prefix_within [] ys i x p e le = absurd (omega arith)
  prefix_within (w ∷ xs) [] i x p e le = absurd (cc (p.1))
  prefix_within (w ∷ xs) (y ∷ ys) zero x p e le = let same : w ≡ y = cc (p.1) in ap Some same ∙ e
  prefix_within (w ∷ xs) (y ∷ ys) (suc i) x p e le = prefix_within xs ys i x (p.0, cc (p.1)) e (omega arith)

follow-place : (u : VersionContent) (vs : List VersionContent) (i : ℕ) (v : VersionContent) → Follow u vs → slice_get vs i ≡ Some v → v.number ≡ u.number + i + 1
follow-place u [] i v h e = absurd (cc e)
follow-place u (x ∷ xs) zero v h e = let same : x ≡ v = cc e in let k : v.number ≡ x.number = ap (λ w. w.number) (sym same) in let n = h.0.number in omega arith
follow-place u (x ∷ xs) (suc i) v h e = let n = h.0.number in let m = follow-place x xs i v h.1 e in omega arith

-- the version at place i has number i
pub number-place : (history : List VersionContent) (i : ℕ) (v : VersionContent) → IsLawful history → slice_get history i ≡ Some v → v.number ≡ i
number-place [] i v h e = absurd (cc e)
number-place (x ∷ xs) zero v h e = let same : x ≡ v = cc e in ap (λ w. w.number) (sym same ∙ h.0)
number-place (x ∷ xs) (suc i) v h e = let n = ap (λ w. w.number) h.0 in let m = follow-place x xs i v h.1 e in omega arith

abbrev Stands : VersionContent → Type 0
Stands v = (c : Collection) × StandsFor v c

follow-stands_at : (u : VersionContent) (vs : List VersionContent) (i : ℕ) (v : VersionContent) → Follow u vs → slice_get vs i ≡ Some v → Stands v
follow-stands_at u [] i v h e = absurd (cc e)
follow-stands_at u (x ∷ xs) zero v h e = let same : x ≡ v = cc e in subst Stands same (h.0.after, h.0.to)
follow-stands_at u (x ∷ xs) (suc i) v h e = follow-stands_at x xs i v h.1 e

-- each version of a lawful history stands for a collection
pub each-stands : (history : List VersionContent) (i : ℕ) (v : VersionContent) → IsLawful history → slice_get history i ≡ Some v → Stands v
each-stands [] i v h e = absurd (cc e)
each-stands (x ∷ xs) zero v h e = let same : x ≡ v = cc e in subst Stands (sym h.0 ∙ same) (empty_from x.first, opening-stands x.first)
each-stands (x ∷ xs) (suc i) v h e = follow-stands_at x xs i v h.1 e

-- of two beginnings of one history, a version of the one whose number lies below the other's length is there in the other too
pub version-shared : (one other history : List VersionContent) (i : ℕ) (v : VersionContent) → IsLawful history → IsPrefix one history → IsPrefix other history
    → slice_get one i ≡ Some v → v.number < length other → slice_get other v.number ≡ Some v
version-shared one other history i v h p q e less =
    let there : slice_get history i ≡ Some v = prefix_get one history i v p e in
    let is : v.number ≡ i = number-place history i v h there in
    prefix_within other history v.number v q (subst (λ k. slice_get history k ≡ Some v) (sym is) there) less
