-- A plan whose slots are all in their places may be put.
use Rattle.std.proofs.Common.{◌≡◌, ℕ, zero, suc, List, [], ◌∷◌, ◌++◌, length, take, Some, slice_get, refl, sym, ap, ◌∙◌, subst, arith}
use Rattle.std.proofs.lemmas.List.{length-map, length-take}
use mathlib.Core.List.{IsPrefix}
use Rattle.live_version.specs.Changes.{whole_range}
use Rattle.live_version.specs.Contents.{SlotContent, VersionContent, IsVersion, files_of, live_of, ranges_of}
use Rattle.manifest_publish.specs.Accounts.{EndsWith}
use Rattle.manifest_publish.specs.Histories.{IsLatest, IsLawful}
use Rattle.shared_edit.specs.declared.plan.SlotName.{SlotName}
use Rattle.shared_edit.specs.Plans.{IsPlan, MergesFirst, PlanContent, name_of, names_of}
use Rattle.shared_edit.specs.Settling.{AreInPlace}
use Rattle.manifest_publish.specs.Laws.{HaveSame}
use Rattle.manifest_publish.proofs.OneName.{slots-keep-files}

-- what is the same of two lists of slots
pub record AreSame (ss ts : List SlotContent) : Type 0 where
  pub files : files_of ts ≡ files_of ss
  pub words : live_of ts ≡ live_of ss
  pub ranges : ranges_of ts ≡ ranges_of ss

all_same : (n : ℕ) (ss ts : List SlotContent) → take n (names_of ts) ≡ take n (names_of ss)
    → ((a : ℕ) (s t : SlotContent) → slice_get ss a ≡ Some s → slice_get ts a ≡ Some t → name_of t ≡ name_of s → HaveSame s t) → AreSame (take n ss) (take n ts)
all_same zero ss ts e h = record { files = refl; words = refl; ranges = refl }
all_same (suc n) [] [] e h = record { files = refl; words = refl; ranges = refl }
all_same (suc n) [] (t ∷ ts) e h = absurd (cc e)
all_same (suc n) (s ∷ ss) [] e h = absurd (cc e)
all_same (suc n) (s ∷ ss) (t ∷ ts) e h =
    let name : name_of t ≡ name_of s = cc e in
    let here = h 0 s t refl refl name in
    let rest = all_same n ss ts (cc e) (λ a x y ax ay same. h (suc a) x y ax ay same) in
    let range : t.range ≡ s.range = λ i. record { first = (name i).first; last = (name i).last } in
    record {
      files = (λ i. here.files i ++ rest.files i);
      words = (λ i. here.words i ++ rest.words i);
      ranges = (λ i. range i ∷ rest.ranges i);
    }

-- the slot of a plan merges the first slots of each later version in which they are all in their places
pub plan-fits : (p : PlanContent) (history : List VersionContent) (w : VersionContent) → IsPlan p → EndsWith history w → IsVersion w → IsPrefix p.list history → AreInPlace p.names w.slots → MergesFirst w.slots (length p.names) p.slot
plan-fits p history w plan ends is pre in-place =
    let v = plan.version in
    let n = length p.names in
    let lawful : IsLawful (p.list ++ pre.0) = subst IsLawful (sym pre.1) ends.0 in
    let last : IsLatest (p.list ++ pre.0) w = subst (λ (h : List VersionContent). IsLatest h w) (sym pre.1) ends.1 in
    let same : AreSame (take n v.slots) (take n w.slots) = all_same n v.slots w.slots (in-place ∙ plan.names)
    (λ a s t sat tat name. slots-keep-files p.list pre.0 v w a a s t lawful plan.ends.1 last plan.is_version is sat tat
    (λ i. record { first = (name i).first; last = (name i).last }) (ap (λ (x : SlotName). x.files) name)) in
    let m = plan.merges in
    record {
      two = m.two;
      within = omega (arith, ap length in-place, length-take n (names_of w.slots), length-map w.slots name_of);
      alive = m.alive;
      same = record { words = m.same.words ∙ sym same.words; files = m.same.files ∙ sym same.files };
      range = ap whole_range same.ranges ∙ m.range;
    }
