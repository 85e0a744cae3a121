-- The slots of a collection stay tiers as files are added, slots merged and images opened, and tiers are few.
use Rattle.std.proofs.Common.{◌≡◌, ℕ, suc, ◌+◌, ◌-◌, ◌*◌, ◌^◌, ◌≤◌, ◌<◌, Bool, true, false, cond, leb, List, [], ◌∷◌, ◌++◌, length, map, reverse, refl, sym, ap, subst, ◌∙◌, arith, append_assoc, le_refl, inl, inr}
use Rattle.std.specs.List.{AllByRecursion}
use Rattle.std.proofs.lemmas.Bool.{leb-false, cases_lt}
use Rattle.std.proofs.lemmas.List.{append-nil}
use Rattle.std.proofs.lemmas.Grind.{reverse_onto}
use Rattle.std.proofs.Math.Nat.{pow-succ', pow-le-pow_right}
use Rattle.gcl_model.specs.Collections.{File, Collection, AreFilesFrom, width_of}
use Rattle.gcl_model.specs.Slots.{SlotRange, slot_width, joined, settled, spanned, file_range, ranges_spanned, AreRangesWithin, AreTiered}
use Rattle.gcl_model.specs.Laws.{AreTiers, AddingKeepsTiers, MergingKeepsTiers, OpeningMakesTiers, TiersAreFew}
use Rattle.address_space.proofs.CollectionLemmas.{up_to}

-- ranges that rise starting at a later address rise starting at an earlier one
pub ranges_earlier : (low later end : ℕ) (ranges : List SlotRange) → low ≤ later → AreRangesWithin later end ranges → AreRangesWithin low end ranges
ranges_earlier low later end [] le h = tt
ranges_earlier low later end (range ∷ ranges) le h = (let first : later ≤ range.first = h.0 in omega arith, h.1, h.2, h.3)

-- a list read from the back has its first member last
pub reverse-cons : (range : SlotRange) (earlier : List SlotRange) → reverse (range ∷ earlier) ≡ reverse earlier ++ range ∷ []
reverse-cons range earlier = reverse_onto earlier range []

pub reverse-cons-append : (range : SlotRange) (earlier ranges : List SlotRange) → reverse (range ∷ earlier) ++ ranges ≡ reverse earlier ++ range ∷ ranges
reverse-cons-append range earlier ranges = ap (λ l. l ++ ranges) (reverse-cons range earlier) ∙ append_assoc (reverse earlier) (range ∷ []) ranges

-- the range before a list, if it has one, is more than four times as wide
abbrev IsBefore : SlotRange → List SlotRange → Type 0
IsBefore range [] = Unit {0}
IsBefore range (next ∷ ranges) = 4 * slot_width next < slot_width range

-- the range after a list that is read from the back
abbrev IsBehind : SlotRange → List SlotRange → Type 0
IsBehind range [] = Unit {0}
IsBehind range (before ∷ earlier) = 4 * slot_width range < slot_width before

-- tiers, from the last to the first
abbrev AreTiersBack : ℕ → ℕ → List SlotRange → Type 0
AreTiersBack low end [] = Unit {0}
AreTiersBack low end (range ∷ earlier) = (low ≤ range.first) × (range.first ≤ range.last) × (range.last < end) × (2 ≤ slot_width range) × IsBehind range earlier × AreTiersBack low range.first earlier

back_later : (low end later : ℕ) (earlier : List SlotRange) → end ≤ later → AreTiersBack low end earlier → AreTiersBack low later earlier
back_later low end later [] le h = tt
back_later low end later (range ∷ earlier) le h = (h.0, h.1, let last : range.last < end = h.2 in omega arith, h.3, h.4, h.5)

-- the last of the ranges read from the back, and the first of the others
abbrev AreMet : List SlotRange → List SlotRange → Type 0
AreMet [] ranges = Unit {0}
AreMet (range ∷ earlier) ranges = IsBefore range ranges

tiers_more : (end : ℕ) (range : SlotRange) (ranges : List SlotRange) → range.first ≤ range.last → range.last < end → 2 ≤ slot_width range → IsBefore range ranges → AreTiers (range.last + 1) end ranges → AreTiers range.first end (range ∷ ranges)
tiers_more end range [] ordered within wide met h = record { apart = (le_refl range.first, ordered, within, tt); wide = (wide, tt); tiered = tt }
tiers_more end range (next ∷ ranges) ordered within wide met h =
    record { apart = (le_refl range.first, ordered, within, h.apart); wide = (wide, h.wide); tiered = (met, h.tiered) }

tiers_earlier : (low later end : ℕ) (ranges : List SlotRange) → low ≤ later → AreTiers later end ranges → AreTiers low end ranges
tiers_earlier low later end ranges le h = record { apart = ranges_earlier low later end ranges le h.apart; wide = h.wide; tiered = h.tiered }

-- read from the back, and then from the front
from_back : (low mid end : ℕ) (earlier ranges : List SlotRange) → low ≤ mid → mid ≤ end → AreTiersBack low mid earlier → AreTiers mid end ranges → AreMet earlier ranges → AreTiers low end (reverse earlier ++ ranges)
from_back low mid end [] ranges le le' back h met = tiers_earlier low mid end ranges le h
from_back low mid end (range ∷ earlier) ranges le le' back h met =
    let last : range.last < mid = back.2 in
    subst (AreTiers low end) (sym (reverse-cons-append range earlier ranges))
    (from_back low range.first end earlier (range ∷ ranges) back.0 (let ordered : range.first ≤ range.last = back.1 in omega arith) back.5
    (tiers_more end range ranges back.1 (omega arith) back.3 met (tiers_earlier (range.last + 1) mid end ranges (omega arith) h))
    (met_next earlier back.4))
  where
    met_next : (earlier : List SlotRange) → IsBehind range earlier → AreMet earlier (range ∷ ranges)
    met_next [] behind = tt
    met_next (before ∷ earlier) behind = behind

abbrev AreMetBack : List SlotRange → List SlotRange → Type 0
AreMetBack [] earlier = Unit {0}
AreMetBack (range ∷ ranges) earlier = IsBehind range earlier

-- read from the front, and then from the back
to_back : (low mid end : ℕ) (ranges earlier : List SlotRange) → low ≤ mid → mid ≤ end → AreTiers mid end ranges → AreTiersBack low mid earlier → AreMetBack ranges earlier → AreTiersBack low end (reverse ranges ++ earlier)
to_back low mid end [] earlier le le' h back met = back_later low mid end earlier le' back
to_back low mid end (range ∷ ranges) earlier le le' h back met =
    let first : mid ≤ range.first = h.apart.0 in
    let ordered : range.first ≤ range.last = h.apart.1 in
    let within : range.last < end = h.apart.2 in
    let rest = tiers_rest ranges h.apart.3 h.wide.1 h.tiered in
    subst (AreTiersBack low end) (sym (reverse-cons-append range ranges earlier))
    (to_back low (range.last + 1) end ranges (range ∷ earlier) (omega arith) (omega arith) rest.0
    (omega arith, h.apart.1, omega arith, h.wide.0, met, back_later low mid range.first earlier first back)
    rest.1)
  where
    tiers_rest : (ranges : List SlotRange) → AreRangesWithin (range.last + 1) end ranges → AllByRecursion (λ r. 2 ≤ slot_width r) ranges → AreTiered (range ∷ ranges) →
        AreTiers (range.last + 1) end ranges × AreMetBack ranges (range ∷ earlier)
    tiers_rest [] apart wide tiered = (record { apart = apart; wide = wide; tiered = tt }, tt)
    tiers_rest (next ∷ ranges) apart wide tiered = (record { apart = apart; wide = wide; tiered = tiered.1 }, tiered.0)

tiers_back : (low end : ℕ) (ranges : List SlotRange) → AreTiers low end ranges → AreTiersBack low end (reverse ranges)
tiers_back low end [] h = tt
tiers_back low end (range ∷ ranges) h =
    let first : low ≤ range.first = h.apart.0 in
    let ordered : range.first ≤ range.last = h.apart.1 in
    let within : range.last < end = h.apart.2 in
    subst (AreTiersBack low end) (append-nil (reverse (range ∷ ranges))) (to_back low low end (range ∷ ranges) [] (le_refl low) (omega arith) h tt tt)

-- the last range, which may be merged with those before it
settled_back : (low mid end : ℕ) (last : SlotRange) (earlier : List SlotRange) → low ≤ last.first → mid ≤ last.first → last.first ≤ last.last → last.last < end → 2 ≤ slot_width last → AreTiersBack low mid earlier
    → AreTiersBack low end (settled last earlier)
settled_back low mid end last [] from le ordered within wide back = (from, ordered, within, wide, tt, tt)
settled_back low mid end last (before ∷ earlier) from le ordered within wide back =
    let first : before.first ≤ before.last = back.1 in
    let below : before.last < mid = back.2 in
    by_test (leb (slot_width before) (4 * slot_width last)) refl
    (settled_back low before.first end (joined before last) earlier back.0 (le_refl before.first) (omega arith) within (omega arith) back.5)
  where
    by_test : (t : Bool) → leb (slot_width before) (4 * slot_width last) ≡ t → AreTiersBack low end (settled (joined before last) earlier) → AreTiersBack low end (cond t (settled (joined before last) earlier) (last ∷ before ∷ earlier))
    by_test true e more = more
    by_test false e more = (from, ordered, within, wide, leb-false (slot_width before) (4 * slot_width last) e, back_later low mid last.first (before ∷ earlier) le back)

pub adding_keeps_tiers : AddingKeepsTiers
adding_keeps_tiers low next end ranges range h from le ordered within wide =
    subst (AreTiers low end) (append-nil (reverse (settled range (reverse ranges))))
    (from_back low end end (settled range (reverse ranges)) [] (omega arith) (le_refl end)
    (settled_back low next end range (reverse ranges) from le ordered within wide (tiers_back low next ranges h))
    record { apart = tt; wide = tt; tiered = tt } (met_none (settled range (reverse ranges))))
  where
    met_none : (earlier : List SlotRange) → AreMet earlier []
    met_none [] = tt
    met_none (range ∷ earlier) = tt

-- all ranges as one are one tier
spanned_tier : (low end : ℕ) (range : SlotRange) (ranges : List SlotRange) → AreRangesWithin low end (range ∷ ranges) → 2 ≤ slot_width range → AreTiers low end (spanned range ranges ∷ [])
spanned_tier low end range [] h wide = record { apart = h; wide = (wide, tt); tiered = tt }
spanned_tier low end range (next ∷ ranges) h wide =
    let ordered : range.first ≤ range.last = h.1 in
    let first : range.last + 1 ≤ next.first = h.3.0 in
    let last : next.first ≤ next.last = h.3.1 in
    spanned_tier low end (joined range next) ranges (h.0, omega arith, h.3.2, h.3.3) (omega arith)

no_tiers : (low end : ℕ) → AreTiers low end []
no_tiers low end = record { apart = tt; wide = tt; tiered = tt }

pub merging_keeps_tiers : MergingKeepsTiers
merging_keeps_tiers low end [] files h = no_tiers low end
merging_keeps_tiers low end (range ∷ ranges) [] h = no_tiers low end
merging_keeps_tiers low end (range ∷ ranges) (file ∷ files) h = spanned_tier low end range ranges h.apart h.wide.0

-- files lie apart
files_apart : (c : Collection) (at id : ℕ) (files : List File) → AreFilesFrom c at id files → AreRangesWithin at c.next (map file_range files)
files_apart c at id [] h = tt
files_apart c at id (file ∷ files) h =
    let end = up_to c (file.base + width_of file.tokens) (file.id + 1) files h.5 in
    let below : file.base + width_of file.tokens ≤ c.next = end.address in
    (h.0, omega arith, omega arith, ranges_earlier (file.base + width_of file.tokens - 1 + 1) (file.base + width_of file.tokens) c.next (map file_range files) (omega arith) (files_apart c (file.base + width_of file.tokens) (file.id + 1) files h.5))

pub opening_makes_tiers : OpeningMakesTiers
opening_makes_tiers c sound = by_files c.files sound.files
  where
    by_files : (files : List File) → AreFilesFrom c c.first 0 files → AreTiers c.first c.next (ranges_spanned (map file_range files))
    by_files [] h = no_tiers c.first c.next
    by_files (file ∷ files) h = spanned_tier c.first c.next (file_range file) (map file_range files) (files_apart c c.first 0 (file ∷ files) h) (omega arith)

-- this many tiers after the first make it this wide
first_width : (range : SlotRange) (ranges : List SlotRange) → AllByRecursion (λ r. 2 ≤ slot_width r) (range ∷ ranges) → AreTiered (range ∷ ranges) → 2 * 4 ^ length ranges ≤ slot_width range
first_width range [] wide tiered = wide.0
first_width range (next ∷ ranges) wide tiered =
    let rest : 2 * 4 ^ length ranges ≤ slot_width next = first_width next ranges wide.1 tiered.1 in
    let wider : 4 * slot_width next < slot_width range = tiered.0 in
    let power : 4 ^ suc (length ranges) ≡ 4 * 4 ^ length ranges = pow-succ' 4 (length ranges) in
    omega arith

pub tiers_are_few : TiersAreFew
tiers_are_few low end [] le h = omega arith
tiers_are_few low end (range ∷ ranges) le h =
    let wide : 2 * 4 ^ length ranges ≤ slot_width range = first_width range ranges h.wide h.tiered in
    let within : range.last < end = h.apart.2 in
    elim (cases_lt (length ranges) 28) [
      | inl few ↦ omega arith
      | inr many ↦ let power : 4 ^ 28 ≤ 4 ^ length ranges = pow-le-pow_right (let some : 0 < 4 = omega arith in some) many in absurd (omega arith)
    ]
