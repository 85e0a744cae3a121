-- A slot in place of several first ones.
use Rattle.std.proofs.Common.{◌≡◌, ℕ, zero, suc, ◌+◌, ◌*◌, ◌<◌, ◌≤◌, List, [], ◌∷◌, take, drop, Some, refl, sym, ap, ◌∙◌, subst, arith, inr, le_refl}
use Rattle.gcl_model.specs.Laws.{AreTiers}
use Rattle.gcl_model.specs.Limits.{merge_end}
use Rattle.gcl_model.specs.Slots.{SlotRange, slot_width, joined, spanned}
use Rattle.live_version.specs.Changes.{slots_at, version_with_slot, whole_range, LiesInside}
use Rattle.live_version.specs.Contents.{SlotContent, VersionContent, ranges_of}
use Rattle.live_version.specs.StandsFor.{Keeps, StandsFor}
use Rattle.manifest_publish.proofs.Stands.{latest-stands}
use Rattle.collection.specs.Changes.{PutsSlotFirst}
use Rattle.collection.specs.Engines.{EngineContent, IsEngine, with_version}
use Rattle.collection.proofs.EngineLemmas.{engine-next, tiers-are}

-- the first two tiers as one
two_joined : (low end : ℕ) (a b : SlotRange) (ranges : List SlotRange) → AreTiers low end (a ∷ b ∷ ranges) → AreTiers low end (joined a b ∷ ranges)
two_joined low end a b [] h =
    let ordered : a.first ≤ a.last = h.apart.1 in
    let first : a.last + 1 ≤ b.first = h.apart.3.0 in
    let last : b.first ≤ b.last = h.apart.3.1 in
    record { apart = (h.apart.0, omega arith, h.apart.3.2, tt); wide = (omega arith, tt); tiered = tt }
two_joined low end a b (next ∷ ranges) h =
    let ordered : a.first ≤ a.last = h.apart.1 in
    let first : a.last + 1 ≤ b.first = h.apart.3.0 in
    let last : b.first ≤ b.last = h.apart.3.1 in
    let wider : 4 * slot_width next < slot_width b = h.tiered.1.0 in
    record { apart = (h.apart.0, omega arith, h.apart.3.2, h.apart.3.3); wide = (omega arith, h.wide.1.1); tiered = (omega arith, h.tiered.1.1) }

front_at : (low end : ℕ) (range : SlotRange) (k : ℕ) (slots : List SlotContent) → AreTiers low end (range ∷ ranges_of slots) → AreTiers low end (spanned range (ranges_of (take k slots)) ∷ ranges_of (drop k slots))
front_at low end range zero slots h = h
front_at low end range (suc k) [] h = h
front_at low end range (suc k) (slot ∷ slots) h = front_at low end (joined range slot.range) k slots (two_joined low end range slot.range (ranges_of slots) h)

-- several first tiers as one
front_tiers : (low end count : ℕ) (slots : List SlotContent) (joint : SlotRange) → whole_range (ranges_of (slots_at 0 count slots)) ≡ Some joint → AreTiers low end (ranges_of slots)
    → AreTiers low end (joint ∷ ranges_of (drop count slots))
front_tiers low end zero slots joint e h = absurd (cc e)
front_tiers low end (suc k) [] joint e h = absurd (cc e)
front_tiers low end (suc k) (slot ∷ slots) joint e h =
    let same : spanned slot.range (ranges_of (take k slots)) ≡ joint = cc e in
    subst (λ r. AreTiers low end (r ∷ ranges_of (drop k slots))) same (front_at low end slot.range k slots h)

pub engine-front : (e : EngineContent) (w : VersionContent) (count : ℕ) (slot : SlotContent) → IsEngine e → e.version.number < merge_end → whole_range (ranges_of (slots_at 0 count e.version.slots)) ≡ Some slot.range
    → PutsSlotFirst e.version w count slot → IsEngine (with_version e w)
engine-front e w count slot is lt whole h =
    let v = e.version in
    let some = latest-stands e.history v is.ends.0 is.ends.1 in
    let c = some.0 in
    let s = some.1 in
    let t : StandsFor w c = h.stands c s in
    let number : w.number ≡ v.number + 1 = h.number in
    engine-next e w is record { number = h.number; before = c; after = c; from = s; to = t; step = inr (h.edition, refl) }
    (tiers-are v.first w.first v.next w.next (ranges_of (slot ∷ drop count v.slots)) (ranges_of w.slots) (s.first ∙ sym t.first) (s.next ∙ sym t.next) (sym (ap ranges_of h.slots))
    (front_tiers v.first v.next count v.slots slot.range whole is.tiers))
    (omega arith)

-- the range of all the first ones lies inside itself
pub inside-whole : (slot : SlotContent) (count : ℕ) (slots : List SlotContent) → whole_range (ranges_of (slots_at 0 count slots)) ≡ Some slot.range → LiesInside slot.range (whole_range (ranges_of (slots_at 0 count slots)))
inside-whole slot count slots e = subst (λ r. LiesInside slot.range r) (sym e) (le_refl slot.range.first, le_refl slot.range.last)

from_zero : (n : ℕ) → 0 + n ≡ n
from_zero n = omega arith

pub puts-first : (v w : VersionContent) (count : ℕ) (slot : SlotContent) → w ≡ version_with_slot v 0 count (Some slot) → Keeps v w → PutsSlotFirst v w count slot
puts-first v w count slot is keeps = record {
  stands = keeps;
  slots = ap (λ u. u.slots) is ∙ ap (λ n. slot ∷ drop n v.slots) (from_zero count);
  number = ap (λ u. u.number) is;
  edition = ap (λ u. u.edition) is;
}
