-- What one range more makes of a mask.
use Rattle.std.proofs.Common.{◌≡◌, ℕ, suc, ◌+◌, ◌-◌, ◌<◌, ◌≤◌, Bool, true, false, ◌&&◌, ◌||◌, eqb, leb, ltb, List, [], ◌∷◌, ◌++◌, length, take, get_or, refl, sym, ap, ◌∙◌, arith, inl, inr, ◌⊎◌}
use Rattle.std.proofs.lemmas.Bool.{cond_both, cond-true, cond-false, ltb-true, ltb-false, eqb-true, eqb-false, cases_lt, lt-ltb, le-ltb, le-leb, eq-eqb}
use Rattle.std.proofs.Math.Bool.{or_assoc}
use Rattle.gcl_model.specs.Slots.{SlotRange, joined, AreRangesWithin}
use Rattle.gcl_model.proofs.Cases.{or_swap}
use Rattle.delete_mask.specs.Masks.{is_within, is_dead, IsApart, with_range}
use Rattle.delete_mask.proofs.MaskLemmas.{is_within-before, is_within-behind, IsApart-rest, IsApart-joined, IsApart-behind}
use Rattle.address_space.proofs.TierLemmas.{ranges_earlier}

-- two ranges that touch have the addresses of both
pub is_within-joined : (a b : SlotRange) (p : ℕ) → a.first ≤ a.last → b.first ≤ b.last → a.last + 1 ≡ b.first → is_within (joined a b) p ≡ (is_within a p || is_within b p)
is_within-joined a b p h k touch = by_place (cases_lt a.last p)
  where
    or_false : (t : Bool) → t ≡ (t || false)
    or_false true = refl
    or_false false = refl

    by_place : (a.last < p) ⊎ (p ≤ a.last) → is_within (joined a b) p ≡ (is_within a p || is_within b p)
    by_place (inl behind) =
        ap (λ t. t && leb p b.last) (le-leb a.first p (omega arith) ∙ sym (le-leb b.first p (omega arith)))
        ∙ sym (ap (λ t. t || is_within b p) (is_within-behind a p behind))
    by_place (inr le) =
        ap (λ t. leb a.first p && t) (le-leb p b.last (omega arith) ∙ sym (le-leb p a.last le))
        ∙ or_false (is_within a p) ∙ sym (ap (λ t. is_within a p || t) (is_within-before b p (omega arith)))

-- the four cases of an added range if there is a first one
pub with_range-cases : (P : List SlotRange → Type 0) (range dead : SlotRange) (mask : List SlotRange)
    → (dead.last + 1 < range.first → P (dead ∷ with_range range mask))
    → (dead.last + 1 ≡ range.first → P (with_range (joined dead range) mask))
    → (range.first ≤ dead.last → range.last + 1 ≡ dead.first → P (joined range dead ∷ mask))
    → (range.first ≤ dead.last → (range.last + 1 ≡ dead.first → ⊥) → P (range ∷ dead ∷ mask))
    → P (with_range range (dead ∷ mask))
with_range-cases P range dead mask behind after before apart =
    cond_both (ltb (dead.last + 1) range.first) _ _ P (λ e. behind (ltb-true (dead.last + 1) range.first e))
    (λ e. let le : range.first ≤ dead.last + 1 = ltb-false (dead.last + 1) range.first e in
    cond_both (eqb (dead.last + 1) range.first) _ _ P (λ f. after (eqb-true (dead.last + 1) range.first f))
    (λ f. let ne : dead.last + 1 ≡ range.first → ⊥ = eqb-false (dead.last + 1) range.first f in
    let first : range.first ≤ dead.last = omega arith in
    cond_both (eqb (range.last + 1) dead.first) _ _ P (λ g. before first (eqb-true (range.last + 1) dead.first g))
    (λ g. apart first (eqb-false (range.last + 1) dead.first g))))

-- exactly its addresses are dead too
pub is_dead-with_range : (low end : ℕ) (mask : List SlotRange) (range : SlotRange) (p : ℕ) → AreRangesWithin low end mask → range.first ≤ range.last
    → is_dead (with_range range mask) p ≡ (is_within range p || is_dead mask p)
is_dead-with_range low end [] range p h le = refl
is_dead-with_range low end (dead ∷ mask) range p h le =
    with_range-cases (λ m. is_dead m p ≡ (is_within range p || (is_within dead p || is_dead mask p))) range dead mask
    (λ behind. ap (λ t. is_within dead p || t) (is_dead-with_range (dead.last + 1) end mask range p h.3 le) ∙ or_swap (is_within dead p) (is_within range p) (is_dead mask p))
    (λ touch. is_dead-with_range (dead.last + 1) end mask (joined dead range) p h.3 (let first : dead.first ≤ dead.last = h.1 in omega arith)
    ∙ ap (λ t. t || is_dead mask p) (is_within-joined dead range p h.1 le touch)
    ∙ or_assoc (is_within dead p) (is_within range p) (is_dead mask p)
    ∙ or_swap (is_within dead p) (is_within range p) (is_dead mask p))
    (λ first touch. ap (λ t. t || is_dead mask p) (is_within-joined range dead p le h.1 touch) ∙ or_assoc (is_within range p) (is_within dead p) (is_dead mask p))
    (λ first apart. refl)

-- at most one range more
pub length-with_range : (mask : List SlotRange) (range : SlotRange) → length (with_range range mask) ≤ length mask + 1
length-with_range [] range = omega arith
length-with_range (dead ∷ mask) range =
    with_range-cases (λ m. length m ≤ length (dead ∷ mask) + 1) range dead mask
    (λ behind. let rest : length (with_range range mask) ≤ length mask + 1 = length-with_range mask range in omega arith)
    (λ touch. let rest : length (with_range (joined dead range) mask) ≤ length mask + 1 = length-with_range mask (joined dead range) in omega arith)
    (λ first touch. omega arith)
    (λ first apart. omega arith)

-- the ranges stay where they may lie
pub AreRangesWithin-with_range : (low end : ℕ) (mask : List SlotRange) (range : SlotRange) → AreRangesWithin low end mask → IsApart range mask → low ≤ range.first → range.first ≤ range.last → range.last < end
    → AreRangesWithin low end (with_range range mask)
AreRangesWithin-with_range low end [] range h apart first le last = (first, le, last, tt)
AreRangesWithin-with_range low end (dead ∷ mask) range h apart first le last =
    let start : low ≤ dead.first = h.0 in
    let some : dead.first ≤ dead.last = h.1 in
    with_range-cases (λ m. AreRangesWithin low end m) range dead mask
    (λ behind. (start, some, h.2, AreRangesWithin-with_range (dead.last + 1) end mask range h.3 (IsApart-rest range dead mask apart) (omega arith) le last))
    (λ touch. AreRangesWithin-with_range low end mask (joined dead range) (ranges_earlier low (dead.last + 1) end mask (omega arith) h.3)
    (IsApart-joined range dead end mask touch h.3 (IsApart-rest range dead mask apart)) start (omega arith) last)
    (λ reaches touch. (first, omega arith, h.2, h.3))
    (λ reaches other. (first, le, last, (let behind = IsApart-behind range dead mask le some apart reaches in omega arith, some, h.2, h.3)))

-- what a range that ends before another one is to it does not depend on what lies after both
with_range-past : (range dead : SlotRange) (mask : List SlotRange) → dead.last + 1 < range.first → with_range range (dead ∷ mask) ≡ dead ∷ with_range range mask
with_range-past range dead mask h = cond-true (ltb (dead.last + 1) range.first) _ _ (lt-ltb (dead.last + 1) range.first h)

with_range-touch : (range dead : SlotRange) (mask : List SlotRange) → dead.last + 1 ≡ range.first → with_range range (dead ∷ mask) ≡ with_range (joined dead range) mask
with_range-touch range dead mask h =
    cond-false (ltb (dead.last + 1) range.first) _ _ (le-ltb (dead.last + 1) range.first (omega arith))
    ∙ cond-true (eqb (dead.last + 1) range.first) _ _ (eq-eqb (dead.last + 1) range.first h)

-- if the last of the ranges before one ends right before it, the two are joined
pub with_range-joined : (low : ℕ) (before after : List SlotRange) (range last : SlotRange) → AreRangesWithin low range.first before → 1 ≤ length before → last ≡ get_or before (length before - 1) last
    → last.last + 1 ≡ range.first → with_range range (before ++ after) ≡ take (length before - 1) before ++ with_range (joined last range) after
with_range-joined low [] after range last h some e touch = absurd (omega arith)
with_range-joined low (dead ∷ []) after range last h some e touch =
    with_range-touch range dead after (ap (λ r. r.last + 1) (sym e) ∙ touch) ∙ ap (λ r. with_range (joined r range) after) (sym e)
with_range-joined low (dead ∷ next ∷ before) after range last h some e touch =
    let n : length (dead ∷ next ∷ before) - 1 ≡ suc (length (next ∷ before) - 1) = omega arith in
    let gap : dead.last + 1 ≤ next.first = h.3.0 in
    let whole : next.first ≤ next.last = h.3.1 in
    let under : next.last < range.first = h.3.2 in
    with_range-past range dead (next ∷ before ++ after) (omega arith)
    ∙ ap (λ ranges. dead ∷ ranges)
    (with_range-joined (dead.last + 1) (next ∷ before) after range last h.3 (omega arith) (e ∙ ap (λ i. get_or (dead ∷ next ∷ before) i last) n) touch)
    ∙ sym (ap (λ i. take i (dead ∷ next ∷ before) ++ with_range (joined last range) after) n)

-- if it does not, they all stay
pub with_range-apart : (low : ℕ) (before after : List SlotRange) (range last : SlotRange) → AreRangesWithin low range.first before → 1 ≤ length before → last ≡ get_or before (length before - 1) last
    → (last.last + 1 ≡ range.first → ⊥) → with_range range (before ++ after) ≡ before ++ with_range range after
with_range-apart low [] after range last h some e apart = absurd (omega arith)
with_range-apart low (dead ∷ []) after range last h some e apart =
    let under : dead.last < range.first = h.2 in
    let ne : dead.last + 1 ≡ range.first → ⊥ = λ touch. apart (ap (λ r. r.last + 1) e ∙ touch) in
    with_range-past range dead after (omega arith)
with_range-apart low (dead ∷ next ∷ before) after range last h some e apart =
    let n : length (dead ∷ next ∷ before) - 1 ≡ suc (length (next ∷ before) - 1) = omega arith in
    let gap : dead.last + 1 ≤ next.first = h.3.0 in
    let whole : next.first ≤ next.last = h.3.1 in
    let under : next.last < range.first = h.3.2 in
    with_range-past range dead (next ∷ before ++ after) (omega arith)
    ∙ ap (λ ranges. dead ∷ ranges)
    (with_range-apart (dead.last + 1) (next ∷ before) after range last h.3 (omega arith) (e ∙ ap (λ i. get_or (dead ∷ next ∷ before) i last) n) apart)
