-- Where halving finds the range that an address may be in.
use Rattle.std.proofs.Common.{subst, ◌≡◌, ℕ, zero, suc, ◌+◌, ◌<◌, ◌≤◌, Bool, true, ◌&&◌, cond, leb, ltb, List, [], ◌∷◌, length, take, drop, get_or, le_refl, Option, Some, None, refl, sym, ap, ◌∙◌, arith, inl, inr, ◌⊎◌, ◌↔◌}
use Rattle.gcl_model.specs.Limits.{address_end}
use Rattle.std.specs.List.{prefix_len, slice_get}
use Rattle.std.specs.List.Sorted.{IsNonDecreasingBy}
use Rattle.std.proofs.lemmas.Bool.{cond_both, cond-true, cond-false, ltb-true, ltb-false, cases_lt, lt-ltb, le-ltb, le-leb, lt-leb, or_from}
use Rattle.std.proofs.Math.Bool.{and-true}
use Rattle.gcl_model.specs.Slots.{SlotRange, AreRangesWithin}
use Rattle.delete_mask.specs.Masks.{is_within, is_dead, dead_range, IsApart}
use Rattle.delete_mask.proofs.MaskLemmas.{is_within-before, is_within-behind, is_within-bounds, dead_range-before, is_dead-before, IsApart-rest, IsApart-behind}

-- how many ranges end before p, if there is a first range
prefix_len-cases : (P : ℕ → Type 0) (range : SlotRange) (mask : List SlotRange) (p : ℕ)
    → (range.last < p → P (suc (prefix_len (λ other. ltb other.last p) mask))) → (p ≤ range.last → P 0) → P (prefix_len (λ (other : SlotRange). ltb other.last p) (range ∷ mask))
prefix_len-cases P range mask p before after =
    cond_both (ltb range.last p) (1 + prefix_len (λ (other : SlotRange). ltb other.last p) mask) 0 P
    (λ e. let more : suc (prefix_len (λ (other : SlotRange). ltb other.last p) mask) ≡ 1 + prefix_len (λ (other : SlotRange). ltb other.last p) mask = omega arith in
    subst P more (before (ltb-true range.last p e)))
    (λ e. after (ltb-false range.last p e))

-- the ranges that end before p
pub AreRangesWithin-before : (low end : ℕ) (mask : List SlotRange) (p : ℕ) → AreRangesWithin low end mask → AreRangesWithin low p (take (prefix_len (λ range. ltb range.last p) mask) mask)
AreRangesWithin-before low end [] p h = tt
AreRangesWithin-before low end (range ∷ mask) p h =
    prefix_len-cases (λ n. AreRangesWithin low p (take n (range ∷ mask))) range mask p
    (λ before. (h.0, h.1, before, AreRangesWithin-before (range.last + 1) end mask p h.3))
    (λ after. tt)

-- the ranges that do not end before the first address of a range that is apart from all
pub AreRangesWithin-after : (low end : ℕ) (mask : List SlotRange) (range : SlotRange) → AreRangesWithin low end mask → IsApart range mask → range.first ≤ range.last
    → AreRangesWithin (range.last + 1) end (drop (prefix_len (λ other. ltb other.last range.first) mask) mask)
AreRangesWithin-after low end [] range h apart le = tt
AreRangesWithin-after low end (dead ∷ mask) range h apart le =
    prefix_len-cases (λ n. AreRangesWithin (range.last + 1) end (drop n (dead ∷ mask))) dead mask range.first
    (λ before. AreRangesWithin-after (dead.last + 1) end mask range h.3 (IsApart-rest range dead mask apart) le)
    (λ after. (let behind = IsApart-behind range dead mask le h.1 apart after in omega arith, h.1, h.2, h.3))

last_from : (low end : ℕ) (mask : List SlotRange) (j : ℕ) (d : SlotRange) → AreRangesWithin low end mask → j < length mask → low ≤ (get_or mask j d).last
last_from low end [] j d h lt = absurd (omega arith)
last_from low end (range ∷ mask) zero d h lt = let first : low ≤ range.first = h.0 in let some : range.first ≤ range.last = h.1 in omega arith
last_from low end (range ∷ mask) (suc j) d h lt =
    let first : low ≤ range.first = h.0 in
    let some : range.first ≤ range.last = h.1 in
    let rest : range.last + 1 ≤ (get_or mask j d).last = last_from (range.last + 1) end mask j d h.3 (omega arith) in
    omega arith

-- the last addresses rise
pub lasts_rise : (low end : ℕ) (mask : List SlotRange) → AreRangesWithin low end mask → IsNonDecreasingBy (λ (r : SlotRange). r.last) mask
lasts_rise low end [] h i j d le lt = absurd (omega arith)
lasts_rise low end (range ∷ mask) h zero zero d le lt = le_refl range.last
lasts_rise low end (range ∷ mask) h zero (suc j) d le lt =
    let rest : range.last + 1 ≤ (get_or mask j d).last = last_from (range.last + 1) end mask j d h.3 (omega arith) in
    omega arith
lasts_rise low end (range ∷ mask) h (suc i) zero d le lt = absurd (omega arith)
lasts_rise low end (range ∷ mask) h (suc i) (suc j) d le lt = lasts_rise (range.last + 1) end mask h.3 i j d (omega arith) (omega arith)

-- the first range that does not end before p is the only one that may have p
abbrev pub reached : ℕ → Option SlotRange → Option SlotRange
reached p None = None
reached p (Some range) = cond (leb range.first p) (Some range) None

pub dead_range-halved : (low end : ℕ) (mask : List SlotRange) (p : ℕ) → AreRangesWithin low end mask
    → dead_range mask p ≡ reached p (slice_get mask (prefix_len (λ range. ltb range.last p) mask))
dead_range-halved low end [] p h = refl
dead_range-halved low end (range ∷ mask) p h = by_order (cases_lt range.last p) (dead_range-halved (range.last + 1) end mask p h.3)
  where
    by_order : (range.last < p) ⊎ (p ≤ range.last) → dead_range mask p ≡ reached p (slice_get mask (prefix_len (λ other. ltb other.last p) mask))
        → dead_range (range ∷ mask) p ≡ reached p (slice_get (range ∷ mask) (prefix_len (λ other. ltb other.last p) (range ∷ mask)))
    by_order (inl behind) rest =
        let count : prefix_len (λ (other : SlotRange). ltb other.last p) (range ∷ mask) ≡ suc (prefix_len (λ other. ltb other.last p) mask) =
        ap (λ t. cond t (1 + prefix_len (λ (other : SlotRange). ltb other.last p) mask) 0) (lt-ltb range.last p behind) ∙ omega arith in
        ap (λ t. cond t (Some range) (dead_range mask p)) (is_within-behind range p behind) ∙ rest ∙ sym (ap (λ n. reached p (slice_get (range ∷ mask) n)) count)
    by_order (inr le) rest =
        let count : prefix_len (λ (other : SlotRange). ltb other.last p) (range ∷ mask) ≡ 0 =
        ap (λ t. cond t (1 + prefix_len (λ (other : SlotRange). ltb other.last p) mask) 0) (le-ltb range.last p le) in
        let none : dead_range mask p ≡ None = dead_range-before (range.last + 1) end mask p h.3 (omega arith) in
        let within : is_within range p ≡ leb range.first p = ap (λ t. leb range.first p && t) (le-leb p range.last le) ∙ and-true (leb range.first p) in
        ap (λ t. cond t (Some range) (dead_range mask p)) within ∙ ap (λ o. cond (leb range.first p) (Some range) o) none ∙ sym (ap (λ n. reached p (slice_get (range ∷ mask) n)) count)

-- the range at the place that halving finds
pub reached_is_dead_range : (mask : List SlotRange) (p at : ℕ) (found : Option SlotRange) → AreRangesWithin 0 address_end mask → at ≡ prefix_len (λ range. ltb range.last p) mask → found ≡ slice_get mask at → reached p found ≡ dead_range mask p
reached_is_dead_range mask p at found h count e = ap (reached p) e ∙ ap (λ n. reached p (slice_get mask n)) count ∙ sym (dead_range-halved 0 address_end mask p h)

pub reached-inside : (range : SlotRange) (p : ℕ) → range.first ≤ p → Some range ≡ reached p (Some range)
reached-inside range p h = sym (cond-true (leb range.first p) (Some range) None (le-leb range.first p h))

pub reached-outside : (range : SlotRange) (p : ℕ) → p < range.first → None ≡ reached p (Some range)
reached-outside range p h = sym (cond-false (leb range.first p) (Some range) None (lt-leb range.first p h))

-- whether a range ends before the one that was found
abbrev pub is_clear : SlotRange → Option SlotRange → Bool
is_clear range None = true
is_clear range (Some dead) = ltb range.last dead.first

-- a range is apart from all exactly if it ends before the first one that does not end before it
pub is_clear-apart : (low end : ℕ) (mask : List SlotRange) (range : SlotRange) → AreRangesWithin low end mask → range.first ≤ range.last
    → (is_clear range (slice_get mask (prefix_len (λ dead. ltb dead.last range.first) mask)) ≡ true) ↔ IsApart range mask
is_clear-apart low end [] range h le = (λ e p within. refl, λ apart. refl)
is_clear-apart low end (dead ∷ mask) range h le =
    prefix_len-cases (λ n. (is_clear range (slice_get (dead ∷ mask) n) ≡ true) ↔ IsApart range (dead ∷ mask)) dead mask range.first
    (λ before.
    let rest = is_clear-apart (dead.last + 1) end mask range h.3 le in
    (λ e p within. or_from (is_within dead p) (is_dead mask p) (let from = (is_within-bounds range p within).0 in is_within-behind dead p (omega arith)) (rest.0 e p within), λ apart. rest.1 (IsApart-rest range dead mask apart)))
    (λ after. (
      λ e p within.
          let behind : range.last < dead.first = ltb-true range.last dead.first e in
          let upto : p ≤ range.last = (is_within-bounds range p within).1 in
          let some : dead.first ≤ dead.last = h.1 in
          or_from (is_within dead p) (is_dead mask p) (is_within-before dead p (omega arith)) (is_dead-before (dead.last + 1) end mask p h.3 (omega arith)),
      λ apart. lt-ltb range.last dead.first (IsApart-behind range dead mask le h.1 apart after),
    ))

-- the same at the place that halving finds
pub is_clear_is_apart : (mask : List SlotRange) (range : SlotRange) (at : ℕ) (found : Option SlotRange) → AreRangesWithin 0 address_end mask → range.first ≤ range.last
    → at ≡ prefix_len (λ dead. ltb dead.last range.first) mask → found ≡ slice_get mask at → (is_clear range found ≡ true) ↔ IsApart range mask
is_clear_is_apart mask range at found h le count e =
    let clear = is_clear-apart 0 address_end mask range h le in
    let same = ap (is_clear range) e ∙ ap (λ n. is_clear range (slice_get mask n)) count in
    (λ is. clear.0 (sym same ∙ is), λ apart. same ∙ clear.1 apart)
