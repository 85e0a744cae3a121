-- Of rising postings the dead ones are left out: a block that no dead range meets is put whole, and in another one a dead range is leapt over.
use Rattle.std.proofs.Common.{subst, ◌≡◌, ◌≤◌, ◌<◌, ◌*◌, ◌-◌, ◌^◌, ℕ, zero, suc, ◌+◌, true, false, List, [], ◌∷◌, ◌++◌, length, take, drop, get_or, slice_get, None, Some, inl, inr, refl, sym, ap, ◌∙◌, arith}
use Rattle.std.specs.List.{AllByRecursion}
use Rattle.std.proofs.lemmas.Bool.{cases_Bool, or_left, or_right}
use Rattle.std.proofs.Math.Seq.{take-add}
use Rattle.std.proofs.lemmas.List.{append_assoc, drop_more}
use Rattle.std.proofs.lemmas.List.Elements.{filter-append}
use Rattle.gcl_model.specs.Slots.{SlotRange, slot_range}
use Rattle.gcl_model.proofs.Lists.{filter_kept}
use Rattle.posting_code.specs.Postings.{ArePostings, block_of}
use Rattle.index_shard.specs.Tables.{RiseWithin}
use Rattle.delete_mask.specs.Masks.{is_within, is_dead, dead_range, IsApart}
use Rattle.delete_mask.proofs.MaskLemmas.{is_within-bounds, is_within-inside, dead_range-within}
use Rattle.live_version.specs.LookUps.{is_alive}
use Rattle.slot_terms.specs.Parts.{alive}

-- one block more
pub put_more : (mask : List SlotRange) (list members out put more : List ℕ) (block : ℕ) → members ≡ block_of list block → put ≡ out ++ alive mask (take (64 * block) list) → more ≡ put ++ alive mask members →
    more ≡ out ++ alive mask (take (64 * (block + 1)) list)
put_more mask list members out put more block read was is =
    let next : 64 * block + 64 ≡ 64 * (block + 1) = omega arith in
    let cut : take (64 * (block + 1)) list ≡ take (64 * block) list ++ block_of list block = ap (λ n. take n list) (sym next) ∙ take-add (64 * block) 64 list in
    is
    ∙ ap (λ l. l ++ alive mask members) was
    ∙ append_assoc out (alive mask (take (64 * block) list)) (alive mask members)
    ∙ ap (λ l. out ++ (alive mask (take (64 * block) list) ++ alive mask l)) read
    ∙ ap (λ l. out ++ l) (sym (filter-append (is_alive mask) (take (64 * block) list) (block_of list block)))
    ∙ ap (λ l. out ++ alive mask l) (sym cut)

-- the first and the last of rising postings are about all of them
within_ends : (first low end : ℕ) (ps : List ℕ) → first ≤ low → RiseWithin low (end + 1) ps → AllByRecursion (λ p. is_within (slot_range first end) p ≡ true) ps
within_ends first low end [] le rising = tt
within_ends first low end (p ∷ ps) le rising =
    let at = rising.0 in
    let below = rising.1 in
    (is_within-inside (slot_range first end) p (omega arith) (omega arith), within_ends first (p + 1) end ps (omega arith) rising.2)

ends_at : (low end last : ℕ) (ps : List ℕ) (i : ℕ) → RiseWithin low end ps → i + 1 ≡ length ps → slice_get ps i ≡ Some last → RiseWithin low (last + 1) ps × (last < end)
ends_at low end last [] i rising is at = absurd (omega arith)
ends_at low end last (p ∷ []) zero rising is at = let same : p ≡ last = cc in let below = rising.1 in ((rising.0, omega arith, tt), omega arith)
ends_at low end last (p ∷ []) (suc i) rising is at = absurd (omega arith)
ends_at low end last (p ∷ q ∷ ps) zero rising is at = absurd (omega arith)
ends_at low end last (p ∷ q ∷ ps) (suc i) rising is at =
    let rest = ends_at (p + 1) end last (q ∷ ps) i rising.2 (omega arith) at in
    let after = rest.0.0 in
    let below = rest.0.1 in
    ((rising.0, omega arith, rest.0), rest.1)

-- the first of rising postings is at most the last
pub ends_rise : (members : List ℕ) (first last : ℕ) → ArePostings members → slice_get members 0 ≡ Some first → slice_get members (length members - 1) ≡ Some last → (first ≤ last) × (last < 2 ^ 56)
ends_rise [] first last rising is_first is_last = absurd cc
ends_rise (p ∷ ps) first last rising is_first is_last =
    let same : p ≡ first = cc in
    let ends = ends_at 0 (2 ^ 56) last (p ∷ ps) (length (p ∷ ps) - 1) rising (omega arith) is_last in
    let below = ends.0.1 in
    (omega arith, ends.1)

-- if nothing from the first to the last is dead, none of the postings is
pub untouched : (mask : List SlotRange) (members : List ℕ) (first last : ℕ) → ArePostings members → slice_get members 0 ≡ Some first → slice_get members (length members - 1) ≡ Some last →
    IsApart (slot_range first last) mask → alive mask members ≡ members
untouched mask [] first last rising is_first is_last apart = refl
untouched mask (p ∷ ps) first last rising is_first is_last apart =
    let same : p ≡ first = cc in
    let ends = (ends_at 0 (2 ^ 56) last (p ∷ ps) (length (p ∷ ps) - 1) rising (omega arith) is_last).0 in
    let below = ends.1 in
    filter_kept (is_alive mask) (p ∷ ps) (all_alive (p ∷ ps) (is_within-inside (slot_range first last) p (omega arith) (omega arith), within_ends first (p + 1) last ps (omega arith) ends.2))
  where
    all_alive : (qs : List ℕ) → AllByRecursion (λ q. is_within (slot_range first last) q ≡ true) qs → AllByRecursion (λ q. is_alive mask q ≡ true) qs
    all_alive [] all = tt
    all_alive (q ∷ qs) all = (rw (apart q all.0) refl, all_alive qs all.1)

-- with one address all of its dead range is dead
pub range_is_dead : (mask : List SlotRange) (p q : ℕ) (range : SlotRange) → Some range ≡ dead_range mask p → is_within range q ≡ true → is_dead mask q ≡ true
range_is_dead [] p q range found within = absurd cc
range_is_dead (dead ∷ mask) p q range found within =
    elim (cases_Bool (is_within dead p)) [
      | inl h ↦ let found = rw h at found in let same : range ≡ dead = cc in or_left (is_within dead q) (is_dead mask q) (ap (λ r. is_within r q) (sym same) ∙ within)
      | inr h ↦ or_right (is_within dead q) (is_dead mask q) (range_is_dead mask p q range (rw h at found) within)
    ]

-- the postings that are left rise, and of them all below an address are dead
pub record IsDeadBelow (mask : List SlotRange) (alive_from : ℕ) (rest : List ℕ) : Type 0 where
  pub low : ℕ
  pub end : ℕ
  pub rising : RiseWithin low end rest
  pub dead : (p : ℕ) → low ≤ p → p < alive_from → is_dead mask p ≡ true

-- what was put of the postings before a place, with what is live of the others, is all; and the others rise
pub record IsPut (mask : List SlotRange) (members out put : List ℕ) (i alive_from : ℕ) : Type 0 where
  pub addresses : put ++ alive mask (drop i members) ≡ out ++ alive mask members
  pub below : IsDeadBelow mask alive_from (drop i members)

dead_below_rest : (mask : List SlotRange) (alive_from p : ℕ) (rest : List ℕ) → IsDeadBelow mask alive_from (p ∷ rest) → IsDeadBelow mask alive_from rest
dead_below_rest mask alive_from p rest below =
    let at : below.low ≤ p = below.rising.0 in
    record { low = p + 1; end = below.end; rising = below.rising.2; dead = λ q le lt. below.dead q (omega arith) lt }

-- one posting more, which is not dead
pub put_alive : (mask : List SlotRange) (members out put more : List ℕ) (i alive_from p : ℕ) → i < length members → p ≡ get_or members i 0 → IsPut mask members out put i alive_from →
    None ≡ dead_range mask p → is_dead mask p ≡ false → more ≡ put ++ p ∷ [] → IsPut mask members out more (i + 1) alive_from
put_alive mask members out put more i alive_from p lt at is none alive_ pushed =
    let rest = drop (i + 1) members in
    let cut : drop i members ≡ p ∷ rest = drop_more members i 0 lt ∙ ap (λ q. q ∷ rest) (sym at) in
    let here : alive mask (p ∷ rest) ≡ p ∷ alive mask rest = rw alive_ refl in
    record {
      addresses = ap (λ l. l ++ alive mask rest) pushed ∙ append_assoc put (p ∷ []) (alive mask rest) ∙ ap (λ l. put ++ l) (sym here) ∙ ap (λ l. put ++ alive mask l) (sym cut) ∙ is.addresses;
      below = dead_below_rest mask alive_from p rest (subst (IsDeadBelow mask alive_from) cut is.below);
    }

skip_dead : (mask : List SlotRange) (members out put : List ℕ) (i alive_from after p : ℕ) → i < length members → p ≡ get_or members i 0 → IsPut mask members out put i alive_from →
    is_dead mask p ≡ true → (IsDeadBelow mask alive_from (p ∷ drop (i + 1) members) → IsDeadBelow mask after (drop (i + 1) members)) → IsPut mask members out put (i + 1) after
skip_dead mask members out put i alive_from after p lt at is dead below =
    let rest = drop (i + 1) members in
    let cut : drop i members ≡ p ∷ rest = drop_more members i 0 lt ∙ ap (λ q. q ∷ rest) (sym at) in
    let here : alive mask (p ∷ rest) ≡ alive mask rest = rw dead refl in
    record {
      addresses = ap (λ l. put ++ l) (sym here) ∙ ap (λ l. put ++ alive mask l) (sym cut) ∙ is.addresses;
      below = below (subst (IsDeadBelow mask alive_from) cut is.below);
    }

-- one posting more, which lies in the dead range that was met last
pub skip_again : (mask : List SlotRange) (members out put : List ℕ) (i alive_from p : ℕ) → i < length members → p ≡ get_or members i 0 → IsPut mask members out put i alive_from → p < alive_from →
    IsPut mask members out put (i + 1) alive_from
skip_again mask members out put i alive_from p lt at is below =
    let cut : drop i members ≡ p ∷ drop (i + 1) members = drop_more members i 0 lt ∙ ap (λ q. q ∷ drop (i + 1) members) (sym at) in
    let dead = subst (IsDeadBelow mask alive_from) cut is.below in
    skip_dead mask members out put i alive_from alive_from p lt at is (dead.dead p dead.rising.0 below) (dead_below_rest mask alive_from p (drop (i + 1) members))

-- one posting more, at which a dead range is met
pub skip_range : (mask : List SlotRange) (members out put : List ℕ) (i alive_from p : ℕ) (range : SlotRange) → i < length members → p ≡ get_or members i 0 → IsPut mask members out put i alive_from →
    Some range ≡ dead_range mask p → is_dead mask p ≡ true → IsPut mask members out put (i + 1) (range.last + 1)
skip_range mask members out put i alive_from p range lt at is found dead =
    let within = is_within-bounds range p (dead_range-within mask p range (sym found)) in
    let first : range.first ≤ p = within.0 in
    skip_dead mask members out put i alive_from (range.last + 1) p lt at is dead
    (λ below. record {
      low = p + 1;
      end = below.end;
      rising = below.rising.2;
      dead = λ q le below_range. range_is_dead mask p q range found (is_within-inside range q (omega arith) (omega arith));
    })
