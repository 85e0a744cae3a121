-- What the members of one block say of a whole version, if nothing of their slot is dead.
use Rattle.std.proofs.Common.{◌≡◌, ℕ, zero, suc, ◌+◌, ◌-◌, ◌<◌, ◌≤◌, Bool, true, leb, List, [], ◌∷◌, length, take, find, reverse, get_or, Option, Some, None, slice_get, refl, sym, ap, ◌∙◌, subst, arith}
use Rattle.std.specs.List.{AllByRecursion}
use Rattle.std.specs.Option.{IfSome, option_map}
use Rattle.std.proofs.lemmas.Bool.{eqb-true, leb-true}
use Rattle.std.proofs.lemmas.List.{get_or-take, nil_from_length}
use Rattle.std.proofs.lemmas.Option.{IfSome_then, slice_get-map, slice_get_within, get_or_from_slice_get}
use Rattle.gcl_model.specs.Access.{find_last, later_or}
use Rattle.gcl_model.specs.Slots.{AreRangesWithin}
use Rattle.gcl_model.specs.Texts.{places, next_place, previous_place}
use Rattle.gcl_model.specs.declared.direction.Direction.{Direction}
use Rattle.gcl_model.specs.declared.direction.Direction.TheVariants.{Forward, Backward}
use Rattle.gcl_model.proofs.Lists.{filter_all, found_passes, find-reverse}
use Rattle.gcl_model.proofs.WordLists.{previous_place-append, none_next, none_previous}
use Rattle.posting_code.specs.Packed.{last_of}
use Rattle.posting_code.specs.Postings.{ArePostings, block_of}
use Rattle.index_shard.specs.Searched.{nearest}
use Rattle.index_shard.specs.Tables.{postings_of}
use Rattle.live_version.specs.Contents.{SlotContent, VersionContent, IsSlot, IsVersion, live_words, live_of, ranges_of}
use Rattle.live_version.proofs.WordLemmas.{live_words_rise, live_of_rise, next_by_slot, previous_by_slot, next_in_first, next_in_rest}
use Rattle.term_fingers.specs.Lists.{HasNoDead, IsAt, IsAtHand, LiesOn, TellsNearest, addresses_in, is_undeleted, list_of, places_of, undeleted_of}
use Rattle.term_fingers.proofs.Beside.{at_of_block, list_is, postings_within, slot_is}
use Rattle.term_fingers.proofs.Nearest.{last_is, tells_nearest}

-- a slot that is known to have no dead range has none
pub undeleted_known : (slots : List SlotContent) (number : ℕ) (whole : List Bool) (d : Bool) → take (length slots) whole ≡ undeleted_of slots → get_or whole number d ≡ true → HasNoDead slots number
undeleted_known slots number whole d known told = λ slot at.
    let got = ap (λ bs. slice_get bs number) known ∙ slice_get-map is_undeleted slots number ∙ ap (option_map is_undeleted) at in
    let is : get_or whole number d ≡ is_undeleted slot =
    sym (get_or-take (length slots) whole number d (slice_get_within slots number slot at)) ∙ get_or_from_slice_get (take (length slots) whole) number (is_undeleted slot) d got in
    nil_from_length slot.mask (eqb-true (length slot.mask) 0 (sym is ∙ told))

-- a slot at a place begins after what is before all slots, and at or after an address that is not before the slot, its next word is that of all
next_in_slot : (low end : ℕ) (slots : List SlotContent) (number : ℕ) (slot : SlotContent) (term : List ℕ) (k p : ℕ) → AreRangesWithin low end (ranges_of slots) → AllByRecursion IsSlot slots → slice_get slots number ≡ Some slot →
    (low ≤ slot.range.first) × (slot.range.first ≤ k → Some p ≡ next_place (live_words slot) term k → Some p ≡ next_place (live_of slots) term k)
next_in_slot low end [] zero slot term k p r are at = absurd cc
next_in_slot low end [] (suc number) slot term k p r are at = absurd cc
next_in_slot low end (x ∷ xs) zero slot term k p r are at =
    let same : x ≡ slot = cc in (
      subst (λ (s : SlotContent). low ≤ s.range.first) same r.0,
      λ from here. next_in_first x xs term k p (subst (λ (s : SlotContent). Some p ≡ next_place (live_words s) term k) (sym same) here),
    )
next_in_slot low end (x ∷ xs) (suc number) slot term k p r are at =
    let rest = next_in_slot (x.range.last + 1) end xs number slot term k p r.3 are.1 at in
    let behind : x.range.last + 1 ≤ slot.range.first = rest.0 in
    let start : low ≤ x.range.first = r.0 in
    let some : x.range.first ≤ x.range.last = r.1 in (
      omega (arith, behind, start, some),
      λ from here.
          let none = none_next (x.range.last + 1) x.range.first (live_words x) term k (live_words_rise x are.0) (omega (arith, behind, from)) in
          rest.1 from here ∙ sym (next_in_rest x xs term k (sym none)),
    )

-- at or before an address that is not after a slot, its last word is that of all
previous_in_slot : (low end : ℕ) (slots : List SlotContent) (number : ℕ) (slot : SlotContent) (term : List ℕ) (k p : ℕ) → AreRangesWithin low end (ranges_of slots) → AllByRecursion IsSlot slots → slice_get slots number ≡ Some slot →
    k ≤ slot.range.last → Some p ≡ previous_place (live_words slot) term k → Some p ≡ previous_place (live_of slots) term k
previous_in_slot low end [] zero slot term k p r are at upto here = absurd cc
previous_in_slot low end [] (suc number) slot term k p r are at upto here = absurd cc
previous_in_slot low end (x ∷ xs) zero slot term k p r are at upto here =
    let same : x ≡ slot = cc in
    let inside : k ≤ x.range.last = subst (λ (s : SlotContent). k ≤ s.range.last) (sym same) upto in
    let none = none_previous end (x.range.last + 1) (live_of xs) term k (live_of_rise (x.range.last + 1) end xs r.3 are.1) (omega (arith, inside)) in
    subst (λ (s : SlotContent). Some p ≡ previous_place (live_words s) term k) (sym same) here
    ∙ sym (previous_place-append (live_words x) (live_of xs) term k ∙ ap (λ o. later_or o (previous_place (live_words x) term k)) none)
previous_in_slot low end (x ∷ xs) (suc number) slot term k p r are at upto here =
    let rest = previous_in_slot (x.range.last + 1) end xs number slot term k p r.3 are.1 at upto here in
    sym (previous_place-append (live_words x) (live_of xs) term k ∙ ap (λ o. later_or o (previous_place (live_words x) term k)) (sym rest))

-- what is nearest to an address of a slot's range among the postings there is nearest in the version, if nothing of the slot is dead
near_in_slot : (v : VersionContent) (number : ℕ) (slot : SlotContent) (term : List ℕ) (direction : Direction) (k p : ℕ) → IsVersion v → slice_get v.slots number ≡ Some slot → slot.mask ≡ [] →
    slot.range.first ≤ k → k ≤ slot.range.last → Some p ≡ nearest direction (postings_of slot.shard.table term) k → Some p ≡ nearest direction (places (live_of v.slots) term) k
near_in_slot v number slot term Forward k p is at whole from upto near =
    let ps = postings_of slot.shard.table term in
    (next_in_slot v.first v.next v.slots number slot term k p is.apart is.slots at).1 from
    (next_by_slot slot slot.shard [] term k (Some p) (slot_is v number slot is at) refl (sym whole) (near ∙ sym (ap (find (λ q. leb k q)) (filter_all ps))))
near_in_slot v number slot term Backward k p is at whole from upto near =
    let ps = postings_of slot.shard.table term in
    previous_in_slot v.first v.next v.slots number slot term k p is.apart is.slots at upto
    (previous_by_slot slot slot.shard [] term k (Some p) (slot_is v number slot is at) refl (sym whole) (near ∙ sym (ap (find_last (λ q. leb q k)) (filter_all ps))))

-- so what is nearest between members of the list of a term, in a slot of which nothing is dead, is nearest in the version
version_near : (v : VersionContent) (number place : ℕ) (term : List ℕ) (found : List (Option ℕ)) (direction : Direction) (k p : ℕ) → IsVersion v → take (length v.slots) found ≡ places_of term v.slots →
    slice_get found number ≡ Some (Some place) → HasNoDead v.slots number → IsAtHand direction (list_of v.slots number place) k p → Some p ≡ nearest direction (places (live_of v.slots) term) k
version_near v number place term found direction k p is all here whole hand = by_slot (slice_get v.slots number) refl
  where
    by_slot : (o : Option SlotContent) → slice_get v.slots number ≡ o → Some p ≡ nearest direction (places (live_of v.slots) term) k
    by_slot None at =
        let none : list_of v.slots number place ≡ [] = ap (λ o. addresses_in (option_map (λ (slot : SlotContent). slot.shard) o) place) at in
        let nothing = subst (λ ps. IsAt ps hand.around.low) none hand.around.begins in
        absurd (omega (arith, nothing.within))
    by_slot (Some slot) at =
        let near = subst (λ ps. IsAtHand direction ps k p) (list_is v is number slot at term place found all here) hand in
        let around = near.around in
        let low : slot.range.first ≤ around.low = (postings_within v is number slot at term around.low around.begins).0 in
        let high : around.high < slot.range.last + 1 = (postings_within v is number slot at term around.high around.ends).1 in
        near_in_slot v number slot term direction k p is at (whole slot at) (omega (arith, low, around.from)) (omega (arith, high, around.upto)) near.is

-- the same of what a finger finds, if anything
pub version_tells : (v : VersionContent) (number place : ℕ) (term : List ℕ) (found : List (Option ℕ)) (direction : Direction) (k : ℕ) (o : Option ℕ) → IsVersion v → take (length v.slots) found ≡ places_of term v.slots →
    slice_get found number ≡ Some (Some place) → HasNoDead v.slots number → IfSome o (IsAtHand direction (list_of v.slots number place) k) → IfSome o (λ p. Some p ≡ nearest direction (places (live_of v.slots) term) k)
version_tells v number place term found direction k o is all here whole hand = IfSome_then o hand (λ p at. version_near v number place term found direction k p is all here whole at)

-- what a part of a list determines on both sides, it determines on one
told_by : (direction : Direction) (xs part : List ℕ) (k : ℕ) → TellsNearest xs part k → nearest direction part k ≡ nearest direction xs k
told_by Forward xs part k tells = sym tells.least
told_by Backward xs part k tells = sym tells.greatest

-- between the ends of a block its nearest member is that of the list
pub at_hand : (xs part : List ℕ) (b k : ℕ) (direction : Direction) (o : Option ℕ) → ArePostings xs → part ≡ block_of xs b → 0 < length part → get_or part 0 0 ≤ k → k ≤ get_or part (length part - 1) 0 →
    o ≡ nearest direction part k → IfSome o (IsAtHand direction xs k)
at_hand xs part b k direction None r is some low high near = tt
at_hand xs part b k direction (Some p) r is some low high near = record {
  is = near ∙ told_by direction xs part k (tells_nearest xs part b k r is some low high);
  around = record {
    low = get_or part 0 0;
    begins = at_of_block xs part b 0 is some;
    from = low;
    high = get_or part (length part - 1) 0;
    ends = at_of_block xs part b (length part - 1) is (omega (arith, some));
    upto = high;
  };
}

-- the same between the ends of a list
pub within_list : (xs : List ℕ) (k last : ℕ) (direction : Direction) (o : Option ℕ) → 0 < length xs → get_or xs 0 0 ≤ k → last ≡ last_of xs → k ≤ last → o ≡ nearest direction xs k → IfSome o (IsAtHand direction xs k)
within_list xs k last direction None some low is high near = tt
within_list xs k last direction (Some p) some low is high near = record {
  is = near;
  around = record {
    low = get_or xs 0 0;
    begins = record { place = 0; within = some; is = refl };
    from = low;
    high = last;
    ends = record { place = length xs - 1; within = omega (arith, some); is = last_is xs some ∙ sym is };
    upto = high;
  };
}

-- what is nearest on one side lies on it
nearest_lies : (direction : Direction) (ps : List ℕ) (k p : ℕ) → Some p ≡ nearest direction ps k → LiesOn direction k p
nearest_lies Forward ps k p is = leb-true k p (found_passes (λ q. leb k q) p ps (sym is))
nearest_lies Backward ps k p is = leb-true p k (found_passes (λ q. leb q k) p (reverse ps) (find-reverse (λ q. leb q k) ps ∙ sym is))

-- the same of what a finger finds, if anything
pub told_lies : (direction : Direction) (ps : List ℕ) (k : ℕ) (o : Option ℕ) → IfSome o (λ p. Some p ≡ nearest direction ps k) → IfSome o (LiesOn direction k)
told_lies direction ps k o near = IfSome_then o near (nearest_lies direction ps k)
