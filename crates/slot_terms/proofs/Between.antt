-- What is between the dead ranges of rising postings.
use Rattle.std.proofs.Common.{◌≡◌, ℕ, zero, suc, ◌+◌, ◌-◌, ◌^◌, ◌<◌, ◌≤◌, true, false, not, cond, List, [], ◌∷◌, ◌++◌, length, length-append, length-drop, take, drop, get_or, append_assoc, ltb, refl, sym, ap, ◌∙◌, subst, arith}
use Rattle.std.specs.List.{prefix_len}
use Rattle.std.proofs.lemmas.Bool.{or_from}
use Rattle.std.proofs.lemmas.List.{drop_more, take-append-drop, take_all}
use Rattle.std.proofs.lemmas.List.Elements.{filter-append}
use Rattle.std.proofs.Math.ListN.{drop_of_length-le}
use Rattle.gcl_model.specs.Limits.{address_end}
use Rattle.gcl_model.specs.Slots.{SlotRange, slot_range, AreRangesWithin}
use Rattle.posting_code.specs.Postings.{RiseWithin, ArePostings}
use Rattle.posting_code.specs.Packed.{last_of}
use Rattle.posting_code.proofs.Rising.{rise_front, rise_wider}
use Rattle.posting_code.proofs.Cuts.{rise_to_last}
use Rattle.delete_mask.specs.Masks.{is_within, is_dead, IsApart}
use Rattle.delete_mask.proofs.Halving.{AreRangesWithin-before}
use Rattle.delete_mask.proofs.MaskLemmas.{is_within-inside, is_within-before, is_within-behind, is_dead-before}
use Rattle.live_version.specs.LookUps.{is_alive}
use Rattle.slot_terms.specs.Parts.{alive}
use Rattle.slot_terms.proofs.Rising.{all_alive}

-- if nothing within the bounds is dead, all are alive
pub alive_where : (mask : List SlotRange) (low end : ℕ) (xs : List ℕ) → RiseWithin low end xs → ((p : ℕ) → low ≤ p → p < end → is_dead mask p ≡ false) → alive mask xs ≡ xs
alive_where mask low end [] r none = refl
alive_where mask low end (x ∷ xs) r none =
    let at = r.0 in
    rw (none x r.0 r.1) (ap (λ l. x ∷ l) (alive_where mask (x + 1) end xs r.2 (λ p le lt. none p (omega (arith, le, at)) lt)))

-- and if all is dead, none is
pub dead_where : (mask : List SlotRange) (low end : ℕ) (xs : List ℕ) → RiseWithin low end xs → ((p : ℕ) → low ≤ p → p < end → is_dead mask p ≡ true) → alive mask xs ≡ []
dead_where mask low end [] r all = refl
dead_where mask low end (x ∷ xs) r all =
    let at = r.0 in
    rw (all x r.0 r.1) (dead_where mask (x + 1) end xs r.2 (λ p le lt. all p (omega (arith, le, at)) lt))

-- what is dead within the bounds says which are alive
pub alive_same : (mask other : List SlotRange) (low end : ℕ) (xs : List ℕ) → RiseWithin low end xs → ((p : ℕ) → low ≤ p → is_dead mask p ≡ is_dead other p) → alive mask xs ≡ alive other xs
alive_same mask other low end [] r same = refl
alive_same mask other low end (x ∷ xs) r same =
    let at = r.0 in
    let rest = alive_same mask other (x + 1) end xs r.2 (λ p le. same p (omega (arith, le, at))) in
    rw (same x r.0) (ap (λ l. cond (not (is_dead other x)) (x ∷ l) l) rest)

-- both bounds hold
both_bounds : (low low' end end' : ℕ) (xs : List ℕ) → RiseWithin low end xs → RiseWithin low' end' xs → RiseWithin low end' xs
both_bounds low low' end end' [] r s = tt
both_bounds low low' end end' (x ∷ xs) r s = (r.0, s.1, both_bounds (x + 1) (x + 1) end end' xs r.2 s.2)

-- rising postings in three parts: before a range, within it, and after it
pub record IsParted (range : SlotRange) (rest live others dead after : List ℕ) : Type 0 where
  pub whole : rest ≡ live ++ others
  pub below : RiseWithin 0 range.first live
  pub from : RiseWithin range.first (2 ^ 56) others
  pub others_are : others ≡ dead ++ after
  pub within : RiseWithin 0 (range.last + 1) dead
  pub behind : RiseWithin (range.last + 1) (2 ^ 56) after

-- what is before the first of some ranges is alive
pub before_alive : (range : SlotRange) (later : List SlotRange) (low end : ℕ) (live : List ℕ) → AreRangesWithin low end (range ∷ later) → RiseWithin 0 range.first live → alive (range ∷ later) live ≡ live
before_alive range later low end live apart below =
    let some = apart.1 in
    alive_where (range ∷ later) 0 range.first live below
    (λ p le lt. or_from (is_within range p) (is_dead later p) (is_within-before range p lt) (is_dead-before (range.last + 1) end later p apart.3 (omega (arith, lt, some))))

-- of them those before the range are alive, and of those after it what later ranges leave
pub parted : (range : SlotRange) (later : List SlotRange) (low end : ℕ) (rest live others dead after : List ℕ) → AreRangesWithin low end (range ∷ later) → IsParted range rest live others dead after →
    alive (range ∷ later) rest ≡ live ++ alive later after
parted range later low end rest live others dead after apart is =
    let mask = range ∷ later in
    let inside : (p : ℕ) → range.first ≤ p → p < range.last + 1 → is_dead mask p ≡ true = λ p le lt. rw (is_within-inside range p le (omega (arith, lt))) refl in
    let behind : (p : ℕ) → range.last + 1 ≤ p → is_dead mask p ≡ is_dead later p = λ p le. rw (is_within-behind range p (omega (arith, le))) refl in
    let all_dead : RiseWithin range.first (range.last + 1) dead =
    both_bounds range.first 0 (2 ^ 56) (range.last + 1) dead (rise_front range.first (2 ^ 56) dead after (subst (RiseWithin range.first (2 ^ 56)) is.others_are is.from)) is.within in
    ap (alive mask) is.whole
    ∙ filter-append (is_alive mask) live others
    ∙ ap (λ l. l ++ alive mask others) (before_alive range later low end live apart is.below)
    ∙ ap (λ l. live ++ alive mask l) is.others_are
    ∙ ap (λ l. live ++ l) (filter-append (is_alive mask) dead after)
    ∙ ap (λ l. live ++ (l ++ alive mask after)) (dead_where mask range.first (range.last + 1) dead all_dead inside)
    ∙ ap (λ l. live ++ l) (alive_same mask later (range.last + 1) (2 ^ 56) after is.behind behind)

apart_wider : (low low' end : ℕ) (ranges : List SlotRange) → low' ≤ low → AreRangesWithin low end ranges → AreRangesWithin low' end ranges
apart_wider low low' end [] le r = tt
apart_wider low low' end (range ∷ ranges) le r = let at = r.0 in (omega (arith, at, le), r.1, r.2, r.3)

-- the ranges starting at a place are apart too
apart_drop : (low end : ℕ) (ranges : List SlotRange) (i : ℕ) → AreRangesWithin low end ranges → AreRangesWithin low end (drop i ranges)
apart_drop low end ranges zero r = r
apart_drop low end [] (suc i) r = tt
apart_drop low end (range ∷ ranges) (suc i) r =
    let at = r.0 in
    let some = r.1 in
    apart_wider (range.last + 1) low end (drop i ranges) (omega (arith, at, some)) (apart_drop (range.last + 1) end ranges i r.3)

dead_behind : (low p q : ℕ) (front back : List SlotRange) → AreRangesWithin low p front → p ≤ q → is_dead (front ++ back) q ≡ is_dead back q
dead_behind low p q [] back r le = refl
dead_behind low p q (range ∷ front) back r le =
    let below = r.2 in
    rw (is_within-behind range q (omega (arith, below, le))) (dead_behind (range.last + 1) p q front back r.3 le)

-- ranges that end before an address have none that is after it
pub dead_from : (low end : ℕ) (mask : List SlotRange) (p q : ℕ) → AreRangesWithin low end mask → p ≤ q → is_dead (drop (prefix_len (λ range. ltb range.last p) mask) mask) q ≡ is_dead mask q
dead_from low end mask p q r le =
    let n = prefix_len (λ (range : SlotRange). ltb range.last p) mask in
    sym (dead_behind low p q (take n mask) (drop n mask) (AreRangesWithin-before low end mask p r) le) ∙ ap (λ m. is_dead m q) (take-append-drop n mask)

-- all starting at a place
take_rest : (ranges : List SlotRange) (n : ℕ) → take (length ranges - n) (drop n ranges) ≡ drop n ranges
take_rest ranges n = let long = length-drop n ranges in take_all (length ranges - n) (drop n ranges) (omega (arith, long))

-- the same of the ranges as they are lent
pub dead_left : (mask ranges : List SlotRange) (p n : ℕ) → ranges ≡ mask → AreRangesWithin 0 address_end mask → n ≡ prefix_len (λ range. ltb range.last p) ranges →
    (q : ℕ) → p ≤ q → is_dead (take (length ranges - n) (drop n ranges)) q ≡ is_dead mask q
dead_left mask ranges p n is apart n_is q le =
    ap (λ m. is_dead m q) (take_rest ranges n ∙ ap (λ m. drop m ranges) n_is)
    ∙ dead_from 0 address_end ranges p q (subst (AreRangesWithin 0 address_end) (sym is) apart) le
    ∙ ap (λ m. is_dead m q) is

pub left_apart : (mask ranges : List SlotRange) (n : ℕ) → ranges ≡ mask → AreRangesWithin 0 address_end mask → AreRangesWithin 0 address_end (take (length ranges - n) (drop n ranges))
left_apart mask ranges n is apart =
    subst (AreRangesWithin 0 address_end) (sym (take_rest ranges n)) (apart_drop 0 address_end ranges n (subst (AreRangesWithin 0 address_end) (sym is) apart))

-- of a block, they leave what all leave
pub same_from : (mask ranges : List SlotRange) (block : List ℕ) (first : ℕ) → ArePostings block → (0 < length block → first ≡ get_or block 0 0) → ((q : ℕ) → first ≤ q → is_dead ranges q ≡ is_dead mask q) → alive ranges block ≡ alive mask block
same_from mask ranges [] first rising first_is same = refl
same_from mask ranges (p ∷ ps) first rising first_is same =
    let at : first ≡ p = first_is (omega arith) in
    alive_same ranges mask p (2 ^ 56) (p ∷ ps) (omega arith, rising.1, rising.2) (λ q le. same q (omega (arith, le, at)))

-- what was put, with what the ranges starting at a place leave of the rest, is all
pub record IsBetween (ranges : List SlotRange) (block out put rest : List ℕ) (i : ℕ) : Type 0 where
  pub all : put ++ alive (drop i ranges) rest ≡ out ++ alive ranges block
  pub few : length rest ≤ 64

-- one range more
pub between_goes : (ranges : List SlotRange) (block out put rest more live others dead after : List ℕ) (i : ℕ) (range : SlotRange) → i < length ranges → range ≡ get_or ranges i range → AreRangesWithin 0 address_end ranges →
    IsBetween ranges block out put rest i → IsParted range rest live others dead after → more ≡ put ++ live → IsBetween ranges block out more after (i + 1)
between_goes ranges block out put rest more live others dead after i range lt at apart was is put_is =
    let later = drop (i + 1) ranges in
    let cut : drop i ranges ≡ range ∷ later = drop_more ranges i range lt ∙ ap (λ r. r ∷ later) (sym at) in
    let left = subst (AreRangesWithin 0 address_end) cut (apart_drop 0 address_end ranges i apart) in
    let long = ap length is.whole ∙ length-append live others in
    let long_others = ap length is.others_are ∙ length-append dead after in
    let few = was.few in
    record {
      all = ap (λ l. l ++ alive later after) put_is
          ∙ append_assoc put live (alive later after)
          ∙ ap (λ l. put ++ l) (sym (parted range later 0 address_end rest live others dead after left is))
          ∙ ap (λ m. put ++ alive m rest) (sym cut)
          ∙ was.all;
      few = omega (arith, long, long_others, few);
    }

none_of : {X : Type 0} (xs : List X) → length xs ≡ 0 → xs ≡ []
none_of [] none = refl
none_of (x ∷ xs) none = absurd (omega (arith, none))

-- one range more, in which none lies
pub between_passes : (ranges : List SlotRange) (block out put rest live others dead after : List ℕ) (i : ℕ) (range : SlotRange) → i < length ranges → range ≡ get_or ranges i range → AreRangesWithin 0 address_end ranges →
    IsBetween ranges block out put rest i → IsParted range rest live others dead after → length others ≤ length after → IsBetween ranges block out put rest (i + 1)
between_passes ranges block out put rest live others dead after i range lt at apart was is as_many =
    let later = drop (i + 1) ranges in
    let cut : drop i ranges ≡ range ∷ later = drop_more ranges i range lt ∙ ap (λ r. r ∷ later) (sym at) in
    let left = subst (AreRangesWithin 0 address_end) cut (apart_drop 0 address_end ranges i apart) in
    let long = ap length is.others_are ∙ length-append dead after in
    let whole : rest ≡ live ++ after = is.whole ∙ ap (λ l. live ++ l) (is.others_are ∙ ap (λ l. l ++ after) (none_of dead (omega (arith, long, as_many)))) in
    let some = left.1 in
    let before = alive_where later 0 range.first live is.below (λ p le below. is_dead-before (range.last + 1) address_end later p left.3 (omega (arith, below, some))) in
    record {
      all = ap (λ l. put ++ l) (ap (alive later) whole ∙ filter-append (is_alive later) live after ∙ ap (λ l. l ++ alive later after) before)
          ∙ ap (λ l. put ++ l) (sym (parted range later 0 address_end rest live others dead after left is))
          ∙ ap (λ m. put ++ alive m rest) (sym cut)
          ∙ was.all;
      few = was.few;
    }

-- if all of the rest is before the next range, all of it is left
pub between_apart : (ranges : List SlotRange) (block out put rest more : List ℕ) (i : ℕ) (range : SlotRange) → i < length ranges → range ≡ get_or ranges i range → AreRangesWithin 0 address_end ranges → ArePostings rest →
    last_of rest < range.first → IsBetween ranges block out put rest i → more ≡ put ++ rest → more ≡ out ++ alive ranges block
between_apart ranges block out put rest more i range lt at apart rising below was put_is =
    let later = drop (i + 1) ranges in
    let cut : drop i ranges ≡ range ∷ later = drop_more ranges i range lt ∙ ap (λ r. r ∷ later) (sym at) in
    let left = subst (AreRangesWithin 0 address_end) cut (apart_drop 0 address_end ranges i apart) in
    let before = rise_wider 0 0 (last_of rest + 1) range.first rest (rise_to_last 0 (2 ^ 56) rest rising) (omega arith) (omega (arith, below)) in
    put_is
    ∙ ap (λ l. put ++ l) (sym (before_alive range later 0 address_end rest left before))
    ∙ ap (λ m. put ++ alive m rest) (sym cut)
    ∙ was.all

-- after the last range all of the rest is left
pub between_ends : (ranges : List SlotRange) (block out put rest : List ℕ) (i : ℕ) → length ranges ≤ i → IsBetween ranges block out put rest i → put ++ rest ≡ out ++ alive ranges block
between_ends ranges block out put rest i le was =
    let none : drop i ranges ≡ [] = drop_of_length-le ranges le in
    ap (λ l. put ++ l) (sym (all_alive [] rest refl)) ∙ ap (λ m. put ++ alive m rest) (sym none) ∙ was.all

-- the stretch from the first of some postings to the last is a range
pub is_stretch : (list : List ℕ) (first last : ℕ) → ArePostings list → 0 < length list → first ≡ get_or list 0 0 → last ≡ last_of list → (first ≤ last) × (last < 2 ^ 56)
is_stretch [] first last rising some first_is last_is = absurd (omega (arith, some))
is_stretch (p ∷ ps) first last rising some first_is last_is =
    let ends = rise_to_last 0 (2 ^ 56) (p ∷ ps) rising in
    let below = ends.1 in
    let small = last_small 0 (2 ^ 56) (p ∷ ps) rising (omega arith) in
    (omega (arith, below, first_is, last_is), omega (arith, small, last_is))
  where
    last_small : (low end : ℕ) (xs : List ℕ) → RiseWithin low end xs → 0 < length xs → last_of xs < end
    last_small low end [] r some = absurd (omega (arith, some))
    last_small low end (x ∷ []) r some = r.1
    last_small low end (x ∷ y ∷ xs) r some = last_small (x + 1) end (y ∷ xs) r.2 (omega arith)

-- if nothing in it is dead, all of them are alive
pub apart_alive : (mask : List SlotRange) (list : List ℕ) (first last : ℕ) → ArePostings list → 0 < length list → first ≡ get_or list 0 0 → last ≡ last_of list → IsApart (slot_range first last) mask → alive mask list ≡ list
apart_alive mask [] first last rising some first_is last_is apart = absurd (omega (arith, some))
apart_alive mask (p ∷ ps) first last rising some first_is last_is apart =
    let ends = rise_to_last 0 (2 ^ 56) (p ∷ ps) rising in
    alive_where mask p (last_of (p ∷ ps) + 1) (p ∷ ps) (omega arith, ends.1, ends.2)
    (λ q le lt. apart q (is_within-inside (slot_range first last) q (omega (arith, le, first_is)) (omega (arith, lt, last_is))))
