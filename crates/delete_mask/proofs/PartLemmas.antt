-- Where halving over parts finds the part that an address may be in, and what one range more makes of the parts near it.
use Rattle.std.proofs.Common.{◌≡◌, ℕ, zero, suc, ◌+◌, ◌-◌, ◌<◌, ◌≤◌, Bool, true, false, ◌||◌, cond, leb, ltb, List, [], ◌∷◌, ◌++◌, length, take, drop, get_or, slice_get, le_refl, Option, Some, None, refl, sym, ap, ◌∙◌, subst, arith}
use Rattle.std.specs.List.{AllByRecursion, prefix_len}
use Rattle.std.specs.List.Sorted.{IsNonDecreasingBy}
use Rattle.std.specs.Option.{option_or}
use Rattle.std.proofs.lemmas.Bool.{ltb-true, ltb-false, leb-false, false≢true}
use Rattle.std.proofs.lemmas.List.{append_assoc, append-nil, take-append-drop, take_more}
use Rattle.std.proofs.lemmas.Grind.{flat_map-append}
use Rattle.std.proofs.lemmas.List.Folds.{find-append, list_any-append}
use Rattle.gcl_model.specs.Limits.{address_end}
use Rattle.gcl_model.specs.Slots.{SlotRange, joined, AreRangesWithin}
use Rattle.gcl_model.proofs.Lists.{all_append, all_drop, all_take, all_weaker}
use Rattle.delete_mask.specs.Masks.{is_within, is_dead, dead_range, IsApart, with_range}
use Rattle.delete_mask.specs.Parts.{AreParts, IsInhabited, first_dead, last_dead, ranges_in}
use Rattle.delete_mask.proofs.MaskLemmas.{is_within-behind, dead_range-before}
use Rattle.delete_mask.proofs.Joining.{with_range-cases}

-- ranges and their parts

pub ranges_left : (low end : ℕ) (xs ys : List SlotRange) → AreRangesWithin low end (xs ++ ys) → AreRangesWithin low end xs
ranges_left low end [] ys h = tt
ranges_left low end (x ∷ xs) ys h = (h.0, h.1, h.2, ranges_left (x.last + 1) end xs ys h.3)

ranges_weaker : (low from end : ℕ) (xs : List SlotRange) → low ≤ from → AreRangesWithin from end xs → AreRangesWithin low end xs
ranges_weaker low from end [] le h = tt
ranges_weaker low from end (x ∷ xs) le h = (let first : from ≤ x.first = h.0 in omega arith, h.1, h.2, h.3)

pub ranges_right : (low end : ℕ) (xs ys : List SlotRange) → AreRangesWithin low end (xs ++ ys) → AreRangesWithin low end ys
ranges_right low end [] ys h = h
ranges_right low end (x ∷ xs) ys h =
    let first : low ≤ x.first = h.0 in
    let some : x.first ≤ x.last = h.1 in
    ranges_weaker low (x.last + 1) end ys (omega arith) (ranges_right (x.last + 1) end xs ys h.3)

-- no range of a part ends behind its last
upto_last : (low end : ℕ) (ranges : List SlotRange) → AreRangesWithin low end ranges → AllByRecursion (λ range. range.last ≤ last_dead ranges) ranges
upto_last low end [] h = tt
upto_last low end (range ∷ []) h = (le_refl range.last, tt)
upto_last low end (range ∷ next ∷ ranges) h =
    let rest = upto_last (range.last + 1) end (next ∷ ranges) h.3 in
    let after : range.last + 1 ≤ next.first = h.3.0 in
    let some : next.first ≤ next.last = h.3.1 in
    let last : next.last ≤ last_dead (next ∷ ranges) = rest.0 in
    (omega arith, rest)

-- what comes after a part begins behind it
behind_last : (low end : ℕ) (ranges rest : List SlotRange) → 0 < length ranges → AreRangesWithin low end (ranges ++ rest) → AreRangesWithin (last_dead ranges + 1) end rest
behind_last low end [] rest some h = absurd (omega arith)
behind_last low end (range ∷ []) rest some h = h.3
behind_last low end (range ∷ next ∷ ranges) rest some h = behind_last (range.last + 1) end (next ∷ ranges) rest (omega arith) h.3

-- ranges begin at the least address or behind it
all_from : (low end : ℕ) (ranges : List SlotRange) → AreRangesWithin low end ranges → AllByRecursion (λ range. low ≤ range.first) ranges
all_from low end [] h = tt
all_from low end (range ∷ ranges) h =
    let first : low ≤ range.first = h.0 in
    let some : range.first ≤ range.last = h.1 in
    (first, all_weaker (λ (r : SlotRange). range.last + 1 ≤ r.first) (λ (r : SlotRange). low ≤ r.first) (λ r le. let from : range.last + 1 ≤ r.first = le in omega arith) ranges (all_from (range.last + 1) end ranges h.3))

last_from : (low end : ℕ) (ranges : List SlotRange) → 0 < length ranges → AreRangesWithin low end ranges → low ≤ last_dead ranges
last_from low end [] some h = absurd (omega arith)
last_from low end (range ∷ []) some h = let first : low ≤ range.first = h.0 in let le : range.first ≤ range.last = h.1 in omega arith
last_from low end (range ∷ next ∷ ranges) some h =
    let first : low ≤ range.first = h.0 in
    let le : range.first ≤ range.last = h.1 in
    let rest : range.last + 1 ≤ last_dead (next ∷ ranges) = last_from (range.last + 1) end (next ∷ ranges) (omega arith) h.3 in
    omega arith

pub last_at : (ranges : List SlotRange) (i : ℕ) (d : SlotRange) → i + 1 ≡ length ranges → (get_or ranges i d).last ≡ last_dead ranges
last_at [] i d is = absurd (omega arith)
last_at (range ∷ []) zero d is = refl
last_at (range ∷ []) (suc i) d is = absurd (omega arith)
last_at (range ∷ next ∷ ranges) zero d is = absurd (omega arith)
last_at (range ∷ next ∷ ranges) (suc i) d is = last_at (next ∷ ranges) i d (omega arith)

pub first_at : (ranges : List SlotRange) (d : SlotRange) → 0 < length ranges → (get_or ranges 0 d).first ≡ first_dead ranges
first_at [] d some = absurd (omega arith)
first_at (range ∷ ranges) d some = refl

first_from : (low end : ℕ) (ranges : List SlotRange) → 0 < length ranges → AreRangesWithin low end ranges → low ≤ first_dead ranges
first_from low end [] some h = absurd (omega arith)
first_from low end (range ∷ ranges) some h = h.0

-- the first and the last addresses rise from part to part
lasts_from : (low : ℕ) (parts : List (List SlotRange)) (j : ℕ) (d : List SlotRange) → AllByRecursion IsInhabited parts → AreRangesWithin low address_end (ranges_in parts) → j < length parts → low ≤ last_dead (get_or parts j d)
lasts_from low [] j d some h lt = absurd (omega arith)
lasts_from low (ranges ∷ parts) zero d some h lt = last_from low address_end ranges some.0 (ranges_left low address_end ranges (ranges_in parts) h)
lasts_from low (ranges ∷ parts) (suc j) d some h lt = lasts_from low parts j d some.1 (ranges_right low address_end ranges (ranges_in parts) h) (omega arith)

lasts_rise_from : (low : ℕ) (parts : List (List SlotRange)) → AllByRecursion IsInhabited parts → AreRangesWithin low address_end (ranges_in parts) → IsNonDecreasingBy last_dead parts
lasts_rise_from low [] some h i j d le lt = absurd (omega arith)
lasts_rise_from low (ranges ∷ parts) some h zero zero d le lt = le_refl (last_dead ranges)
lasts_rise_from low (ranges ∷ parts) some h zero (suc j) d le lt =
    let behind : last_dead ranges + 1 ≤ last_dead (get_or parts j d) = lasts_from (last_dead ranges + 1) parts j d some.1 (behind_last low address_end ranges (ranges_in parts) some.0 h) (omega arith) in
    omega arith
lasts_rise_from low (ranges ∷ parts) some h (suc i) zero d le lt = absurd (omega arith)
lasts_rise_from low (ranges ∷ parts) some h (suc i) (suc j) d le lt = lasts_rise_from low parts some.1 (ranges_right low address_end ranges (ranges_in parts) h) i j d (omega arith) (omega arith)

pub lasts_rise : (parts : List (List SlotRange)) → AreParts parts → IsNonDecreasingBy last_dead parts
lasts_rise parts are = lasts_rise_from 0 parts are.inhabited are.apart

firsts_from : (low : ℕ) (parts : List (List SlotRange)) (j : ℕ) (d : List SlotRange) → AllByRecursion IsInhabited parts → AreRangesWithin low address_end (ranges_in parts) → j < length parts → low ≤ first_dead (get_or parts j d)
firsts_from low [] j d some h lt = absurd (omega arith)
firsts_from low (ranges ∷ parts) zero d some h lt = first_from low address_end ranges some.0 (ranges_left low address_end ranges (ranges_in parts) h)
firsts_from low (ranges ∷ parts) (suc j) d some h lt = firsts_from low parts j d some.1 (ranges_right low address_end ranges (ranges_in parts) h) (omega arith)

first_upto : (low end : ℕ) (ranges : List SlotRange) → 0 < length ranges → AreRangesWithin low end ranges → first_dead ranges ≤ last_dead ranges
first_upto low end [] some h = absurd (omega arith)
first_upto low end (range ∷ []) some h = h.1
first_upto low end (range ∷ next ∷ ranges) some h =
    let le : range.first ≤ range.last = h.1 in
    let after : range.last + 1 ≤ next.first = h.3.0 in
    let rest : next.first ≤ last_dead (next ∷ ranges) = first_upto (range.last + 1) end (next ∷ ranges) (omega arith) h.3 in
    omega arith

firsts_rise_from : (low : ℕ) (parts : List (List SlotRange)) → AllByRecursion IsInhabited parts → AreRangesWithin low address_end (ranges_in parts) → IsNonDecreasingBy first_dead parts
firsts_rise_from low [] some h i j d le lt = absurd (omega arith)
firsts_rise_from low (ranges ∷ parts) some h zero zero d le lt = le_refl (first_dead ranges)
firsts_rise_from low (ranges ∷ parts) some h zero (suc j) d le lt =
    let own : first_dead ranges ≤ last_dead ranges = first_upto low address_end ranges some.0 (ranges_left low address_end ranges (ranges_in parts) h) in
    let behind : last_dead ranges + 1 ≤ first_dead (get_or parts j d) = firsts_from (last_dead ranges + 1) parts j d some.1 (behind_last low address_end ranges (ranges_in parts) some.0 h) (omega arith) in
    omega arith
firsts_rise_from low (ranges ∷ parts) some h (suc i) zero d le lt = absurd (omega arith)
firsts_rise_from low (ranges ∷ parts) some h (suc i) (suc j) d le lt = firsts_rise_from low parts some.1 (ranges_right low address_end ranges (ranges_in parts) h) i j d (omega arith) (omega arith)

pub firsts_rise : (parts : List (List SlotRange)) → AreParts parts → IsNonDecreasingBy first_dead parts
firsts_rise parts are = firsts_rise_from 0 parts are.inhabited are.apart

-- the tests by which parts are passed
abbrev pub ends_before : ℕ → List SlotRange → Bool
ends_before p ranges = ltb (last_dead ranges) p

abbrev pub has_begun : ℕ → List SlotRange → Bool
has_begun p ranges = leb (first_dead ranges) p

pub parts_rest : (ranges : List SlotRange) (parts : List (List SlotRange)) → AreParts (ranges ∷ parts) → AreParts parts
parts_rest ranges parts are = record { inhabited = are.inhabited.1; apart = ranges_right 0 address_end ranges (ranges_in parts) are.apart }

-- what a part has, if there is one
abbrev pub dead_in : ℕ → Option (List SlotRange) → Option SlotRange
dead_in p None = None
dead_in p (Some ranges) = dead_range ranges p

none_before : (p : ℕ) (ranges : List SlotRange) → AllByRecursion (λ range. range.last < p) ranges → dead_range ranges p ≡ None
none_before p [] h = refl
none_before p (range ∷ ranges) h = ap (λ t. cond t (Some range) (dead_range ranges p)) (is_within-behind range p h.0) ∙ none_before p ranges h.1

or_none : (found : Option SlotRange) → option_or found None ≡ found
or_none None = refl
or_none (Some range) = refl

-- of all parts only the first that does not end before the address may have it
pub dead_halved : (parts : List (List SlotRange)) (p : ℕ) → AreParts parts → dead_range (ranges_in parts) p ≡ dead_in p (slice_get parts (prefix_len (ends_before p) parts))
dead_halved [] p are = refl
dead_halved (ranges ∷ parts) p are = by_test (ends_before p ranges) refl (dead_halved parts p (parts_rest ranges parts are))
  where
    own : AreRangesWithin 0 address_end ranges
    own = ranges_left 0 address_end ranges (ranges_in parts) are.apart

    whole : dead_range (ranges ++ ranges_in parts) p ≡ option_or (dead_range ranges p) (dead_range (ranges_in parts) p)
    whole = find-append (λ range. is_within range p) ranges (ranges_in parts)

    by_test : (t : Bool) → ends_before p ranges ≡ t → dead_range (ranges_in parts) p ≡ dead_in p (slice_get parts (prefix_len (ends_before p) parts)) →
        dead_range (ranges_in (ranges ∷ parts)) p ≡ dead_in p (slice_get (ranges ∷ parts) (prefix_len (ends_before p) (ranges ∷ parts)))
    by_test true is rest =
        let count : prefix_len (ends_before p) (ranges ∷ parts) ≡ suc (prefix_len (ends_before p) parts) = ap (λ t. cond t (1 + prefix_len (ends_before p) parts) 0) is ∙ omega arith in
        let lt : last_dead ranges < p = ltb-true (last_dead ranges) p is in
        let none = none_before p ranges (all_weaker (λ (r : SlotRange). r.last ≤ last_dead ranges) (λ (r : SlotRange). r.last < p) (λ r le. let upto : r.last ≤ last_dead ranges = le in omega arith) ranges (upto_last 0 address_end ranges own)) in
        whole ∙ ap (λ o. option_or o (dead_range (ranges_in parts) p)) none ∙ rest ∙ sym (ap (λ n. dead_in p (slice_get (ranges ∷ parts) n)) count)
    by_test false is rest =
        let count : prefix_len (ends_before p) (ranges ∷ parts) ≡ 0 = ap (λ t. cond t (1 + prefix_len (ends_before p) parts) 0) is in
        let le : p ≤ last_dead ranges = ltb-false (last_dead ranges) p is in
        let none = dead_range-before (last_dead ranges + 1) address_end (ranges_in parts) p (behind_last 0 address_end ranges (ranges_in parts) are.inhabited.0 are.apart) (omega arith) in
        whole ∙ ap (option_or (dead_range ranges p)) none ∙ or_none (dead_range ranges p) ∙ sym (ap (λ n. dead_in p (slice_get (ranges ∷ parts) n)) count)

-- one range more

-- ranges that it does not touch, before it
with_range-front : (range : SlotRange) (xs ys : List SlotRange) → AllByRecursion (λ dead. dead.last + 1 < range.first) xs → with_range range (xs ++ ys) ≡ xs ++ with_range range ys
with_range-front range [] ys h = refl
with_range-front range (dead ∷ xs) ys h =
    let lt : dead.last + 1 < range.first = h.0 in
    with_range-cases (λ l. l ≡ dead ∷ (xs ++ with_range range ys)) range dead (xs ++ ys)
    (λ behind. ap (λ l. dead ∷ l) (with_range-front range xs ys h.1))
    (λ touch. absurd (omega arith))
    (λ first touch. absurd (omega arith))
    (λ first apart. absurd (omega arith))

-- and behind it
with_range-alone : (range : SlotRange) (low end : ℕ) (ys : List SlotRange) → range.first ≤ range.last → range.last + 1 < low → AreRangesWithin low end ys → with_range range ys ≡ range ∷ ys
with_range-alone range low end [] le lt h = refl
with_range-alone range low end (dead ∷ ys) le lt h =
    let first : low ≤ dead.first = h.0 in
    let some : dead.first ≤ dead.last = h.1 in
    with_range-cases (λ l. l ≡ range ∷ dead ∷ ys) range dead ys
    (λ behind. absurd (omega arith))
    (λ touch. absurd (omega arith))
    (λ from touch. absurd (omega arith))
    (λ from apart. refl)

with_range-back : (range : SlotRange) (low end : ℕ) (xs ys : List SlotRange) → range.first ≤ range.last → AreRangesWithin 0 end xs → range.last + 1 < low → AreRangesWithin low end ys →
    with_range range (xs ++ ys) ≡ with_range range xs ++ ys
with_range-back range low end [] ys le h lt behind = with_range-alone range low end ys le lt behind
with_range-back range low end (dead ∷ xs) ys le h lt behind =
    let some : dead.first ≤ dead.last = h.1 in
    let rest : AreRangesWithin 0 end xs = ranges_weaker 0 (dead.last + 1) end xs (omega arith) h.3 in
    with_range-cases (λ l. with_range range (dead ∷ (xs ++ ys)) ≡ l ++ ys) range dead xs
    (λ before. with_range-cases (λ l. l ≡ dead ∷ (with_range range xs ++ ys)) range dead (xs ++ ys)
    (λ same. ap (λ l. dead ∷ l) (with_range-back range low end xs ys le rest lt behind))
    (λ touch. absurd (omega arith)) (λ from touch. absurd (omega arith)) (λ from apart. absurd (omega arith)))
    (λ touch. with_range-cases (λ l. l ≡ with_range (joined dead range) xs ++ ys) range dead (xs ++ ys)
    (λ before. absurd (omega arith))
    (λ same. with_range-back (joined dead range) low end xs ys (omega arith) rest lt behind)
    (λ from also. absurd (omega arith)) (λ from apart. absurd (omega arith)))
    (λ from touch. with_range-cases (λ l. l ≡ joined range dead ∷ (xs ++ ys)) range dead (xs ++ ys)
    (λ before. absurd (omega arith)) (λ also. absurd (omega arith)) (λ first same. refl) (λ first apart. absurd (apart touch)))
    (λ from apart. with_range-cases (λ l. l ≡ range ∷ dead ∷ (xs ++ ys)) range dead (xs ++ ys)
    (λ before. absurd (omega arith)) (λ also. absurd (omega arith)) (λ first touch. absurd (apart touch)) (λ first same. refl))

-- parts before, near and behind a range

tighter : (low from end : ℕ) (ranges : List SlotRange) → 0 < length ranges → AreRangesWithin low end ranges → from ≤ first_dead ranges → AreRangesWithin from end ranges
tighter low from end [] some h le = absurd (omega arith)
tighter low from end (range ∷ ranges) some h le = (le, h.1, h.2, h.3)

first_of_append : (xs ys : List SlotRange) → 0 < length xs → first_dead (xs ++ ys) ≡ first_dead xs
first_of_append [] ys some = absurd (omega arith)
first_of_append (x ∷ xs) ys some = refl

some_append : (xs ys : List SlotRange) → 0 < length xs → 0 < length (xs ++ ys)
some_append [] ys some = absurd (omega arith)
some_append (x ∷ xs) ys some = omega arith

suffix_within : (low : ℕ) (n : ℕ) (parts : List (List SlotRange)) → AreRangesWithin low address_end (ranges_in parts) → AreRangesWithin low address_end (ranges_in (drop n parts))
suffix_within low zero parts h = h
suffix_within low (suc n) [] h = tt
suffix_within low (suc n) (ranges ∷ parts) h = suffix_within low n parts (ranges_right low address_end ranges (ranges_in parts) h)

-- the parts that have not begun yet at an address
behind_begun : (q n : ℕ) (parts : List (List SlotRange)) → AreParts parts → prefix_len (has_begun q) parts ≤ n → AreRangesWithin (q + 1) address_end (ranges_in (drop n parts))
behind_begun q zero [] are le = tt
behind_begun q (suc n) [] are le = tt
behind_begun q n (ranges ∷ parts) are le = by_test (has_begun q ranges) refl n le (λ m less. behind_begun q m parts (parts_rest ranges parts are) less)
  where
    later : (n : ℕ) → has_begun q ranges ≡ false → AreRangesWithin (q + 1) address_end (ranges_in (drop n (ranges ∷ parts)))
    later n is =
        let lt : q < first_dead ranges = leb-false (first_dead ranges) q is in
        let first : first_dead (ranges ++ ranges_in parts) ≡ first_dead ranges = first_of_append ranges (ranges_in parts) are.inhabited.0 in
        suffix_within (q + 1) n (ranges ∷ parts) (tighter 0 (q + 1) address_end (ranges ++ ranges_in parts) (some_append ranges (ranges_in parts) are.inhabited.0) are.apart (omega (arith, first)))

    by_test : (t : Bool) → has_begun q ranges ≡ t → (n : ℕ) → prefix_len (has_begun q) (ranges ∷ parts) ≤ n → ((m : ℕ) → prefix_len (has_begun q) parts ≤ m → AreRangesWithin (q + 1) address_end (ranges_in (drop m parts)))
        → AreRangesWithin (q + 1) address_end (ranges_in (drop n (ranges ∷ parts)))
    by_test false is n le rest = later n is
    by_test true is zero le rest =
        let count : prefix_len (has_begun q) (ranges ∷ parts) ≡ 1 + prefix_len (has_begun q) parts = ap (λ t. cond t (1 + prefix_len (has_begun q) parts) 0) is in
        absurd (omega arith)
    by_test true is (suc n) le rest =
        let count : prefix_len (has_begun q) (ranges ∷ parts) ≡ 1 + prefix_len (has_begun q) parts = ap (λ t. cond t (1 + prefix_len (has_begun q) parts) 0) is in
        rest n (omega arith)

-- the parts that end before an address
clear_front : (q n m : ℕ) (parts : List (List SlotRange)) → AreParts parts → n ≤ prefix_len (ends_before q) parts → AllByRecursion (λ dead. dead.last < q) (ranges_in (take n (take m parts)))
clear_front q zero m parts are le = tt
clear_front q (suc n) zero parts are le = tt
clear_front q (suc n) (suc m) [] are le = tt
clear_front q (suc n) (suc m) (ranges ∷ parts) are le = by_test (ends_before q ranges) refl (λ less. clear_front q n m parts (parts_rest ranges parts are) less)
  where
    by_test : (t : Bool) → ends_before q ranges ≡ t → (n ≤ prefix_len (ends_before q) parts → AllByRecursion (λ dead. dead.last < q) (ranges_in (take n (take m parts)))) → AllByRecursion (λ dead. dead.last < q) (ranges ++ ranges_in (take n (take m parts)))
    by_test true is rest =
        let count : prefix_len (ends_before q) (ranges ∷ parts) ≡ 1 + prefix_len (ends_before q) parts = ap (λ t. cond t (1 + prefix_len (ends_before q) parts) 0) is in
        let lt : last_dead ranges < q = ltb-true (last_dead ranges) q is in
        all_append (λ (dead : SlotRange). dead.last < q) ranges (ranges_in (take n (take m parts)))
        (all_weaker (λ (r : SlotRange). r.last ≤ last_dead ranges) (λ (r : SlotRange). r.last < q) (λ r le. let upto : r.last ≤ last_dead ranges = le in omega arith) ranges
        (upto_last 0 address_end ranges (ranges_left 0 address_end ranges (ranges_in parts) are.apart)))
        (rest (omega arith))
    by_test false is rest =
        let count : prefix_len (ends_before q) (ranges ∷ parts) ≡ 0 = ap (λ t. cond t (1 + prefix_len (ends_before q) parts) 0) is in
        absurd (omega arith)

ranges_append : (xs ys : List (List SlotRange)) → ranges_in (xs ++ ys) ≡ ranges_in xs ++ ranges_in ys
ranges_append xs ys = flat_map-append (λ (ranges : List SlotRange). ranges) xs ys

pub parted : (parts : List (List SlotRange)) (at upto : ℕ) → ranges_in parts ≡ ranges_in (take at (take upto parts)) ++ (ranges_in (drop at (take upto parts)) ++ ranges_in (drop upto parts))
parted parts at upto =
    ap ranges_in (sym (take-append-drop upto parts))
    ∙ ranges_append (take upto parts) (drop upto parts)
    ∙ ap (λ l. l ++ ranges_in (drop upto parts)) (ap ranges_in (sym (take-append-drop at (take upto parts))) ∙ ranges_append (take at (take upto parts)) (drop at (take upto parts)))
    ∙ append_assoc (ranges_in (take at (take upto parts))) (ranges_in (drop at (take upto parts))) (ranges_in (drop upto parts))

pub near_within : (parts : List (List SlotRange)) (at upto : ℕ) → AreParts parts → AreRangesWithin 0 address_end (ranges_in (drop at (take upto parts)))
near_within parts at upto are =
    ranges_left 0 address_end (ranges_in (drop at (take upto parts))) (ranges_in (drop upto parts))
    (ranges_right 0 address_end (ranges_in (take at (take upto parts))) (ranges_in (drop at (take upto parts)) ++ ranges_in (drop upto parts)) (subst (AreRangesWithin 0 address_end) (parted parts at upto) are.apart))

or_parts : (a b c : Bool) → (a || (b || c)) ≡ false → b ≡ false
or_parts true b c e = absurd (false≢true (sym e))
or_parts false true c e = absurd (false≢true (sym e))
or_parts false false c e = refl

pub near_apart : (parts : List (List SlotRange)) (range : SlotRange) (at upto : ℕ) → IsApart range (ranges_in parts) → IsApart range (ranges_in (drop at (take upto parts)))
near_apart parts range at upto apart p within =
    let b = ranges_in (take at (take upto parts)) in
    let n = ranges_in (drop at (take upto parts)) in
    let a = ranges_in (drop upto parts) in
    or_parts (is_dead b p) (is_dead n p) (is_dead a p)
    (sym (ap (λ l. is_dead l p) (parted parts at upto) ∙ list_any-append (λ range. is_within range p) b (n ++ a) ∙ ap (λ t. is_dead b p || t) (list_any-append (λ range. is_within range p) n a)) ∙ apart p within)

-- only the parts near a range change
pub with_near : (parts : List (List SlotRange)) (range : SlotRange) (at upto : ℕ) → AreParts parts → range.first ≤ range.last → at ≤ prefix_len (ends_before (range.first - 1)) parts → prefix_len (has_begun (range.last + 1)) parts ≤ upto →
    with_range range (ranges_in parts) ≡ ranges_in (take at (take upto parts)) ++ (with_range range (ranges_in (drop at (take upto parts))) ++ ranges_in (drop upto parts))
with_near parts range at upto are le low high =
    let b = ranges_in (take at (take upto parts)) in
    let n = ranges_in (drop at (take upto parts)) in
    let a = ranges_in (drop upto parts) in
    ap (with_range range) (parted parts at upto)
    ∙ with_range-front range b (n ++ a)
    (all_weaker (λ (dead : SlotRange). dead.last < range.first - 1) (λ (dead : SlotRange). dead.last + 1 < range.first) (λ dead lt. let before : dead.last < range.first - 1 = lt in omega arith) b (clear_front (range.first - 1) at upto parts are low))
    ∙ ap (λ l. b ++ l) (with_range-back range (range.last + 1 + 1) address_end n a le (near_within parts at upto are) (omega arith) (behind_begun (range.last + 1) upto parts are high))

-- the sums and the parts of loops

part_few : (low end : ℕ) (ranges : List SlotRange) → low ≤ end → AreRangesWithin low end ranges → low + length ranges ≤ end
part_few low end [] le h = omega arith
part_few low end (range ∷ ranges) le h =
    let first : low ≤ range.first = h.0 in
    let some : range.first ≤ range.last = h.1 in
    let last : range.last < end = h.2 in
    let rest : range.last + 1 + length ranges ≤ end = part_few (range.last + 1) end ranges (omega arith) h.3 in
    omega arith

-- there are fewer ranges than addresses
pub few_ranges : (ranges : List SlotRange) → AreRangesWithin 0 address_end ranges → length ranges ≤ address_end
few_ranges ranges h = let few : 0 + length ranges ≤ address_end = part_few 0 address_end ranges (omega arith) h in omega arith

pub whole_of : (rest front behind : List SlotRange) (n : ℕ) → front ≡ take n rest → behind ≡ drop n rest → front ++ behind ≡ rest
whole_of rest front behind n e f = ap (λ l. l ++ behind) e ∙ ap (λ l. take n rest ++ l) f ∙ take-append-drop n rest

-- what is cut off, and what is left
pub cut_off : (parts made : List (List SlotRange)) (rest front behind all : List SlotRange) (n : ℕ) → front ≡ take n rest → behind ≡ drop n rest → 0 < length front → made ≡ parts ++ front ∷ [] →
    ranges_in parts ++ rest ≡ all → AreRangesWithin 0 address_end rest → (ranges_in made ++ behind ≡ all) × AreRangesWithin 0 address_end behind
cut_off parts made rest front behind all n e f some is whole apart =
    let joint : front ++ behind ≡ rest = whole_of rest front behind n e f in (
      ap (λ ps. ranges_in ps ++ behind) is
          ∙ ap (λ l. l ++ behind) (ranges_append parts (front ∷ []) ∙ ap (λ l. ranges_in parts ++ l) (append-nil front))
          ∙ append_assoc (ranges_in parts) front behind
          ∙ ap (λ l. ranges_in parts ++ l) joint
          ∙ whole,
      ranges_right 0 address_end front behind (subst (AreRangesWithin 0 address_end) (sym joint) apart),
    )

pub more_inhabited : (parts made : List (List SlotRange)) (front : List SlotRange) → made ≡ parts ++ front ∷ [] → 0 < length front → AllByRecursion IsInhabited parts → AllByRecursion IsInhabited made
more_inhabited parts made front is some inhabited = subst (AllByRecursion IsInhabited) (sym is) (all_append IsInhabited parts (front ∷ []) inhabited (some, tt))

-- the ranges of one part more
pub ranges_more : (parts : List (List SlotRange)) (i : ℕ) (part : List SlotRange) → i < length parts → part ≡ get_or parts i part → ranges_in (take (i + 1) parts) ≡ ranges_in (take i parts) ++ part
ranges_more parts i part lt is =
    ap ranges_in (take_more parts i part lt)
    ∙ ranges_append (take i parts) (get_or parts i part ∷ [])
    ∙ ap (λ l. ranges_in (take i parts) ++ l) (append-nil (get_or parts i part) ∙ sym is)

-- the ranges of parts that are put between others
pub put_between : (before behind first second made : List (List SlotRange)) (ranges : List SlotRange) → first ≡ before → ranges_in second ≡ ranges_in first ++ ranges → made ≡ second ++ behind →
    ranges_in made ≡ ranges_in before ++ (ranges ++ ranges_in behind)
put_between before behind first second made ranges is_first is_second is_made =
    ap ranges_in is_made
    ∙ ranges_append second behind
    ∙ ap (λ l. l ++ ranges_in behind) (is_second ∙ ap (λ ps. ranges_in ps ++ ranges) is_first)
    ∙ append_assoc (ranges_in before) ranges (ranges_in behind)

-- the parts that are made, one after the other
pub made_of : (parts before near behind : List (List SlotRange)) (range : SlotRange) (now : List SlotRange) (at upto : ℕ) → AreParts parts → range.first ≤ range.last →
    at ≤ prefix_len (ends_before (range.first - 1)) parts → prefix_len (has_begun (range.last + 1)) parts ≤ upto → before ≡ take at (take upto parts) → near ≡ drop at (take upto parts) → behind ≡ drop upto parts →
    now ≡ with_range range (ranges_in near) → ranges_in before ++ (now ++ ranges_in behind) ≡ with_range range (ranges_in parts)
made_of parts before near behind range now at upto are le low high is_before is_near is_behind is_now =
    let b = ranges_in (take at (take upto parts)) in
    let n = ranges_in (drop at (take upto parts)) in
    ap (λ ps. ranges_in ps ++ (now ++ ranges_in behind)) is_before
    ∙ ap (λ l. b ++ (l ++ ranges_in behind)) (is_now ∙ ap (λ ps. with_range range (ranges_in ps)) is_near)
    ∙ ap (λ ps. b ++ (with_range range n ++ ranges_in ps)) is_behind
    ∙ sym (with_near parts range at upto are le low high)

pub kept_parts : (parts : List (List SlotRange)) (at upto : ℕ) → AllByRecursion IsInhabited parts → AllByRecursion IsInhabited (take at (take upto parts)) × AllByRecursion IsInhabited (drop upto parts)
kept_parts parts at upto all = (all_take IsInhabited at (take upto parts) (all_take IsInhabited upto parts all), all_drop IsInhabited upto parts all)
