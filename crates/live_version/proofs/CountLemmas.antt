-- How many postings are alive, and how many words have a token.
use Rattle.std.proofs.Common.{◌≡◌, ℕ, zero, suc, ◌+◌, ◌<◌, ◌≤◌, Bool, true, false, not, cond, ◌||◌, ltb, List, [], ◌∷◌, ◌++◌, length, length-append, filter, take, drop, flat_map, get_or, refl, sym, ap, ◌∙◌, subst, arith, inl, inr}
use Rattle.std.proofs.lemmas.List.{take-append-drop, take_more, append-nil}
use Rattle.std.proofs.lemmas.List.Folds.{list_any-append}
use Rattle.std.proofs.lemmas.Grind.{flat_map-append}
use Rattle.std.proofs.lemmas.Bool.{true≢false, cases_lt, lt-ltb, le-ltb}
use Rattle.gcl_model.specs.Limits.{address_end}
use Rattle.gcl_model.specs.Slots.{SlotRange, AreRangesWithin}
use Rattle.gcl_model.specs.Texts.{places}
use Rattle.gcl_model.proofs.WordLists.{places-append}
use Rattle.delete_mask.specs.Masks.{is_within, is_dead}
use Rattle.delete_mask.proofs.MaskLemmas.{is_within-inside, is_within-before, is_within-behind, is_within-bounds, is_dead-before}
use Rattle.delete_mask.specs.Parts.{ranges_in}
use Rattle.delete_mask.proofs.PartLemmas.{ranges_left, ranges_right}
use Rattle.posting_code.proofs.Rising.{rise_length}
use Rattle.posting_access.specs.Search.{count_below}
use Rattle.live_version.specs.Contents.{SlotContent, VersionContent, IsVersion, live_of, live_words}
use Rattle.live_version.specs.LookUps.{is_alive}
use Rattle.live_version.proofs.WordLemmas.{version_is_text}
use Rattle.index_shard.proofs.ShardWords.{rising_places}

-- what a range has is what is below its end, less what is below its begin
pub count_to_end : (range : SlotRange) (xs : List ℕ) → range.first ≤ range.last → count_below xs range.first + length (filter (is_within range) xs) ≡ count_below xs (range.last + 1)
count_to_end range [] le = refl
count_to_end range (x ∷ xs) le =
    let rest = count_to_end range xs le in
    elim (cases_lt x range.first) [
      | inl before ↦
          let below : ltb x range.first ≡ true = lt-ltb x range.first before in
          let within : is_within range x ≡ false = is_within-before range x before in
          let end : ltb x (range.last + 1) ≡ true = lt-ltb x (range.last + 1) (omega (arith, before, le)) in
          rw (below, within, end) (omega (arith, rest))
      | inr from ↦
          let below : ltb x range.first ≡ false = le-ltb x range.first from in
          elim (cases_lt range.last x) [
            | inl behind ↦
                let within : is_within range x ≡ false = is_within-behind range x behind in
                let end : ltb x (range.last + 1) ≡ false = le-ltb x (range.last + 1) (omega (arith, behind)) in
                rw (below, within, end) rest
            | inr upto ↦
                let within : is_within range x ≡ true = is_within-inside range x from upto in
                let end : ltb x (range.last + 1) ≡ true = lt-ltb x (range.last + 1) (omega (arith, upto)) in
                rw (below, within, end) (omega (arith, rest))
          ]
    ]

-- what a range has is past every range before it
pub range_above : (low end : ℕ) (mask : List SlotRange) (i : ℕ) (d : SlotRange) (p : ℕ) → AreRangesWithin low end mask → i < length mask → is_within (get_or mask i d) p ≡ true → low ≤ p
range_above low end [] i d p r lt within = absurd (omega (arith, lt))
range_above low end (range ∷ mask) zero d p r lt within = let from = (is_within-bounds range p within).0 in let first = r.0 in omega (arith, from, first)
range_above low end (range ∷ mask) (suc i) d p r lt within =
    let first = r.0 in
    let some = r.1 in
    let above = range_above (range.last + 1) end mask i d p r.3 (omega (arith, lt)) within in
    omega (arith, first, some, above)

-- and so no address of it is dead by those
pub apart_before : (low end : ℕ) (mask : List SlotRange) (i : ℕ) (d : SlotRange) (p : ℕ) → AreRangesWithin low end mask → i < length mask → is_within (get_or mask i d) p ≡ true → is_dead (take i mask) p ≡ false
apart_before low end [] i d p r lt within = absurd (omega (arith, lt))
apart_before low end (range ∷ mask) zero d p r lt within = refl
apart_before low end (range ∷ mask) (suc i) d p r lt within =
    let above = range_above (range.last + 1) end mask i d p r.3 (omega (arith, lt)) within in
    let outside : is_within range p ≡ false = is_within-behind range p (omega (arith, above)) in
    rw outside (apart_before (range.last + 1) end mask i d p r.3 (omega (arith, lt)) within)

-- an address is dead by the first ranges and one more
pub dead_more : (mask : List SlotRange) (i : ℕ) (d : SlotRange) (p : ℕ) → i < length mask → is_dead (take (i + 1) mask) p ≡ (is_dead (take i mask) p || is_within (get_or mask i d) p)
dead_more [] i d p lt = absurd (omega (arith, lt))
dead_more (range ∷ mask) zero d p lt = here (is_within range p)
  where
    here : (b : Bool) → (b || false) ≡ (false || b)
    here true = refl
    here false = refl
dead_more (range ∷ mask) (suc i) d p lt =
    let next : suc i + 1 ≡ suc (i + 1) = omega arith in
    rw next (here (is_within range p) (dead_more mask i d p (omega (arith, lt))))
  where
    here : (b : Bool) → is_dead (take (i + 1) mask) p ≡ (is_dead (take i mask) p || is_within (get_or mask i d) p) →
        (b || is_dead (take (i + 1) mask) p) ≡ ((b || is_dead (take i mask) p) || is_within (get_or mask i d) p)
    here true rest = refl
    here false rest = rest

-- if a second test passes none that a first one passes, those that fail the first are those that fail both and those that pass the second
parted : (dead within both : ℕ → Bool) → ((x : ℕ) → both x ≡ (dead x || within x)) → ((x : ℕ) → within x ≡ true → dead x ≡ false) → (xs : List ℕ) →
    length (filter (λ x. not (both x)) xs) + length (filter within xs) ≡ length (filter (λ x. not (dead x)) xs)
parted dead within both joined apart [] = refl
parted dead within both joined apart (x ∷ xs) =
    here (dead x) (within x) (both x) (joined x) (apart x) (filter (λ y. not (both y)) xs) (filter within xs) (filter (λ y. not (dead y)) xs) (parted dead within both joined apart xs)
  where
    here : (d w b : Bool) → b ≡ (d || w) → (w ≡ true → d ≡ false) → (left taken all : List ℕ) → length left + length taken ≡ length all →
        length (cond (not b) (x ∷ left) left) + length (cond w (x ∷ taken) taken) ≡ length (cond (not d) (x ∷ all) all)
    here true true b is apart left taken all rest = absurd (true≢false (apart refl))
    here true false true is apart left taken all rest = rest
    here true false false is apart left taken all rest = absurd cc
    here false true true is apart left taken all rest = omega (arith, rest)
    here false true false is apart left taken all rest = absurd cc
    here false false true is apart left taken all rest = absurd cc
    here false false false is apart left taken all rest = omega (arith, rest)

-- one dead range more takes what it has
pub alive_less : (low end : ℕ) (mask : List SlotRange) (i : ℕ) (d : SlotRange) (xs : List ℕ) → AreRangesWithin low end mask → i < length mask →
    length (filter (is_alive (take (i + 1) mask)) xs) + length (filter (is_within (get_or mask i d)) xs) ≡ length (filter (is_alive (take i mask)) xs)
alive_less low end mask i d xs r lt =
    parted (is_dead (take i mask)) (is_within (get_or mask i d)) (is_dead (take (i + 1) mask)) (λ p. dead_more mask i d p lt) (λ p within. apart_before low end mask i d p r lt within) xs

-- the words of one slot more
pub places_more : (slot : SlotContent) (slots : List SlotContent) (token : List ℕ) → length (places (live_of (slot ∷ slots)) token) ≡ length (places (live_words slot) token) + length (places (live_of slots) token)
places_more slot slots token = ap length (places-append (live_words slot) (live_of slots) token) ∙ length-append (places (live_words slot) token) (places (live_of slots) token)

-- without a dead range all postings are alive
pub all_alive : (xs : List ℕ) → filter (is_alive []) xs ≡ xs
all_alive [] = refl
all_alive (x ∷ xs) = ap (λ ps. x ∷ ps) (all_alive xs)

-- no token has more places than there are addresses
pub few_places : (v : VersionContent) (token : List ℕ) → IsVersion v → length (places (live_of v.slots) token) ≤ address_end
few_places v token is =
    let rise = rising_places v.next v.first (live_of v.slots) token (version_is_text v is).rising in
    let few = rise_length v.first v.next (places (live_of v.slots) token) rise in
    let within = is.in_range in
    omega (arith, few, within)

-- what is alive and what is dead are all
pub alive_and_dead : (mask : List SlotRange) (xs : List ℕ) → length (filter (is_alive mask) xs) + length (filter (is_dead mask) xs) ≡ length xs
alive_and_dead mask [] = refl
alive_and_dead mask (x ∷ xs) = here (is_dead mask x) (filter (is_alive mask) xs) (filter (is_dead mask) xs) (alive_and_dead mask xs)
  where
    here : (d : Bool) (alive dead : List ℕ) → length alive + length dead ≡ length xs → length (cond (not d) (x ∷ alive) alive) + length (cond d (x ∷ dead) dead) ≡ length (x ∷ xs)
    here true alive dead rest = omega (arith, rest)
    here false alive dead rest = omega (arith, rest)

-- an address is dead by one of two parts at most
dead_once : (low end : ℕ) (before after : List SlotRange) (p : ℕ) → AreRangesWithin low end (before ++ after) → is_dead after p ≡ true → is_dead before p ≡ false
dead_once low end [] after p r is = refl
dead_once low end (range ∷ before) after p r is =
    let rest = dead_once (range.last + 1) end before after p r.3 is in
    let from : range.last + 1 ≤ p = dead_from (range.last + 1) end after p (ranges_right (range.last + 1) end before after r.3) is in
    let outside : is_within range p ≡ false = is_within-behind range p (omega (arith, from)) in
    ap (λ t. t || is_dead before p) outside ∙ rest
  where
    dead_from : (low end : ℕ) (ranges : List SlotRange) (p : ℕ) → AreRangesWithin low end ranges → is_dead ranges p ≡ true → low ≤ p
    dead_from low end ranges p r is =
        elim (cases_lt p low) [
          | inl before ↦ absurd (true≢false (sym is ∙ is_dead-before low end ranges p r before))
          | inr from ↦ from
        ]

-- the dead ranges of one part more take what they have
pub part_less : (parts : List (List SlotRange)) (i : ℕ) (part : List SlotRange) (xs : List ℕ) → AreRangesWithin 0 address_end (ranges_in parts) → i < length parts → part ≡ get_or parts i part →
    length (filter (is_alive (ranges_in (take (i + 1) parts))) xs) + length (filter (is_dead part) xs) ≡ length (filter (is_alive (ranges_in (take i parts))) xs)
part_less parts i part xs r lt at =
    let more : ranges_in (take (i + 1) parts) ≡ ranges_in (take i parts) ++ part = flat_map_item (λ (ranges : List SlotRange). ranges) parts i part lt at in
    let whole : ranges_in parts ≡ (ranges_in (take i parts) ++ part) ++ ranges_in (drop (i + 1) parts) =
    ap ranges_in (sym (take-append-drop (i + 1) parts)) ∙ flat_map-append (λ (ranges : List SlotRange). ranges) (take (i + 1) parts) (drop (i + 1) parts) ∙ ap (λ l. l ++ ranges_in (drop (i + 1) parts)) more in
    let apart = ranges_left 0 address_end (ranges_in (take i parts) ++ part) (ranges_in (drop (i + 1) parts)) (subst (AreRangesWithin 0 address_end) whole r) in
    parted (is_dead (ranges_in (take i parts))) (is_dead part) (is_dead (ranges_in (take (i + 1) parts)))
    (λ p. ap (λ m. is_dead m p) more ∙ list_any-append (λ range. is_within range p) (ranges_in (take i parts)) part)
    (λ p is. dead_once 0 address_end (ranges_in (take i parts)) part p apart is)
    xs
  where
    flat_map_item : {X Y : Type 0} (f : X → List Y) (xs : List X) (i : ℕ) (x : X) → i < length xs → x ≡ get_or xs i x → flat_map f (take (i + 1) xs) ≡ flat_map f (take i xs) ++ f x
    flat_map_item f xs i x lt at = ap (flat_map f) (take_more xs i x lt ∙ ap (λ y. take i xs ++ y ∷ []) (sym at)) ∙ flat_map-append f (take i xs) (x ∷ []) ∙ ap (λ l. flat_map f (take i xs) ++ l) (append-nil (f x))
