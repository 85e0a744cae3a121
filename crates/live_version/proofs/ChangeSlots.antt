-- Versions in which one slot takes the place of some, and versions under other numbers.
use Rattle.std.proofs.Common.{◌≡◌, ℕ, ◌+◌, ◌≤◌, ◌<◌, List, [], ◌∷◌, ◌++◌, length, take, drop, Option, None, Some, IfSome, refl, sym, ap, ◌∙◌, subst, arith, length-append, append-nil}
use Rattle.std.specs.List.{AllByRecursion, flat_map}
use Rattle.std.specs.Option.{option_to_list}
use Rattle.std.proofs.lemmas.Grind.{flat_map-append}
use Rattle.std.proofs.lemmas.List.{map-append, append_assoc}
use Rattle.gcl_model.specs.Limits.{most_slots}
use Rattle.gcl_model.specs.Slots.{SlotRange, AreRangesWithin}
use Rattle.gcl_model.specs.Collections.{Collection}
use Rattle.address_space.specs.Runs.{FileEntry, IsFileRun}
use Rattle.live_version.specs.Contents.{SlotContent, VersionContent, IsSlot, IsVersion, ranges_of, files_of, dead_of, live_of, live_words}
use Rattle.live_version.specs.Changes.{slots_at, version_with_slot, whole_range, LiesInside, IsSameLive}
use Rattle.live_version.specs.StandsFor.{StandsFor}
use Rattle.gcl_model.proofs.Lists.{all_take, all_drop, all_append, cut_twice}
use Rattle.live_version.proofs.ChangeRanges.{ranges_without, ranges_in_place}

-- if some lists are the same all together, so are they between two others
flat_in_place : {X Y : Type 0} (f : X → List Y) (before gone new after : List X) → flat_map f new ≡ flat_map f gone → flat_map f ((before ++ new) ++ after) ≡ flat_map f (before ++ (gone ++ after))
flat_in_place f before gone new after same =
    flat_map-append f (before ++ new) after
    ∙ ap (λ l. l ++ flat_map f after) (flat_map-append f before new)
    ∙ append_assoc (flat_map f before) (flat_map f new) (flat_map f after)
    ∙ ap (λ l. flat_map f before ++ (l ++ flat_map f after)) same
    ∙ sym (flat_map-append f before (gone ++ after) ∙ ap (λ l. flat_map f before ++ l) (flat_map-append f gone after))

-- a slot that is new has an index of some addresses, and nothing dead
pub record IsFresh (slot : SlotContent) : Type 0 where
  pub is : IsSlot slot
  pub none : slot.mask ≡ []

pub fresh : (slot : Option SlotContent) → IfSome slot IsSlot → IfSome slot (λ s. s.mask ≡ []) → IfSome slot IsFresh
fresh None is none = tt
fresh (Some s) is none = record { is = is; none = none }

fresh_range : (slot : SlotContent) → IsSlot slot → slot.range.first ≤ slot.range.last
fresh_range slot is = subst (λ (r : SlotRange). r.first ≤ r.last) is.indexed is.shard.ordered

ranges_placed : (low end : ℕ) (before gone after : List SlotContent) (slot : Option SlotContent) → IfSome slot IsFresh → IfSome slot (λ s. LiesInside s.range (whole_range (ranges_of gone)))
    → AreRangesWithin low end (ranges_of (before ++ (gone ++ after))) → AreRangesWithin low end (ranges_of ((before ++ option_to_list slot) ++ after))
ranges_placed low end before gone after slot fresh inside h =
    subst (λ ranges. AreRangesWithin low end ranges) (sym new) (placed slot fresh inside)
  where
    old : ranges_of (before ++ (gone ++ after)) ≡ ranges_of before ++ (ranges_of gone ++ ranges_of after)
    old = map-append (λ (s : SlotContent). s.range) before (gone ++ after) ∙ ap (λ l. ranges_of before ++ l) (map-append (λ (s : SlotContent). s.range) gone after)

    new : ranges_of ((before ++ option_to_list slot) ++ after) ≡ ranges_of before ++ (ranges_of (option_to_list slot) ++ ranges_of after)
    new = map-append (λ (s : SlotContent). s.range) (before ++ option_to_list slot) after ∙ ap (λ l. l ++ ranges_of after) (map-append (λ (s : SlotContent). s.range) before (option_to_list slot))
        ∙ append_assoc (ranges_of before) (ranges_of (option_to_list slot)) (ranges_of after)

    placed : (o : Option SlotContent) → IfSome o IsFresh → IfSome o (λ s. LiesInside s.range (whole_range (ranges_of gone))) → AreRangesWithin low end (ranges_of before ++ (ranges_of (option_to_list o) ++ ranges_of after))
    placed None fresh inside = ranges_without low end (ranges_of before) (ranges_of gone) (ranges_of after) (subst (λ ranges. AreRangesWithin low end ranges) old h)
    placed (Some s) fresh inside = ranges_in_place low end (ranges_of before) (ranges_of gone) (ranges_of after) s.range (fresh_range s fresh.is) inside (subst (λ ranges. AreRangesWithin low end ranges) old h)

-- there are no more of them than there were
few_placed : (gone : List SlotContent) (slot : Option SlotContent) → IfSome slot (λ s. LiesInside s.range (whole_range (ranges_of gone))) → length (option_to_list slot) ≤ length gone
few_placed gone None inside = omega arith
few_placed [] (Some s) inside = absurd inside
few_placed (first ∷ gone) (Some s) inside = omega arith

fresh_slots : (slot : Option SlotContent) → IfSome slot IsFresh → AllByRecursion IsSlot (option_to_list slot)
fresh_slots None fresh = tt
fresh_slots (Some s) fresh = (fresh.is, tt)

fresh_dead : (slot : Option SlotContent) → IfSome slot IsFresh → dead_of (option_to_list slot) ≡ []
fresh_dead None fresh = refl
fresh_dead (Some s) fresh = append-nil s.mask ∙ fresh.none

length_parts : (before gone after : List SlotContent) → length (before ++ (gone ++ after)) ≡ length before + length gone + length after
length_parts before gone after = omega (arith, length-append before (gone ++ after), length-append gone after)

dead_parts : (before gone after : List SlotContent) → dead_of (before ++ (gone ++ after)) ≡ dead_of before ++ (dead_of gone ++ dead_of after)
dead_parts before gone after = flat_map-append (λ s. s.mask) before (gone ++ after) ∙ ap (λ l. dead_of before ++ l) (flat_map-append (λ s. s.mask) gone after)

pub slot_placed : (v : VersionContent) (at count : ℕ) (slot : Option SlotContent) → IsVersion v → IfSome slot IsFresh → IfSome slot (λ s. LiesInside s.range (whole_range (ranges_of (slots_at at count v.slots))))
    → IsSameLive (slots_at at count v.slots) (option_to_list slot) → IsVersion (version_with_slot v at count slot)
slot_placed v at count slot is fresh inside same =
    let before = take at v.slots in
    let gone = slots_at at count v.slots in
    let after = drop (at + count) v.slots in
    let cut : before ++ (gone ++ after) ≡ v.slots = cut_twice at count v.slots in
    let new = (before ++ option_to_list slot) ++ after in
    let files : files_of ((before ++ option_to_list slot) ++ after) ≡ files_of v.slots = flat_in_place (λ s. s.files) before gone (option_to_list slot) after same.files ∙ ap files_of cut in
    let numbered : v.edition ≤ v.number = is.numbered in
    let few : length v.slots ≤ most_slots = is.few in
    let dead : length (dead_of v.slots) ≤ v.dels = is.dead in
    let parts : length v.slots ≡ length before + length gone + length after = sym (ap length cut) ∙ length_parts before gone after in
    let fewer : length (option_to_list slot) ≤ length gone = few_placed gone slot inside in
    let none : length (dead_of (option_to_list slot)) ≡ 0 = ap length (fresh_dead slot fresh) in
    let masks : length (dead_of v.slots) ≡ length (dead_of before ++ (dead_of gone ++ dead_of after)) = sym (ap (λ s. length (dead_of s)) cut) ∙ ap length (dead_parts before gone after) in
    let new_masks : length (dead_of ((before ++ option_to_list slot) ++ after)) ≡ length (dead_of before ++ (dead_of (option_to_list slot) ++ dead_of after)) =
    ap (λ s. length (dead_of s)) (append_assoc before (option_to_list slot) after) ∙ ap length (dead_parts before (option_to_list slot) after) in
    record {
      numbered = omega arith;
      ordered = is.ordered;
      in_range = is.in_range;
      few = omega (arith, length-append (before ++ option_to_list slot) after, length-append before (option_to_list slot));
      apart = ranges_placed v.first v.next before gone after slot fresh inside (subst (λ s. AreRangesWithin v.first v.next (ranges_of s)) (sym cut) is.apart);
      slots = all_append IsSlot (before ++ option_to_list slot) after (all_append IsSlot before (option_to_list slot) (all_take IsSlot at v.slots is.slots) (fresh_slots slot fresh)) (all_drop IsSlot (at + count) v.slots is.slots);
      run = subst IsFileRun (sym files) is.run;
      ids = subst (λ fs. AllByRecursion (λ (f : FileEntry). f.id < v.next_id) fs) (sym files) is.ids;
      used = subst (λ (fs : List FileEntry). length fs + v.dels ≤ v.next_id) (sym files) is.used;
      dead = omega (
        arith,
        length-append (dead_of before) (dead_of gone ++ dead_of after),
        length-append (dead_of gone) (dead_of after),
        length-append (dead_of before) (dead_of (option_to_list slot) ++ dead_of after),
        length-append (dead_of (option_to_list slot)) (dead_of after),
      );
    }

-- no live word and no record comes or goes
pub same_placed : (slots : List SlotContent) (at count : ℕ) (slot : Option SlotContent) → IsSameLive (slots_at at count slots) (option_to_list slot) → IsSameLive slots (take at slots ++ option_to_list slot ++ drop (at + count) slots)
same_placed slots at count slot same =
    let cut : take at slots ++ (slots_at at count slots ++ drop (at + count) slots) ≡ slots = cut_twice at count slots in
    record {
      words = flat_in_place live_words (take at slots) (slots_at at count slots) (option_to_list slot) (drop (at + count) slots) same.words ∙ ap live_of cut;
      files = flat_in_place (λ s. s.files) (take at slots) (slots_at at count slots) (option_to_list slot) (drop (at + count) slots) same.files ∙ ap files_of cut;
    }

-- and it stands for the same collection
pub stands_placed : (v : VersionContent) (at count : ℕ) (slot : Option SlotContent) (c : Collection) → IsSameLive (slots_at at count v.slots) (option_to_list slot) → StandsFor v c → StandsFor (version_with_slot v at count slot) c
stands_placed v at count slot c same stands =
    let placed = same_placed v.slots at count slot same in
    record {
      first = stands.first;
      next = stands.next;
      next_id = stands.next_id;
      dels = stands.dels;
      files = placed.files ∙ stands.files;
      words = placed.words ∙ stands.words;
    }
