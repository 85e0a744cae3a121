-- What stays true of an engine when one version more is published.
use Rattle.std.proofs.Common.{◌≡◌, ℕ, ◌+◌, ◌-◌, ◌*◌, ◌<◌, ◌≤◌, ◌⊎◌, List, [], ◌∷◌, ◌++◌, length, refl, sym, ap, ◌∙◌, subst, arith, inl, inr, le_refl}
use Rattle.std.proofs.lemmas.List.{length-map}
use Rattle.gcl_model.specs.Collections.{Collection, File, AreFilesFrom, IsSound, with_file, without_file, width_of}
use Rattle.gcl_model.specs.Laws.{AreTiers}
use Rattle.gcl_model.specs.Limits.{address_end, merge_end, most_tiers, version_end}
use Rattle.gcl_model.specs.Slots.{SlotRange, slot_range, slots_after_add, slots_after_merge, slots_after_open}
use Rattle.gcl_model.specs.Steps.{IsStep}
use Rattle.address_space.proofs.CollectionLemmas.{start_is_sound, steps_keep_soundness}
use Rattle.address_space.proofs.TierLemmas.{adding_keeps_tiers, merging_keeps_tiers, opening_makes_tiers, tiers_are_few}
use Rattle.live_version.specs.Changes.{empty_version}
use Rattle.live_version.specs.Contents.{VersionContent, IsVersion, ranges_of}
use Rattle.live_version.specs.StandsFor.{StandsFor}
use Rattle.live_version.proofs.ChangeLaw.{stands_for_one}
use Rattle.logbook.specs.Pages.{Book}
use Rattle.manifest_publish.specs.Histories.{IsLatest, IsNext}
use Rattle.manifest_publish.proofs.HistoryLemmas.{lawful-snoc}
use Rattle.manifest_publish.proofs.Stands.{latest-stands, opening-stands}
use Rattle.collection.specs.Engines.{EngineContent, IsEngine, engine_content, last_of, with_version}
use Rattle.collection.specs.Changes.{AddsFileTo, Adopts, DeletesFileFrom, IsOpened, MergesSlotsOf}

-- the last version of a history
pub last_of-snoc : (versions : List VersionContent) (v : VersionContent) → last_of (versions ++ v ∷ []) ≡ v
last_of-snoc [] v = refl
last_of-snoc (w ∷ []) v = refl
last_of-snoc (w ∷ next ∷ versions) v = last_of-snoc (next ∷ versions) v

-- and the latest one is the last
pub last_is : (history : List VersionContent) (v : VersionContent) → IsLatest history v → last_of history ≡ v
last_is history v latest = ap last_of latest.1 ∙ last_of-snoc latest.0 v

-- what comes next after a sound collection is one
next_sound : (v w : VersionContent) → ((c : Collection) → StandsFor v c → IsSound c) → IsNext v w → (c : Collection) → StandsFor w c → IsSound c
next_sound v w sound next c s = subst IsSound (sym (stands_for_one w c next.after s next.to)) (by_step next.step)
  where
    by_step : ((w.edition ≡ v.edition + 1) × IsStep next.before next.after) ⊎ ((w.edition ≡ v.edition) × (next.after ≡ next.before)) → IsSound next.after
    by_step (inl (edition, step)) = steps_keep_soundness next.before next.after (sound next.before next.from) step
    by_step (inr (edition, same)) = subst IsSound (sym same) (sound next.before next.from)

-- a next version that has tiers, and numbers left, may be published
pub engine-next : (e : EngineContent) (w : VersionContent) → IsEngine e → IsNext e.version w → AreTiers w.first w.next (ranges_of w.slots) → w.number ≤ merge_end + w.next_id + w.dels → IsEngine (with_version e w)
engine-next e w is next tiers numbers =
    let same : last_of (e.history ++ w ∷ []) ≡ w = last_of-snoc e.history w in
    record {
      ends = (lawful-snoc e.history e.version w is.ends.0 is.ends.1 next, (e.history, ap (λ v. e.history ++ v ∷ []) (sym same)));
      sound = λ c s. next_sound e.version w is.sound next c (subst (λ v. StandsFor v c) same s);
      tiers = subst (λ v. AreTiers v.first v.next (ranges_of v.slots)) (sym same) tiers;
      numbers = subst (λ v. v.number ≤ merge_end + v.next_id + v.dels) (sym same) numbers;
    }

-- the same bounds and ranges, by equations
pub tiers-are : (low low' end end' : ℕ) (ranges ranges' : List SlotRange) → low ≡ low' → end ≡ end' → ranges ≡ ranges' → AreTiers low end ranges → AreTiers low' end' ranges'
tiers-are low low' end end' ranges ranges' a b e h = subst (λ n. AreTiers n end' ranges') a (subst (λ n. AreTiers low n ranges') b (subst (AreTiers low end) e h))

pub engine-added : (e : EngineContent) (w : VersionContent) (name : List ℕ) (tokens : List (List ℕ)) → IsEngine e → AddsFileTo e.version w name tokens → IsEngine (with_version e w)
engine-added e w name tokens is h =
    let v = e.version in
    let some = latest-stands e.history v is.ends.0 is.ends.1 in
    let c = some.0 in
    let s = some.1 in
    let to = h.stands c s in
    let d = with_file c name tokens in
    let t : StandsFor w d = to.1 in
    let range = slot_range v.next (v.next + width_of tokens - 1) in
    let ordered : c.first ≤ c.next = (is.sound c s).ordered in
    let first : v.first ≡ c.first = s.first in
    let next : v.next ≡ c.next = s.next in
    let end : w.next ≡ c.next + width_of tokens = t.next in
    let bound : v.number ≤ merge_end + v.next_id + v.dels = is.numbers in
    let number : w.number ≡ v.number + 1 = h.number in
    let ids : v.next_id ≡ c.next_id = s.next_id in
    let ids' : w.next_id ≡ c.next_id + 1 = t.next_id in
    let dels : v.dels ≡ c.dels = s.dels in
    let dels' : w.dels ≡ c.dels = t.dels in
    engine-next e w is record { number = h.number; before = c; after = d; from = s; to = t; step = inl (h.edition, inl (name, tokens, to.0, refl)) }
    (tiers-are v.first w.first w.next w.next (slots_after_add (ranges_of v.slots) range) (ranges_of w.slots) (s.first ∙ sym t.first) refl (sym h.ranges)
    (adding_keeps_tiers v.first v.next w.next (ranges_of v.slots) range is.tiers (omega arith) (le_refl v.next) (omega arith) (omega arith) (omega arith)))
    (omega arith)

pub engine-deleted : (e : EngineContent) (w : VersionContent) (id : ℕ) → IsEngine e → DeletesFileFrom e.version w id → IsEngine (with_version e w)
engine-deleted e w id is h =
    let v = e.version in
    let some = latest-stands e.history v is.ends.0 is.ends.1 in
    let c = some.0 in
    let s = some.1 in
    let to = h.stands c s in
    let d = without_file c id in
    let t : StandsFor w d = to.1 in
    let bound : v.number ≤ merge_end + v.next_id + v.dels = is.numbers in
    let number : w.number ≡ v.number + 1 = h.number in
    let ids : v.next_id ≡ c.next_id = s.next_id in
    let ids' : w.next_id ≡ c.next_id = t.next_id in
    let dels : v.dels ≡ c.dels = s.dels in
    let dels' : w.dels ≡ c.dels + 1 = t.dels in
    engine-next e w is record { number = h.number; before = c; after = d; from = s; to = t; step = inl (h.edition, inr (inl (id, to.0, refl))) }
    (tiers-are v.first w.first v.next w.next (ranges_of v.slots) (ranges_of w.slots) (s.first ∙ sym t.first) (s.next ∙ sym t.next) (sym h.ranges) is.tiers)
    (omega arith)

pub engine-merged : (e : EngineContent) (w : VersionContent) → IsEngine e → e.version.number < merge_end → MergesSlotsOf e.version w → IsEngine (with_version e w)
engine-merged e w is lt h =
    let v = e.version in
    let some = latest-stands e.history v is.ends.0 is.ends.1 in
    let c = some.0 in
    let s = some.1 in
    let t : StandsFor w c = h.stands c s in
    let number : w.number ≡ v.number + 1 = h.number in
    engine-next e w is record { number = h.number; before = c; after = c; from = s; to = t; step = inr (h.edition, refl) }
    (tiers-are v.first w.first v.next w.next (slots_after_merge (ranges_of v.slots) c.files) (ranges_of w.slots) (s.first ∙ sym t.first) (s.next ∙ sym t.next) (sym (h.ranges c s))
    (merging_keeps_tiers v.first v.next (ranges_of v.slots) c.files is.tiers))
    (omega arith)

pub engine-adopted : (e : EngineContent) (opened w : VersionContent) → IsEngine e → e.version.number < merge_end → IsOpened opened → Adopts e.version opened w → IsEngine (with_version e w)
engine-adopted e opened w is lt o h =
    let v = e.version in
    let some = latest-stands e.history v is.ends.0 is.ends.1 in
    let c = some.0 in
    let s = some.1 in
    let d = o.collection in
    let t : StandsFor w d = h.stands d o.stands in
    let number : w.number ≡ v.number + 1 = h.number in
    engine-next e w is record { number = h.number; before = c; after = d; from = s; to = t; step = inl (h.edition, inr (inr (record { empty = sym s.next_id ∙ h.empty; sound = o.sound; fresh = sym o.stands.dels ∙ o.fresh }))) }
    (tiers-are d.first w.first d.next w.next (slots_after_open d.files) (ranges_of w.slots) (sym t.first) (sym t.next) (sym (ap ranges_of h.slots ∙ o.ranges)) (opening_makes_tiers d o.sound))
    (omega arith)

-- an engine that was just opened
pub engine-opened : (publisher : Book) (first : ℕ) → first ≤ address_end → IsEngine (engine_content publisher (empty_version first ∷ []))
engine-opened publisher first le =
    let v = empty_version first in
    record {
      ends = ((refl, tt), ([], refl));
      sound = λ c s. subst IsSound (stands_for_one v _ c (opening-stands first) s) (start_is_sound first le);
      tiers = record { apart = tt; wide = tt; tiered = tt };
      numbers = omega arith;
    }

-- each id has taken two addresses
pub ids_take_two : (c : Collection) (at id : ℕ) (files : List File) → AreFilesFrom c at id files → 2 * c.next_id + at ≤ c.next + 2 * id
ids_take_two c at id [] h =
    let a : at ≤ c.next = h.0 in
    let b : id ≤ c.next_id = h.1 in
    let hole : 2 * (c.next_id - id) ≤ c.next - at = h.2.1 in
    omega arith
ids_take_two c at id (file ∷ files) h =
    let a : at ≤ file.base = h.0 in
    let b : id ≤ file.id = h.1 in
    let hole : 2 * (file.id - id) ≤ file.base - at = h.2.1 in
    let rest = ids_take_two c (file.base + width_of file.tokens) (file.id + 1) files h.5 in
    omega arith

-- what is left for an add and a deletion
pub record HasRoom (v : VersionContent) : Type 0 where
  pub ordered : v.first ≤ v.next
  pub in_range : v.next ≤ address_end
  pub few : length v.slots ≤ most_tiers
  pub ids : v.next_id < version_end
  pub number : v.number + 1 < version_end

pub engine-room : (e : EngineContent) → IsEngine e → IsVersion e.version → HasRoom e.version
engine-room e is version =
    let v = e.version in
    let some = latest-stands e.history v is.ends.0 is.ends.1 in
    let c = some.0 in
    let s = some.1 in
    let sound = is.sound c s in
    let ordered : c.first ≤ c.next = sound.ordered in
    let within : c.next ≤ address_end = sound.in_range in
    let first : v.first ≡ c.first = s.first in
    let next : v.next ≡ c.next = s.next in
    let ids : v.next_id ≡ c.next_id = s.next_id in
    let two : 2 * c.next_id + c.first ≤ c.next + 2 * 0 = ids_take_two c c.first 0 c.files sound.files in
    let used : length _ + v.dels ≤ v.next_id = version.used in
    let bound : v.number ≤ merge_end + v.next_id + v.dels = is.numbers in
    let few = tiers_are_few v.first v.next (ranges_of v.slots) (omega arith) is.tiers in
    record {
      ordered = omega arith;
      in_range = omega arith;
      few = omega (arith, few, length-map v.slots (λ slot. slot.range));
      ids = omega arith;
      number = omega arith;
    }
