-- Plans, and the slots that they name.
use Rattle.std.proofs.Common.{◌≡◌, ℕ, ◌≤◌, List, [], ◌∷◌, length, take, Some, sym, ap, ◌∙◌, subst}
use Rattle.std.proofs.lemmas.List.{length-map, length-take-le, take-map}
use Rattle.logbook.specs.Pages.{Book as Name}
use Rattle.live_version.specs.Changes.{IsSameLive, slots_at, whole_range}
use Rattle.live_version.specs.Contents.{SlotContent, VersionContent, IsVersion, ranges_of}
use Rattle.manifest_publish.specs.Accounts.{EndsWith}
use Rattle.manifest_publish.proofs.HistoryLemmas.{latest-one}
use Rattle.shared_edit.specs.declared.plan.SlotName.{SlotName}
use Rattle.shared_edit.specs.Plans.{HasSlots, IsPlan, MergesFirst, name_of, names_of, plan_content}

-- the names of the first `count` slots
named_first : (count : ℕ) (slots : List SlotContent) (names : List SlotName) → count ≤ length slots → names ≡ names_of (take count slots) → (length names ≡ count) × (names ≡ take (length names) (names_of slots))
named_first count slots names within is =
    let all : names ≡ take count (names_of slots) = is ∙ sym (take-map name_of count slots) in
    let n : length names ≡ count = ap length is ∙ (length-map (take count slots) name_of ∙ length-take-le count slots within) in
    (n, all ∙ ap (λ k. take k (names_of slots)) (sym n))

-- a plan, by what it is made of
pub plan-made : (publisher : Name) (list : List VersionContent) (v : VersionContent) (count : ℕ) (names : List SlotName) (slot : SlotContent) → IsVersion v → EndsWith list v → HasSlots list count → 2 ≤ count
    → names ≡ names_of (take count v.slots) → slot.mask ≡ [] → IsSameLive (slots_at 0 count v.slots) (slot ∷ []) → whole_range (ranges_of (slots_at 0 count v.slots)) ≡ Some slot.range
    → IsPlan (plan_content publisher list names slot)
plan-made publisher list v count names slot version ends has two is alive same range =
    let one : has.version ≡ v = latest-one list has.version v has.latest ends.1 in
    let within : count ≤ length v.slots = subst (λ (u : VersionContent). count ≤ length u.slots) one has.within in
    let n = named_first count v.slots names within is in
    record {
      version = v;
      is_version = version;
      ends = ends;
      names = n.1;
      merges = subst (λ k. MergesFirst v.slots k slot) (sym n.0) record { two = two; within = within; alive = alive; same = same; range = range };
    }
