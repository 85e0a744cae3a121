use Rattle.std.proofs.Common.{◌≡◌, List, filter, sym, ap, ◌∙◌, subst}
use Rattle.gcl_model.specs.Slots.{SlotRange}
use Rattle.address_space.specs.Runs.{FileEntry, IsFileRun, range_of}
use Rattle.delete_mask.specs.Masks.{IsApart, with_range}
use Rattle.live_version.specs.Contents.{IsSlot, slot_content}
use Rattle.live_version.specs.Changes.{file_with_id}
use Rattle.file_runs.proofs.RunLemmas.{survives}
use Rattle.live_version.proofs.ChangeDelete.{IsGoing, going, going_apart, going_slot}
use Rattle.live_version.proofs.deletion.slot_without.Goals as goal

pub with-requires : goal.with-requires
with-requires c =
    let slot = c.args.slot.now in
    let file = c.in-Some.file.now in
    let g : IsGoing slot file =
    going c.args.id.0 slot file c.records.ensures.slot (subst IsFileRun c.records.ensures.value c.find.ensures.run) (sym (ap (file_with_id c.args.id.0) c.records.ensures.value) ∙ c.in-Some.ensures.value) in
    subst (λ (range : SlotRange). IsApart range c.mask.result.now) (sym c.range-range.ensures.value)
    (subst (λ (mask : List SlotRange). IsApart (range_of file) mask) (sym c.mask.ensures.value) (going_apart slot file g))

pub changed-requires : goal.changed-requires
changed-requires c =
    let slot = c.args.slot.now in
    let file = c.in-Some.file.now in
    let g : IsGoing slot file =
    going c.args.id.0 slot file c.records.ensures.slot (subst IsFileRun c.records.ensures.value c.find.ensures.run) (sym (ap (file_with_id c.args.id.0) c.records.ensures.value) ∙ c.in-Some.ensures.value) in
    let mask : c.in_ok-mask.mask ≡ with_range (range_of file) slot.mask =
    c.in_ok-mask.ensures.value ∙ ap (λ range. with_range range c.mask.result.now) c.range-range.ensures.value ∙ ap (with_range (range_of file)) c.mask.ensures.value in
    let left : c.in_ok-files.files ≡ filter (survives file.id) slot.files =
    c.in_ok-files.ensures ∙ ap (λ f. filter (survives f.id) c.records-2.result.now) c.file.view_is ∙ ap (filter (survives file.id)) c.records-2.ensures.value in
    subst (λ (m : List SlotRange). IsSlot (slot_content slot.range slot.shard m c.in_ok-files.files)) (sym mask)
    (subst (λ (fs : List FileEntry). IsSlot (slot_content slot.range slot.shard (with_range (range_of file) slot.mask) fs)) (sym left) (going_slot slot file g))
