use Rattle.std.proofs.Common.{Some, ◌-◌, arith, length, refl, sym, ap, ◌∙◌}
use Rattle.gcl_model.specs.Slots.{SlotRange, slot_range}
use Rattle.shard_merge.proofs.Runs.{range_found}
use Rattle.shard_merge.proofs.merging.range_of_slots.Goals as goal

pub invariant_of-result : goal.invariant_of-result
invariant_of-result c =
    let first = ap (λ (r : SlotRange). r.first) (c.result.view_is ∙ c.range.ensures.value) in
    let last = ap (λ (r : SlotRange). r.last) (c.result-2.view_is ∙ c.range-2.ensures.value) in
    let found =
    range_found c.args.slots.now (length c.args.slots.now - 1) c.index-slots-0.result c.index-slots-slots.result _ _ c.requires.some c.requires.apart c.index-slots-0.is refl c.index-slots-slots.is in
    let ordered = found.ordered in
    (omega (arith, first, last, ordered), c.result-2.invariant.1)

pub returns : goal.returns
returns c =
    let first = ap (λ (r : SlotRange). r.first) (c.result.view_is ∙ c.range.ensures.value) in
    let last = ap (λ (r : SlotRange). r.last) (c.result-2.view_is ∙ c.range-2.ensures.value) in
    let found =
    range_found c.args.slots.now (length c.args.slots.now - 1) c.index-slots-0.result c.index-slots-slots.result _ _ c.requires.some c.requires.apart c.index-slots-0.is refl c.index-slots-slots.is in
    found.is ∙ ap (λ p. Some (slot_range p c.index-slots-slots.result.range.last)) (sym first) ∙ ap (λ p. Some (slot_range c.result.inside.first p)) (sym last)
