use Rattle.std.proofs.Common.{◌≡◌, length, List, get_or, ap, ◌∙◌, arith}
use Rattle.std.proofs.lemmas.List.Folds.{length-flat_map-take}
use Rattle.gcl_model.specs.Slots.{SlotRange}
use Rattle.delete_mask.specs.Parts.{ranges_in}
use Rattle.delete_mask.proofs.PartLemmas.{few_ranges}
use Rattle.delete_mask.proofs.parts.count_of.Goals as goal

pub overflow_add-count : goal.overflow_add-count
overflow_add-count c =
    let parts = c.args.parts.now in
    let part = c.part-item.result in
    let upto = length-flat_map-take (λ (ranges : List SlotRange). ranges) parts c.loop-part.part-index part c.loop-part-test.true in
    let few = few_ranges (ranges_in parts) c.requires in
    let long : c.range_count-count.result ≡ length (get_or parts c.loop-part.part-index part) = c.range_count-count.ensures ∙ ap length (c.mask.ensures.value ∙ c.part-item.is) in
    let count = c.loop-part.invariant in
    omega (arith, upto, few, long, count)
