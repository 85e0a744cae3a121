use Rattle.std.proofs.Common.{◌≡◌, ◌+◌, ◌-◌, length, ap, ◌∙◌, arith}
use Rattle.gcl_model.specs.Slots.{SlotRange}
use Rattle.delete_mask.specs.Parts.{last_dead}
use Rattle.delete_mask.proofs.PartLemmas.{last_at}
use Rattle.delete_mask.proofs.shared_part.SharedPart.last.Goals as goal

pub returns : goal.returns
returns c =
    let ranges = c.ranges-ranges.result.now in
    let same = c.ranges-ranges.ensures.value ∙ c.mask.ensures.value in
    let some = c.mask.ensures.some in
    let long = ap length same in
    let at : length ranges - 1 + 1 ≡ length ranges = omega (arith, some, long) in
    ap (λ (r : SlotRange). r.last) (c.range.view_is ∙ c.index-ranges-ranges.is) ∙ last_at ranges (length ranges - 1) c.index-ranges-ranges.result at ∙ ap last_dead same
