use Rattle.std.proofs.Common.{◌≡◌, ◌+◌, ◌≤◌, List, length, sym, ap, ◌∙◌, subst}
use Rattle.gcl_model.specs.Limits.{address_end}
use Rattle.gcl_model.specs.Slots.{SlotRange, AreRangesWithin}
use Rattle.delete_mask.specs.Masks.{is_dead, with_range}
use Rattle.delete_mask.specs.Parts.{ranges_in}
use Rattle.delete_mask.proofs.Joining.{is_dead-with_range, length-with_range, AreRangesWithin-with_range}
use Rattle.delete_mask.proofs.shared_mask.SharedMask.with.Goals as goal

pub returns-clause-dead : goal.returns-clause-dead
returns-clause-dead c = λ p.
    let same : ranges_in c.as_slice.result.now ≡ c.args.self.now = ap ranges_in c.as_slice.ensures.value ∙ c.self.view_is in
    let value : ranges_in c.in_ok-parts.parts.items ≡ with_range c.args.range c.args.self.now = c.in_ok-parts.ensures.value ∙ ap (with_range c.args.range) same in
    let apart = subst (AreRangesWithin 0 address_end) c.self.view_is c.self.invariant.0.apart in
    ap (λ ranges. is_dead ranges p) value ∙ is_dead-with_range 0 address_end c.args.self.now c.args.range p apart c.in_ok-parts.ensures.some

pub returns-clause-count : goal.returns-clause-count
returns-clause-count c =
    let same : ranges_in c.as_slice.result.now ≡ c.args.self.now = ap ranges_in c.as_slice.ensures.value ∙ c.self.view_is in
    let value : ranges_in c.in_ok-parts.parts.items ≡ with_range c.args.range c.args.self.now = c.in_ok-parts.ensures.value ∙ ap (with_range c.args.range) same in
    subst (λ (ranges : List SlotRange). length ranges ≤ length c.args.self.now + 1) (sym value) (length-with_range c.args.self.now c.args.range)

pub returns-clause-within : goal.returns-clause-within
returns-clause-within c = λ low end within first last.
    let same : ranges_in c.as_slice.result.now ≡ c.args.self.now = ap ranges_in c.as_slice.ensures.value ∙ c.self.view_is in
    let value : ranges_in c.in_ok-parts.parts.items ≡ with_range c.args.range c.args.self.now = c.in_ok-parts.ensures.value ∙ ap (with_range c.args.range) same in
    subst (λ (ranges : List SlotRange). AreRangesWithin low end ranges) (sym value)
    (AreRangesWithin-with_range low end c.args.self.now c.args.range within c.requires first c.in_ok-parts.ensures.some last)
