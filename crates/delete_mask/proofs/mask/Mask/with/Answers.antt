use Rattle.std.proofs.Common.{◌+◌, ◌≤◌, List, length, sym, ap, ◌∙◌, subst, arith}
use Rattle.gcl_model.specs.Limits.{address_end}
use Rattle.gcl_model.specs.Slots.{SlotRange, AreRangesWithin}
use Rattle.delete_mask.specs.Masks.{is_dead}
use Rattle.delete_mask.proofs.Joining.{is_dead-with_range, length-with_range, AreRangesWithin-with_range}
use Rattle.delete_mask.proofs.mask.Mask.with.Goals as goal

pub invariant_of-result : goal.invariant_of-result
invariant_of-result c =
    let e = c.in_ok-ranges.ensures in
    subst (λ (ranges : List SlotRange). AreRangesWithin 0 address_end ranges) (sym e.value)
    (AreRangesWithin-with_range 0 address_end c.args.self.now c.args.range e.apart c.requires (omega arith) e.ordered e.in_range)

pub returns-clause-dead : goal.returns-clause-dead
returns-clause-dead c = λ p.
    let e = c.in_ok-ranges.ensures in
    ap (λ ranges. is_dead ranges p) e.value ∙ is_dead-with_range 0 address_end c.args.self.now c.args.range p e.apart e.ordered

pub returns-clause-count : goal.returns-clause-count
returns-clause-count c =
    let e = c.in_ok-ranges.ensures in
    subst (λ (ranges : List SlotRange). length ranges ≤ length c.args.self.now + 1) (sym e.value) (length-with_range c.args.self.now c.args.range)

pub returns-clause-within : goal.returns-clause-within
returns-clause-within c = λ low end within first last.
    let e = c.in_ok-ranges.ensures in
    subst (λ (ranges : List SlotRange). AreRangesWithin low end ranges) (sym e.value)
    (AreRangesWithin-with_range low end c.args.self.now c.args.range within c.requires first e.ordered last)
