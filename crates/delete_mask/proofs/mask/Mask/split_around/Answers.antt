use Rattle.std.proofs.Common.{◌≡◌, ◌+◌, ◌≤◌, List, length, take, drop, sym, ap, ◌∙◌, subst, arith, ltb}
use Rattle.gcl_model.specs.Limits.{address_end}
use Rattle.std.specs.List.{prefix_len}
use Rattle.std.proofs.lemmas.List.Sums.{prefix_len-le-length}
use Rattle.gcl_model.specs.Slots.{SlotRange, AreRangesWithin}
use Rattle.delete_mask.proofs.Halving.{AreRangesWithin-before, AreRangesWithin-after}
use Rattle.delete_mask.proofs.mask.Mask.split_around.Goals as goal

pub split_at-requires : goal.split_at-requires
split_at-requires c =
    let whole : length c.as_slice.result.now ≡ length c.args.self.now = ap length (c.as_slice.ensures.value ∙ c.self.view_is) in
    omega (arith, prefix_len-le-length {X = SlotRange})

pub returns-clause-before : goal.returns-clause-before
returns-clause-before c =
    let first : c.range.inside.first ≡ c.args.range.first = ap (λ r. r.first) c.range.view_is in
    let count : c.count_before-at.result ≡ prefix_len (λ (r : SlotRange). ltb r.last c.args.range.first) c.args.self.now =
    c.count_before-at.ensures.count ∙ ap (λ p. prefix_len (λ (r : SlotRange). ltb r.last p) c.args.self.now) first in
    let front = c.split_at.ensures.front ∙ ap (take c.count_before-at.result) (c.as_slice.ensures.value ∙ c.self.view_is) ∙ ap (λ n. take n c.args.self.now) count in
    subst (λ (ranges : List SlotRange). AreRangesWithin 0 c.args.range.first ranges) (sym front)
    (AreRangesWithin-before 0 address_end c.args.self.now c.args.range.first c.count_before-at.ensures.apart)

pub returns-clause-after : goal.returns-clause-after
returns-clause-after c =
    let first : c.range.inside.first ≡ c.args.range.first = ap (λ r. r.first) c.range.view_is in
    let count : c.count_before-at.result ≡ prefix_len (λ (r : SlotRange). ltb r.last c.args.range.first) c.args.self.now =
    c.count_before-at.ensures.count ∙ ap (λ p. prefix_len (λ (r : SlotRange). ltb r.last p) c.args.self.now) first in
    let back = c.split_at.ensures.back ∙ ap (drop c.count_before-at.result) (c.as_slice.ensures.value ∙ c.self.view_is) ∙ ap (λ n. drop n c.args.self.now) count in
    let some : c.args.range.first ≤ c.args.range.last = subst (λ (r : SlotRange). r.first ≤ r.last) c.range.view_is c.range.invariant.0 in
    subst (λ (ranges : List SlotRange). AreRangesWithin (c.args.range.last + 1) address_end ranges) (sym back)
    (AreRangesWithin-after 0 address_end c.args.self.now c.args.range c.count_before-at.ensures.apart c.requires some)
