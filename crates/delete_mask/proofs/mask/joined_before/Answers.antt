use Rattle.std.proofs.Common.{◌≡◌, ◌+◌, ◌-◌, ◌++◌, length, take, sym, ap, ◌∙◌, arith}
use Rattle.gcl_model.specs.Slots.{slot_range, joined}
use Rattle.delete_mask.specs.Masks.{with_range}
use Rattle.delete_mask.proofs.Joining.{with_range-joined, with_range-apart}
use Rattle.delete_mask.proofs.mask.joined_before.Goals as goal

pub returns-then-last-range-clause-joined : goal.returns-then-last-range-clause-joined
returns-then-last-range-clause-joined c = λ after.
    let last : c.last.inside.last ≡ c.last-item.result.last = ap (λ r. r.last) c.last.view_is in
    let first : c.range.inside.first ≡ c.args.range.first = ap (λ r. r.first) c.range.view_is in
    with_range-apart 0 c.args.before.now after c.args.range c.last-item.result c.requires c.in-len1-up.len_at_least c.last-item.is
    (λ touch. c.if-last-range.true (ap (λ n. n + 1) last ∙ touch ∙ sym first))

pub returns-clause-joined : goal.returns-clause-joined
returns-clause-joined c = λ after.
    let last : c.last.inside.last ≡ c.last-item.result.last = ap (λ r. r.last) c.last.view_is in
    let first : c.range.inside.first ≡ c.args.range.first = ap (λ r. r.first) c.range.view_is in
    with_range-joined 0 c.args.before.now after c.args.range c.last-item.result c.requires c.in-len1-up.len_at_least c.last-item.is (omega arith)
    ∙ ap (λ r. take (length c.args.before.now - 1) c.args.before.now ++ with_range (joined r c.args.range) after) (sym c.last.view_is)
    ∙ ap (λ r. take (length c.args.before.now - 1) c.args.before.now ++ with_range (slot_range c.last.inside.first r.last) after) (sym c.range.view_is)
