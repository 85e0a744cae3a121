use Rattle.std.proofs.Common.{◌≡◌, Some, None, ap, ◌∙◌, arith}
use Rattle.delete_mask.proofs.Halving.{reached_is_dead_range, reached-inside, reached-outside}
use Rattle.delete_mask.proofs.mask.Mask.dead.Goals as goal

pub returns-in_err-range-clause-value : goal.returns-in_err-range-clause-value
returns-in_err-range-clause-value c =
    c.from_residual.ensures
    ∙ reached_is_dead_range c.args.self.now c.args.p c.count_before.result None c.count_before.ensures.apart c.count_before.ensures.count c.in_err-range.ensures

pub returns-then-range-p-clause-value : goal.returns-then-range-p-clause-value
returns-then-range-p-clause-value c =
    let first : c.range.inside.first ≡ c.in_ok-range.range.first = ap (λ r. r.first) c.range.view_is in
    reached-inside c.in_ok-range.range c.args.p (omega arith)
    ∙ reached_is_dead_range c.args.self.now c.args.p c.count_before.result (Some c.in_ok-range.range) c.count_before.ensures.apart c.count_before.ensures.count c.in_ok-range.ensures

pub returns-else-range-p-clause-value : goal.returns-else-range-p-clause-value
returns-else-range-p-clause-value c =
    let first : c.range.inside.first ≡ c.in_ok-range.range.first = ap (λ r. r.first) c.range.view_is in
    reached-outside c.in_ok-range.range c.args.p (omega arith)
    ∙ reached_is_dead_range c.args.self.now c.args.p c.count_before.result (Some c.in_ok-range.range) c.count_before.ensures.apart c.count_before.ensures.count c.in_ok-range.ensures
