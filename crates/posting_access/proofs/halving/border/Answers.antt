use Rattle.std.proofs.Common.{◌+◌, ◌-◌, ◌/◌, sym, ◌∙◌, arith}
use Rattle.posting_access.proofs.Digits.{halved_behind, halved_front, passed_before}
use Rattle.posting_access.proofs.halving.border.Goals as goal

pub loop-low-preserved-then-passes_at : goal.loop-low-preserved-then-passes_at
loop-low-preserved-then-passes_at g c =
    let i = c.loop-low.invariant in
    let from = i.from in
    let upto = i.upto in
    record {
      from = omega (arith, from);
      ordered = omega arith;
      upto = upto;
      before = λ lt. passed_before (g.T.Test.passes c.args.test.now) (c.loop-low.low + (c.loop-low.high - c.loop-low.low) / 2) (sym c.passes_at.ensures ∙ c.if-passes_at.true);
      after = i.after;
      halved = halved_behind _ _ _ _ _ _ i.halved c.tick.ensures (omega arith);
    }

pub loop-low-preserved : goal.loop-low-preserved
loop-low-preserved g c =
    let i = c.loop-low.invariant in
    let upto = i.upto in
    record {
      from = i.from;
      ordered = omega arith;
      upto = omega (arith, upto);
      before = i.before;
      after = λ lt. sym c.passes_at.ensures ∙ c.if-passes_at.false;
      halved = halved_front _ _ _ _ _ _ i.halved c.tick.ensures (omega arith);
    }
