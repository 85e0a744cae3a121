use Rattle.std.proofs.Common.{◌∙◌, arith}
use Rattle.standing_query.proofs.ChangeLemmas.{step_both, rest_rises}
use Rattle.standing_query.proofs.merge.next_change.Goals as goal

pub loop-preserved : goal.loop-preserved
loop-preserved g c =
    let step = c.pass_same.ensures.passed c.loop-test.true in
    record {
      old_rises = rest_rises c.loop.old.left c.pass_same.new.old.left step.member step.old_is c.loop.invariant.old_rises;
      new_rises = rest_rises c.loop.new.left c.pass_same.new.new.left step.member step.new_is c.loop.invariant.new_rises;
      same = c.loop.invariant.same ∙ step_both c.loop.old.left c.loop.new.left c.pass_same.new.old.left c.pass_same.new.new.left c.loop.invariant.old_rises c.loop.invariant.new_rises step;
      cost = omega (arith, c.loop.invariant.cost, c.pass_same.ensures.cost);
    }
