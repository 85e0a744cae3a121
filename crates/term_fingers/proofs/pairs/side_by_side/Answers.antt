use Rattle.std.proofs.Common.{◌^◌, ◌<◌, get_or, arith}
use Rattle.posting_code.proofs.Rising.{rise_index}
use Rattle.term_fingers.proofs.Beside.{steps_by}
use Rattle.term_fingers.proofs.pairs.side_by_side.Goals as goal

pub overflow_add-first : goal.overflow_add-first
overflow_add-first c =
    let below : get_or c.args.first.now c.loop-at.at 0 < 2 ^ 56 = (rise_index 0 (2 ^ 56) c.args.first.now c.loop-at.at c.requires.first c.loop-at-test.true).1 in
    omega (arith, below)

pub overflow_add-wanted : goal.overflow_add-wanted
overflow_add-wanted c =
    let below : get_or c.args.first.now c.loop-at.at 0 < 2 ^ 56 = (rise_index 0 (2 ^ 56) c.args.first.now c.loop-at.at c.requires.first c.loop-at-test.true).1 in
    omega (arith, below)

pub loop-at-preserved : goal.loop-at-preserved
loop-at-preserved c =
    let step =
    steps_by c.args.first.now c.args.second.now c.args.k c.requires.first c.requires.second c.loop-at.at c.loop-at.behind c.one_below-at.result c.one_below-behind.result
    c.loop-at-test.true c.if-behind-second.true c.if-first-at.true c.loop-at.invariant.passed c.one_below-at.ensures c.one_below-behind.ensures in
    record { passed = step.passed; within = step.within; within_behind = step.within_behind }
