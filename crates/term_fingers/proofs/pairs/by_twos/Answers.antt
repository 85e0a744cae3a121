use Rattle.std.proofs.Common.{◌+◌, ◌^◌, ◌<◌, get_or, arith}
use Rattle.posting_code.proofs.Rising.{rise_index}
use Rattle.term_fingers.proofs.Beside.{twos_by}
use Rattle.term_fingers.proofs.pairs.by_twos.Goals as goal

pub overflow_add-wanted-in-loop-at : goal.overflow_add-wanted-in-loop-at
overflow_add-wanted-in-loop-at c =
    let below : get_or c.args.first.now (c.loop-at.at + 1) 0 < 2 ^ 56 = (rise_index 0 (2 ^ 56) c.args.first.now (c.loop-at.at + 1) c.requires.first c.loop-at-test.true).1 in
    omega (arith, below)

pub loop-at-preserved : goal.loop-at-preserved
loop-at-preserved c =
    let apart = c.apart.ensures in
    let yes = c.if-apart.true in
    let step =
    twos_by c.args.first.now c.args.second.now c.args.k c.requires.first c.requires.second c.loop-at.at c.loop-at.behind c.one_below.result c.one_below-in-loop-at.result
    c.loop-at-test.true c.if-behind-second.true (apart.near yes) (apart.near_last yes) (apart.far yes) (apart.far_last yes) c.loop-at.invariant.passed c.one_below.ensures c.one_below-in-loop-at.ensures in
    record { passed = step.passed; within = step.within; within_behind = step.within_behind }
