use Rattle.std.proofs.Common.{◌+◌, ◌^◌, ◌<◌, get_or, arith}
use Rattle.posting_code.proofs.Rising.{rise_index}
use Rattle.term_fingers.proofs.pairs.apart.Goals as goal

pub overflow_add-near : goal.overflow_add-near
overflow_add-near c =
    let below : get_or c.args.first.now c.args.at 0 < 2 ^ 56 = (rise_index 0 (2 ^ 56) c.args.first.now c.args.at c.requires.rising (omega (arith, c.requires.within))).1 in
    omega (arith, below)

pub overflow_add-far-2 : goal.overflow_add-far-2
overflow_add-far-2 c =
    let below : get_or c.args.first.now (c.args.at + 1) 0 < 2 ^ 56 = (rise_index 0 (2 ^ 56) c.args.first.now (c.args.at + 1) c.requires.rising c.requires.within).1 in
    omega (arith, below)
