use Rattle.std.proofs.Common.{arith}
use Rattle.live_version.proofs.CountLemmas.{alive_and_dead}
use Rattle.live_version.proofs.counts.count_dead.Goals as goal

pub overflow_sub-result : goal.overflow_sub-result
overflow_sub-result c = omega (arith, alive_and_dead c.args.mask.now c.args.list.now, c.count_alive.ensures, c.len.ensures.value)

pub returns : goal.returns
returns c = omega (arith, alive_and_dead c.args.mask.now c.args.list.now, c.count_alive.ensures, c.len.ensures.value)
