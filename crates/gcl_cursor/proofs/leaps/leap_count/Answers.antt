use Rattle.std.proofs.Common.{arith}
use Rattle.gcl_cursor.proofs.leaps.leap_count.Goals as goal

pub returns-in_default-clause-cost : goal.returns-in_default-clause-cost
returns-in_default-clause-cost g c =
    let within = c.count_within.ensures.limit (omega arith) in
    omega (arith, within)

pub returns-clause-cost : goal.returns-clause-cost
returns-clause-cost g c =
    let within = c.count_within.ensures.limit (omega arith) in
    omega (arith, within)
