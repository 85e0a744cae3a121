use Rattle.std.proofs.Common.{arith}
use Rattle.gcl_cursor.proofs.leaps.leap.Goals as goal

pub returns-in_err-members-clause-cost : goal.returns-in_err-members-clause-cost
returns-in_err-members-clause-cost g c =
    let within = c.list_within.ensures.limit (omega arith) in
    omega (arith, within)

pub returns-in_default-clause-cost : goal.returns-in_default-clause-cost
returns-in_default-clause-cost g c =
    let within = c.list_within.ensures.limit (omega arith) in
    omega (arith, within)

pub returns-clause-cost : goal.returns-clause-cost
returns-clause-cost g c =
    let within = c.list_within.ensures.limit (omega arith) in
    omega (arith, within)
