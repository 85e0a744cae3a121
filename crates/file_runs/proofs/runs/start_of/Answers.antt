use Rattle.std.proofs.Common.{◌-◌, arith}
use Rattle.file_runs.proofs.Places.{start_at-found}
use Rattle.file_runs.proofs.runs.start_of.Goals as goal

pub returns-else-at-eq0 : goal.returns-else-at-eq0
returns-else-at-eq0 c =
    let some = c.if-at-eq0.false in
    let within = c.requires in
    start_at-found 0 c.args.ends.now c.args.at (c.args.at - 1) 0 (omega (arith, some)) (omega (arith, some, within))
