use Rattle.std.proofs.Common.{sym, arith}
use Rattle.gcl_parser.proofs.Faults.{refused_is}
use Rattle.gcl_parser.proofs.refusal.refusal.Goals as goal

pub loop-placed-init : goal.loop-placed-init
loop-placed-init c = record { within = omega arith; same = rw c.start-state.ensures (sym (refused_is c.args.text.now)) }
