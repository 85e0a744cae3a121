use Rattle.std.proofs.Common.{sym}
use Rattle.gcl_eval.proofs.members.count.Goals as goal

pub returns-in-Some-clause-value : goal.returns-in-Some-clause-value
returns-in-Some-clause-value g c = c.in-Some.ensures (g.L.Leaves.text c.args.leaves.now) record { first_is = sym c.span.ensures.first; next_is = sym c.span.ensures.next }
