use Rattle.std.specs.Prelude.{◌≡◌}
use Rattle.share_run.proofs.lane.settle_rounds.Given as goal

abbrev pub invariant-loop-i : goal.invariant-loop-i
invariant-loop-i g l = l.reader.publisher ≡ g.J.Naming.publisher
