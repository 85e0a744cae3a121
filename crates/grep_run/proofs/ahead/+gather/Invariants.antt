use Rattle.std.specs.Prelude.{length}
use Rattle.grep_run.proofs.ahead.+gather.Given as goal

abbrev pub decreases-gather : goal.decreases-gather
decreases-gather g l = length l.hands.now
