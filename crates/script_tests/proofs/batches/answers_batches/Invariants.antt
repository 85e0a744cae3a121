use Rattle.query_lanes.specs.Readers.{AreOf}
use Rattle.script_tests.proofs.batches.answers_batches.Given as goal

abbrev pub invariant-loop-pending : goal.invariant-loop-pending
invariant-loop-pending g l = AreOf l.engine.publisher l.readers
