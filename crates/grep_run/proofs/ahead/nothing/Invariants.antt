use Rattle.std.specs.Prelude.{Option}
use Rattle.outside.specs.Contents.{Contents}
use Rattle.grep_run.specs.Requests.{Request}
use Rattle.grep_run.specs.inner.Works.{AreReady}
use Rattle.grep_run.proofs.ahead.nothing.Given as goal

abbrev pub invariant-loop : goal.invariant-loop
invariant-loop l = (told : Option Contents) (r : Request) → AreReady told r l.ready.items
