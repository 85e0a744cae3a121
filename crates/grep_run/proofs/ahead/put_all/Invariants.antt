use Rattle.std.specs.Prelude.{Option}
use Rattle.outside.specs.Contents.{Contents}
use Rattle.grep_run.specs.Requests.{Request}
use Rattle.grep_run.specs.inner.Works.{AreReady, AreSound}
use Rattle.grep_run.proofs.ahead.put_all.Given as goal

-- what is left is sound, and so is what was put
abbrev pub invariant-loop-work : goal.invariant-loop-work
invariant-loop-work l = record {
  left : (told : Option Contents) (r : Request) → AreSound told r l.initial.works.items → AreSound told r l.works.items;
  ready : (told : Option Contents) (r : Request) → AreReady told r l.initial.ready.items → AreSound told r l.initial.works.items → AreReady told r l.ready.items;
}

abbrev pub decreases-loop-work : goal.decreases-loop-work
decreases-loop-work l = goal.left-loop-work l
