use Rattle.grep_run.specs.inner.Works.{IsSound}
use Rattle.grep_run.proofs.AheadLemmas.{all_popped}
use Rattle.grep_run.proofs.ahead.put_all.Goals as goal

pub loop-work-preserved : goal.loop-work-preserved
loop-work-preserved c = record {
  left = λ told r all. (all_popped (IsSound told r) c.loop-work.works.items c.pop.new.self.items c.pop.result c.in-Some.work c.pop.ensures.items c.in-Some.is (c.loop-work.invariant.left told r all)).0;
  ready = λ told r ready all. c.put.ensures told r (c.loop-work.invariant.ready told r ready all)
      (all_popped (IsSound told r) c.loop-work.works.items c.pop.new.self.items c.pop.result c.in-Some.work c.pop.ensures.items c.in-Some.is (c.loop-work.invariant.left told r all)).1;
}
