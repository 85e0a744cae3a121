use Rattle.std.proofs.Common.{◌∷◌, [], List, None, Option, subst, sym}
use Rattle.gcl_model.proofs.Lists.{all_append}
use Rattle.grep_run.specs.inner.Works.{AreReady, IsReady}
use Rattle.grep_run.specs.declared.work.Work.{Work}
use Rattle.grep_run.proofs.ahead.nothing.Goals as goal

pub loop-preserved : goal.loop-preserved
loop-preserved c = λ told r.
    subst (λ (ws : List (Option Work)). AreReady told r ws) (sym c.in_ok-push.ensures.items) (all_append (IsReady told r) c.loop.ready.items (None ∷ []) (c.loop.invariant told r) (tt, tt))
