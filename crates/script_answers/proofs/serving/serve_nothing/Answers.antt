use Rattle.std.proofs.Common.{[], ◌∷◌, length, arith, refl, ap}
use Rattle.script_answers.proofs.ActionSteps.{serves_nothing}
use Rattle.script_answers.proofs.Exits.{serving_empty, sink_as}
use Rattle.script_answers.proofs.Service.{ends_at, goes_served, halts_more, serves_on}
use Rattle.script_answers.proofs.serving.serve_nothing.Goals as goal

pub returns-in_err-serve_batch-clause-takes : goal.returns-in_err-serve_batch-clause-takes
returns-in_err-serve_batch-clause-takes g c = λ held.
    ends_at c.args.setting.now.limits _ _ _ _ c.from_residual.result c.in_err-serve_batch.field-0.0 c.from_residual.ensures.1 (λ waiting rest line are is.
    halts_more c.args.setting.now.limits _ waiting (line ∷ rest) _ _ _ _ _ _ refl (c.in_err-serve_batch.ensures.halts held waiting are))

pub returns-in_err-serve_batch-clause-leaves : goal.returns-in_err-serve_batch-clause-leaves
returns-in_err-serve_batch-clause-leaves g c = sink_as _ _ c.from_residual.result c.in_err-serve_batch.field-0.0 c.from_residual.ensures.1 c.in_err-serve_batch.ensures.leaves

pub returns-clause-takes : goal.returns-clause-takes
returns-clause-takes g c = λ held. record {
  goes = λ waiting rest line are is.
      rw c.in_ok-serve_batch.ensures.none (goes_served c.args.setting.now.limits waiting rest line _ _ _ _
      (serves_on c.args.setting.now.limits waiting (line ∷ []) _ _ _ _ _ _ (c.in_ok-serve_batch.ensures.serves held waiting are) (serves_nothing c.args.setting.now.limits line _ _ is)));
  halts = tt;
  serving = rw c.in_ok-serve_batch.ensures.none (serving_empty _ _ _ refl c.in_ok-serve_batch.ensures.serving);
  each = let each = c.in_ok-serve_batch.ensures.each in
      let none = ap length c.in_ok-serve_batch.ensures.none in omega (arith, each, none);
}
