use Rattle.std.proofs.Common.{[], ◌∷◌, Err, length, arith, refl, ap}
use Rattle.std.proofs.lemmas.Result.{on_ok_weaker, on_err_weaker}
use Rattle.script_answers.specs.declared.run_fault.RunFault.TheVariants.{Write, Files}
use Rattle.script_answers.proofs.Exits.{calm, counts_as, counts_from, left}
use Rattle.script_answers.proofs.Service.{ends_at, goes_served, halts_as, halts_more, halts_on, serves_on}
use Rattle.script_answers.proofs.serving.serve_action_behind.Goals as goal

pub returns-in_err-serve_batch-clause-takes : goal.returns-in_err-serve_batch-clause-takes
returns-in_err-serve_batch-clause-takes g c =
    ends_at c.args.setting.now.limits _ _ _ _ c.from_residual.result c.in_err-serve_batch.field-0.0 c.from_residual.ensures.1 (λ waiting rest line are is.
    halts_more c.args.setting.now.limits _ waiting (line ∷ rest) _ _ _ _ _ _ refl
    (halts_as c.args.setting.now.limits waiting _ _ _ _ _ _ _ (λ kept. tt) (c.in_err-serve_batch.ensures.halts (g.F.Files.held c.args.files.now) waiting are)))

pub returns-in_err-serve_batch-clause-leaves : goal.returns-in_err-serve_batch-clause-leaves
returns-in_err-serve_batch-clause-leaves g c = record {
  files = record { quiet = λ none. refl; unsaved = λ none. refl; sure = λ due. refl };
  sink = counts_as _ _ _ c.from_residual.result c.in_err-serve_batch.field-0.0 Write refl c.from_residual.ensures.1 c.in_err-serve_batch.ensures.leaves.sink;
  faults = calm _ _ c.from_residual.result c.in_err-serve_batch.field-0.0 Files refl c.from_residual.ensures.1 (λ same. c.in_err-serve_batch.ensures.leaves.ours (ap Err same));
}

pub returns-clause-takes : goal.returns-clause-takes
returns-clause-takes g c = record {
  goes = on_ok_weaker c.serve_action.result (λ serves waiting rest line are is.
      rw c.in_ok-serve_batch.ensures.none (goes_served c.args.setting.now.limits waiting rest line _ _ _ _
      (serves_on c.args.setting.now.limits waiting (line ∷ []) _ _ _ _ _ _ (c.in_ok-serve_batch.ensures.serves (g.F.Files.held c.args.files.now) waiting are) (serves line is))))
      c.serve_action.ensures.serves;
  halts = on_err_weaker c.serve_action.result (λ halts waiting rest line are is.
      halts_on c.args.setting.now.limits _ waiting (line ∷ rest) _ _ _ _ _ _ _ _ refl (c.in_ok-serve_batch.ensures.serves (g.F.Files.held c.args.files.now) waiting are)
      (halts_more c.args.setting.now.limits _ (line ∷ []) rest _ _ _ _ _ _ refl (halts line is)))
      c.serve_action.ensures.halts;
  serving = on_ok_weaker c.serve_action.result (λ serving. rw c.in_ok-serve_batch.ensures.none serving) c.serve_action.ensures.serving;
  each = on_ok_weaker c.serve_action.result (λ each.
      let before = c.in_ok-serve_batch.ensures.each in
      let none = ap length c.in_ok-serve_batch.ensures.none in omega (arith, each, before, none))
      c.serve_action.ensures.each;
}

pub returns-clause-leaves : goal.returns-clause-leaves
returns-clause-leaves g c = record {
  files = c.serve_action.ensures.leaves.files;
  sink = counts_from _ _ _ (left _ _ _ Write c.in_ok-serve_batch.ensures.leaves.sink) c.serve_action.ensures.leaves.sink;
  faults = c.serve_action.ensures.leaves.faults;
}
