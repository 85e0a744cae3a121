use Rattle.std.proofs.Common.{◌++◌, [], ◌∷◌, length, arith, refl, sym, ap, append_assoc}
use Rattle.std.proofs.lemmas.Result.{on_ok_weaker, on_err_weaker}
use Rattle.script_answers.specs.declared.run_fault.RunFault.TheVariants.{NoMemory}
use Rattle.script_answers.proofs.BatchLemmas.{asked_more}
use Rattle.script_answers.proofs.Exits.{on_ok_both, one_longer, serving_more, short_sink}
use Rattle.script_answers.proofs.Service.{ends_at, goes_served, goes_waits, halts_here, halts_more}
use Rattle.script_answers.proofs.serving.serve_ask.Goals as goal

pub returns-in_err-push-clause-takes : goal.returns-in_err-push-clause-takes
returns-in_err-push-clause-takes g c = λ held.
    ends_at c.args.setting.now.limits _ _ _ _ c.from_residual.result NoMemory c.from_residual.ensures.1 (λ waiting rest line are is.
    halts_here c.args.setting.now.limits (waiting ++ line ∷ rest) _ _ _ _ (λ failed. failed))

pub returns-in_err-push-clause-leaves : goal.returns-in_err-push-clause-leaves
returns-in_err-push-clause-leaves g c = short_sink _ _ c.from_residual.result c.from_residual.ensures.1 refl

pub returns-then-len-setting-clause-takes : goal.returns-then-len-setting-clause-takes
returns-then-len-setting-clause-takes g c = λ held. record {
  goes = λ waiting rest line are is. rw c.in_ok-push.ensures (goes_waits c.args.setting.now.limits waiting rest line _ _ _ (asked_more c.args.asks.now.items waiting c.args.ask line are is));
  halts = tt;
  serving = serving_more c.args.opened.now c.args.progress.now _ c.args.asks.now.items _ c.args.ask c.in_ok-push.ensures refl c.requires.serving;
  each = let more = one_longer c.args.asks.now.items _ c.args.ask c.in_ok-push.ensures in omega (arith, more);
}

pub returns-clause-takes : goal.returns-clause-takes
returns-clause-takes g c = λ held. record {
  goes = on_ok_weaker c.serve_batch.result (λ done waiting rest line are is.
      rw done.1 (goes_served c.args.setting.now.limits waiting rest line _ _ _ _
      (done.0 held (waiting ++ line ∷ []) (rw c.in_ok-push.ensures (asked_more c.args.asks.now.items waiting c.args.ask line are is)))))
      (on_ok_both _ _ c.serve_batch.result c.serve_batch.ensures.serves c.serve_batch.ensures.none);
  halts = on_err_weaker c.serve_batch.result (λ halts waiting rest line are is.
      halts_more c.args.setting.now.limits (waiting ++ line ∷ rest) (waiting ++ line ∷ []) rest _ _ _ _ _ _ (sym (append_assoc waiting (line ∷ []) rest))
      (halts held (waiting ++ line ∷ []) (rw c.in_ok-push.ensures (asked_more c.args.asks.now.items waiting c.args.ask line are is))))
      c.serve_batch.ensures.halts;
  serving = on_ok_weaker c.serve_batch.result (λ done. rw done.1 done.0) (on_ok_both _ _ c.serve_batch.result c.serve_batch.ensures.serving c.serve_batch.ensures.none);
  each = on_ok_weaker c.serve_batch.result (λ done.
      let more = one_longer c.args.asks.now.items _ c.args.ask c.in_ok-push.ensures in
      let each = done.0 in
      let none = ap length done.1 in omega (arith, more, each, none))
      (on_ok_both _ _ c.serve_batch.result c.serve_batch.ensures.each c.serve_batch.ensures.none);
}

pub serve_batch-requires-clause-serving : goal.serve_batch-requires-clause-serving
serve_batch-requires-clause-serving g c = λ κs within. serving_more c.args.opened.now c.args.progress.now _ c.args.asks.now.items _ c.args.ask c.in_ok-push.ensures refl c.requires.serving
