use Rattle.std.proofs.Common.{refl, sym, ap, ◌∙◌, arith, rules}
use Rattle.std.proofs.lemmas.List.{drop_all}
use Rattle.gcl_model.proofs.Cases.{on_err}
use Rattle.script_lang.specs.Lines.{line_of_cut, lines}
use Rattle.script_answers.specs.declared.run_fault.RunFault.TheVariants.{NoMemory}
use Rattle.script_answers.proofs.Service.{ending_is, goes_all, goes_halts, goes_none, goes_on, halts_as, halts_here, halts_more, keeps_on, sure_as}
use Rattle.script_answers.proofs.TaskLemmas.{task_kept_are, task_names_are}
use Rattle.script_answers.proofs.serving.serve_held.Goals as goal

pub loop-cut-init : goal.loop-cut-init
loop-cut-init g c = record {
  within = omega arith;
  room = search rules;
  serving = search rules;
  goes = goes_none c.args.setting.now.limits (lines c.args.setting.now.limits.line c.args.script.now) _ _ (g.K.Sink.written c.args.sink.now) (search rules);
  files = record { quiet = λ none. refl; unsaved = λ none. refl; sure = λ due. refl };
  sink_same = refl;
  files_same = refl;
}

pub returns-in_err-task-clause-halts : goal.returns-in_err-task-clause-halts
returns-in_err-task-clause-halts g c = on_err _ c.from_residual.result
    (rw (ending_is c.from_residual.result NoMemory c.from_residual.ensures.1)
    (goes_halts c.args.setting.now.limits (lines c.args.setting.now.limits.line c.args.script.now) _ c.loop-cut.asks.items _ _ _ _ _ _ _ _ c.loop-cut.invariant.goes (λ waiting are. halts_here c.args.setting.now.limits _ _ _ _ _ (λ failed. failed))))

pub returns-in_err-serve_task-clause-halts : goal.returns-in_err-serve_task-clause-halts
returns-in_err-serve_task-clause-halts g c = on_err _ c.from_residual-in_err-serve_task.result
    (rw (ending_is c.from_residual-in_err-serve_task.result c.in_err-serve_task.field-0.0 c.from_residual-in_err-serve_task.ensures.1)
    (goes_halts c.args.setting.now.limits (lines c.args.setting.now.limits.line c.args.script.now) _ c.loop-cut.asks.items _ _ _ _ _ _ _ _ c.loop-cut.invariant.goes (λ waiting are. rw c.in-Some.ensures.line
    (halts_as c.args.setting.now.limits _ _ _ _ _ _ _ _ (λ kept. kept ∙ sym (c.loop-cut.invariant.files.sure tt))
    (c.in_err-serve_task.ensures.takes.halts waiting _ (line_of_cut c.args.script.now c.in-Some.cut) are c.in_ok-task.ensures.task)))))

pub returns-in_err-serve_task-clause-files : goal.returns-in_err-serve_task-clause-files
returns-in_err-serve_task-clause-files g c =
    let line = line_of_cut c.args.script.now c.in-Some.cut in
    let task = c.in_ok-task.ensures.task in
    keeps_on _ _ _ _ _ _ _ _ _ c.args.setting.now.limits _ _ _ line c.loop-cut.asks.items _ _ _ _ _ _ _ c.from_residual-in_err-serve_task.result c.in-Some.ensures.line c.loop-cut.invariant.goes
    (task_names_are c.in_ok-task.task line task) (task_kept_are c.in_ok-task.task line task) c.loop-cut.invariant.files c.in_err-serve_task.ensures.leaves.files
    (sure_as c.from_residual-in_err-serve_task.result c.in_err-serve_task.field-0.0 c.from_residual-in_err-serve_task.ensures.1)

pub loop-cut-preserved : goal.loop-cut-preserved
loop-cut-preserved g c =
    let line = line_of_cut c.args.script.now c.in-Some.cut in
    let task = c.in_ok-task.ensures.task in
    let further = c.in-Some.ensures.places.further in
    let within = c.in-Some.ensures.places.in_text in
    let each = c.in_ok-serve_task.ensures.takes.each in
    let room = c.loop-cut.invariant.room in
    record {
      within = within;
      room = omega (arith, further, within, each, room);
      serving = c.in_ok-serve_task.ensures.takes.serving;
      goes = goes_on c.args.setting.now.limits (lines c.args.setting.now.limits.line c.args.script.now) _ _ line c.loop-cut.asks.items _ _ _ _ _ _ _ c.in-Some.ensures.line c.loop-cut.invariant.goes
          (λ waiting are. c.in_ok-serve_task.ensures.takes.goes waiting _ line are task);
      files = keeps_on _ _ _ _ _ _ _ _ _ c.args.setting.now.limits _ _ _ line c.loop-cut.asks.items _ _ _ _ _ _ _ _ c.in-Some.ensures.line c.loop-cut.invariant.goes
          (task_names_are c.in_ok-task.task line task) (task_kept_are c.in_ok-task.task line task) c.loop-cut.invariant.files c.in_ok-serve_task.ensures.leaves.files (λ due. due);
      sink_same = search rules;
      files_same = search rules;
    }

pub returns-in_err-serve_batch-clause-halts : goal.returns-in_err-serve_batch-clause-halts
returns-in_err-serve_batch-clause-halts g c = on_err _ c.from_residual-in_err-serve_batch.result
    (rw (ending_is c.from_residual-in_err-serve_batch.result c.in_err-serve_batch.field-0.0 c.from_residual-in_err-serve_batch.ensures.1)
    (goes_halts c.args.setting.now.limits (lines c.args.setting.now.limits.line c.args.script.now) _ c.loop-cut.asks.items _ _ _ _ _ _ _ _ c.loop-cut.invariant.goes
    (λ waiting are. halts_more c.args.setting.now.limits _ waiting _ _ _ _ _ _ _ refl (halts_as c.args.setting.now.limits waiting _ _ _ _ _ _ _ (λ kept. tt) (c.in_err-serve_batch.ensures.halts (g.F.Files.held c.loop-cut.files) waiting are)))))

pub returns-clause-serves : goal.returns-clause-serves
returns-clause-serves g c =
    goes_all c.args.setting.now.limits (lines c.args.setting.now.limits.line c.args.script.now) _ c.loop-cut.asks.items _ _ _ _ _ _ (ap (lines c.args.setting.now.limits.line) (drop_all c.loop-cut.at c.args.script.now (search rules)))
    c.loop-cut.invariant.goes (λ waiting are. c.in_ok-serve_batch.ensures.serves (g.F.Files.held c.loop-cut.files) waiting are)
