use Rattle.std.proofs.Common.{◌≤◌, length, map, refl, sym, ap, ◌∙◌, subst, arith, rules}
use Rattle.std.proofs.lemmas.List.{length-map}
use Rattle.gcl_model.proofs.Cases.{on_err}
use Rattle.script_answers.proofs.Prelude.{answer_in, fault_ending, most_readers, of_write, text_of, version_text}
use Rattle.query_lanes.specs.Readers.{AreOf}
use Rattle.script_answers.specs.declared.run_fault.RunFault.TheVariants.{Files, NoMemory}
use Rattle.script_answers.proofs.BatchLemmas.{merged_keeps}
use Rattle.script_answers.proofs.BatchSteps.{halts_batch, serves_batch, waits_batch}
use Rattle.script_answers.proofs.Exits.{err_of, merged_number, not_files, savable_still, short_sink, sink_ended, whole_row, within_done, asked_done, numbered_done}
use Rattle.script_answers.proofs.Service.{ending_is, lost_write, no_files}
use Rattle.script_answers.proofs.serving.serve_batch.Goals as goal

pub returns-in_err-answers-clause-halts : goal.returns-in_err-answers-clause-halts
returns-in_err-answers-clause-halts g c = on_err _ c.from_residual.result (λ held batch are.
    rw (ending_is c.from_residual.result NoMemory c.from_residual.ensures.1)
    (waits_batch c.args.setting.now.limits c.args.asks.now.items batch _ _ are refl refl _ (g.K.Sink.written c.args.sink.now) (λ failed. failed) refl (λ state keeps. c.in_err-answers.ensures.stands state.collection keeps.stands)))

pub returns-in_err-progress-clause-halts : goal.returns-in_err-progress-clause-halts
returns-in_err-progress-clause-halts g c = on_err _ c.from_residual-in_err-progress.result (λ held batch are.
    let fault = c.in_err-progress.field-0.0 in
    let many = ap length c.in_ok-answers.ensures.here ∙ length-map c.as_slice.result.now (answer_in (version_text c.answer_batch.new.engine.version)) ∙ ap length c.as_slice.ensures.value in
    rw (ending_is c.from_residual-in_err-progress.result (of_write fault) c.from_residual-in_err-progress.ensures.1)
    (halts_batch c.args.setting.now.limits c.args.asks.now.items batch _ _ are refl refl c.in_ok-answers.answers.items (fault_ending (of_write fault)) _ _ (lost_write fault) (no_files fault) many c.in_err-progress.ensures.counted
    (λ state keeps. merged_keeps c.args.progress.now.pending c.args.opened.now.engine c.answer_batch.new.engine state c.in_ok-answers.ensures.merged keeps)
    (λ state keeps. c.in_ok-answers.ensures.answers state.collection keeps.stands ∙ ap (map (answer_in (text_of state.collection))) c.as_slice.ensures.value) c.in_err-progress.ensures.part))

pub returns-clause-serves : goal.returns-clause-serves
returns-clause-serves g c = λ held batch are.
    serves_batch c.args.setting.now.limits c.args.asks.now.items batch _ _ are refl refl c.in_ok-answers.answers.items _ _
    (ap length c.in_ok-answers.ensures.here ∙ length-map c.as_slice.result.now (answer_in (version_text c.answer_batch.new.engine.version)) ∙ ap length c.as_slice.ensures.value) c.in_ok-progress.ensures.completed
    (λ state keeps. merged_keeps c.args.progress.now.pending c.args.opened.now.engine c.answer_batch.new.engine state c.in_ok-answers.ensures.merged keeps)
    (λ state keeps. c.in_ok-answers.ensures.answers state.collection keeps.stands ∙ ap (map (answer_in (text_of state.collection))) c.as_slice.ensures.value) (search rules) c.in_ok-progress.ensures.written

pub returns-in_err-answers-clause-leaves : goal.returns-in_err-answers-clause-leaves
returns-in_err-answers-clause-leaves g c = short_sink _ _ c.from_residual.result c.from_residual.ensures.1 refl

pub returns-in_err-progress-clause-leaves : goal.returns-in_err-progress-clause-leaves
returns-in_err-progress-clause-leaves g c = record {
  ours = λ of. not_files c.in_err-progress.field-0.0 (err_of c.from_residual-in_err-progress.result (of_write c.in_err-progress.field-0.0) Files c.from_residual-in_err-progress.ensures.1 of);
  sink = sink_ended _ _ _ c.from_residual-in_err-progress.result c.in_err-progress.field-0.0 refl c.from_residual-in_err-progress.ensures.1 c.in_err-progress.ensures.counts c.in_err-progress.ensures.cause;
}

pub returns-clause-serving : goal.returns-clause-serving
returns-clause-serving g c =
    let serving = c.requires.serving in
    let lines = c.in_ok-progress.ensures.completed in
    let many = ap length c.in_ok-answers.ensures.here ∙ length-map c.as_slice.result.now (answer_in (version_text c.answer_batch.new.engine.version)) ∙ ap length c.as_slice.ensures.value in
    let lent = c.answer_batch.auto.readers ∙ ap length c.as_mut_slice.ensures.value in
    let held = c.args.opened.now.readers.ok in
    let whole = whole_row c.answer_batch.new.readers c.args.opened.now.readers.items c.args.opened.now.readers.len (omega (arith, held)) lent in
    record {
      savable = savable_still c.args.opened.now.engine.version c.answer_batch.new.engine.version c.in_ok-answers.ensures.stands serving.savable;
      numbers = within_done _ _ _ _ _ (merged_number c.args.progress.now.pending c.args.opened.now.engine c.answer_batch.new.engine c.in_ok-answers.ensures.merged) serving.numbers lines;
      asked = asked_done _ _ _ _ _ many lines serving.asked;
      lanes = subst (λ l. length l ≤ most_readers) (sym whole) (subst (λ n. n ≤ most_readers) (sym lent) serving.lanes);
      of = subst (AreOf c.answer_batch.new.engine.publisher) (sym whole) c.in_ok-answers.ensures.of;
      watches = serving.watches;
      numbered = numbered_done _ _ _ _ serving.numbered lines;
    }
