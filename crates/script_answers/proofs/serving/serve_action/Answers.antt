use Rattle.std.proofs.Common.{◌≡◌, ◌+◌, ◌++◌, Option, refl, sym, ◌∙◌, subst, arith, rules}
use Rattle.std.specs.Prelude.{IfSome}
use Rattle.std.specs.Io.KnownBytes.{Appends}
use Rattle.script_answers.proofs.Prelude.{answer_lines, fault_ending, last_of, of_files, of_write, since, told_since, Account, GetsPart, IsLocal, Keeps}
use Rattle.gcl_model.proofs.Cases.{on_err}
use Rattle.query_lanes.specs.Readers.{AreOf}
use Rattle.answer_text.proofs.PutLemmas.{all_behind, part_behind}
use Rattle.answer_text.proofs.ToldLemmas.{refused_alone, told-plain}
use Rattle.script_answers.specs.declared.run_fault.RunFault.TheVariants.{NoMemory}
use Rattle.script_answers.proofs.ActionSteps.{does_behind, done_behind, halted_made, halts_unmade, halts_unsaid, serves_action, text_put}
use Rattle.script_answers.proofs.Exits.{done_left, files_left, numbered, short_left, sink_left}
use Rattle.script_answers.proofs.LocalEdits.{local_since}
use Rattle.script_answers.proofs.Scripts.{all_held}
use Rattle.script_answers.proofs.Service.{ending_is, lost_write, named_fault, no_files}
use Rattle.script_answers.proofs.serving.serve_action.Goals as goal

pub returns-in_err-merge_pending-clause-halts : goal.returns-in_err-merge_pending-clause-halts
returns-in_err-merge_pending-clause-halts g c = on_err _ c.from_residual.result (λ line is.
    rw (ending_is c.from_residual.result NoMemory c.from_residual.ensures.1)
    (halts_unmade c.args.setting.now.limits c.args.action.now line _ _ _ _ (g.K.Sink.written c.args.sink.now) is refl
    (λ state at read. record { stands = (subst (λ e. Keeps e c.args.progress.now.pending state) (sym c.in_err-merge_pending.ensures.err) at.keeps).stands; files = all_held _ _ _ at.files; exact = λ kept. at.files })
    (λ failed. absurd failed)))

pub returns-in_err-before-clause-halts : goal.returns-in_err-before-clause-halts
returns-in_err-before-clause-halts g c = on_err _ c.from_residual-in_err-before.result (λ line is.
    rw (ending_is c.from_residual-in_err-before.result NoMemory c.from_residual-in_err-before.ensures.1)
    (halts_unmade c.args.setting.now.limits c.args.action.now line _ _ _ _ (g.K.Sink.written c.args.sink.now) is refl
    (λ state at read. record { stands = (c.in_ok-merge_pending.ensures.keeps state at.keeps).stands; files = all_held _ _ _ at.files; exact = λ kept. at.files })
    (λ failed. absurd failed)))

pub returns-in_err-answer-clause-halts : goal.returns-in_err-answer-clause-halts
returns-in_err-answer-clause-halts g c = on_err _ c.from_residual-in_err-answer.result (λ line is.
    rw (ending_is c.from_residual-in_err-answer.result (of_files c.in_err-answer.field-0.0) c.from_residual-in_err-answer.ensures.1)
    (halts_unmade c.args.setting.now.limits c.args.action.now line _ _ _ _ (g.K.Sink.written c.args.sink.now) is refl
    (λ state at read. c.in_err-answer.ensures.unmade state (record { files = at.files; keeps = c.in_ok-merge_pending.ensures.keeps state at.keeps }))
    (named_fault c.in_err-answer.field-0.0 c.in_err-answer.ensures.named)))

pub returns-in_err-put_answer-clause-halts : goal.returns-in_err-put_answer-clause-halts
returns-in_err-put_answer-clause-halts g c = on_err _ c.from_residual-in_err-put_answer.result (λ line is.
    rw (ending_is c.from_residual-in_err-put_answer.result NoMemory c.from_residual-in_err-put_answer.ensures.1)
    (halts_unsaid c.args.setting.now.limits c.args.action.now line c.in_ok-answer.answer _ _ _ _ (g.K.Sink.written c.args.sink.now) is (search rules)
    (does_behind c.args.setting.now.limits c.args.action.now _ c.merge_pending.new.engine _ _ _ _ c.in_ok-answer.answer c.in_ok-merge_pending.ensures.keeps c.in_ok-answer.ensures.gives c.is_merge-progress.ensures)
    (λ due. due) (λ failed. failed)))

pub returns-in_err-put_changes-clause-halts : goal.returns-in_err-put_changes-clause-halts
returns-in_err-put_changes-clause-halts g c = on_err _ c.from_residual-in_err-put_changes.result (λ line is.
    let fault = c.in_err-put_changes.field-0.0 in
    let given = c.in_ok-answer.answer in
    rw (ending_is c.from_residual-in_err-put_changes.result (of_write fault) c.from_residual-in_err-put_changes.ensures.1)
    (λ state at read. halted_made c.args.setting.now.limits state c.args.action.now line _ (fault_ending (of_write fault)) _ _ _ _ _ is (search rules)
    (done_behind c.args.setting.now.limits c.args.action.now _ _ c.merge_pending.new.engine given c.in_ok-before.before c.in_ok-merge_pending.ensures.keeps c.in_ok-before.ensures
    (does_behind c.args.setting.now.limits c.args.action.now _ c.merge_pending.new.engine _ _ _ _ given c.in_ok-merge_pending.ensures.keeps c.in_ok-answer.ensures.gives c.is_merge-progress.ensures) state at (is.reads state read.0))
    (lost_write fault) (no_files fault)
    (subst (GetsPart (g.K.Sink.written c.args.sink.now) (g.K.Sink.written c.put_changes.new.sink)) (text_put c.put_answer.new.out.items c.act.new.engine.version given c.since.result _ c.act.new.watches (search rules) c.since.ensures)
    c.in_err-put_changes.ensures.part)))

pub returns-in_err-write_all-clause-halts : goal.returns-in_err-write_all-clause-halts
returns-in_err-write_all-clause-halts g c = on_err _ c.from_residual-in_err-write_all.result (λ line is.
    let fault = c.in_err-write_all.field-0.0 in
    let given = c.in_ok-answer.answer in
    let rest : c.as_slice.result.now ≡ c.put_changes.new.out.items = search rules in
    rw (ending_is c.from_residual-in_err-write_all.result (of_write fault) c.from_residual-in_err-write_all.ensures.1)
    (λ state at read. halted_made c.args.setting.now.limits state c.args.action.now line _ (fault_ending (of_write fault)) _ _ _ _ _ is (search rules)
    (done_behind c.args.setting.now.limits c.args.action.now _ _ c.merge_pending.new.engine given c.in_ok-before.before c.in_ok-merge_pending.ensures.keeps c.in_ok-before.ensures
    (does_behind c.args.setting.now.limits c.args.action.now _ c.merge_pending.new.engine _ _ _ _ given c.in_ok-merge_pending.ensures.keeps c.in_ok-answer.ensures.gives c.is_merge-progress.ensures) state at (is.reads state read.0))
    (lost_write fault) (no_files fault)
    (subst (GetsPart (g.K.Sink.written c.args.sink.now) (g.K.Sink.written c.write_all.new.sink)) (text_put c.put_answer.new.out.items c.act.new.engine.version given c.since.result _ c.act.new.watches (search rules) c.since.ensures)
    (part_behind _ (g.K.Sink.written c.put_changes.new.sink) _ c.put_answer.new.out.items c.put_changes.new.out.items _ c.in_ok-put_changes.ensures.puts
    (subst (GetsPart (g.K.Sink.written c.put_changes.new.sink) (g.K.Sink.written c.write_all.new.sink)) rest c.in_err-write_all.ensures.part)))))

pub returns-clause-serves : goal.returns-clause-serves
returns-clause-serves g c = λ line is.
    let given = c.in_ok-answer.answer in
    let version = c.act.new.engine.version in
    let told = told_since (since given c.in_ok-before.before) c.act.new.watches version in
    let rest : c.as_slice.result.now ≡ c.put_changes.new.out.items = search rules in
    serves_action c.args.setting.now.limits c.args.action.now line (answer_lines version given ++ told) _ _ _ _ is (search rules)
    (done_behind c.args.setting.now.limits c.args.action.now _ _ c.merge_pending.new.engine given c.in_ok-before.before c.in_ok-merge_pending.ensures.keeps c.in_ok-before.ensures
    (does_behind c.args.setting.now.limits c.args.action.now _ c.merge_pending.new.engine _ _ _ _ given c.in_ok-merge_pending.ensures.keeps c.in_ok-answer.ensures.gives c.is_merge-progress.ensures))
    (refused_alone c.args.progress.now.refused (answer_lines version given) told c.is_refused.result (c.is_refused.ensures version) (told-plain (since given c.in_ok-before.before) c.act.new.watches version))
    (subst (Appends (g.K.Sink.written c.args.sink.now) (g.K.Sink.written c.write_all.new.sink)) (text_put c.put_answer.new.out.items version given c.since.result _ c.act.new.watches (search rules) c.since.ensures)
    (all_behind _ (g.K.Sink.written c.put_changes.new.sink) _ c.put_answer.new.out.items c.put_changes.new.out.items _ c.in_ok-put_changes.ensures.puts
    (subst (Appends (g.K.Sink.written c.put_changes.new.sink) (g.K.Sink.written c.write_all.new.sink)) rest c.in_ok-write_all.ensures.written)))

pub put_changes-requires-clause-local : goal.put_changes-requires-clause-local
put_changes-requires-clause-local g c =
    let given = c.in_ok-answer.answer in
    subst (λ (o : Option Account). IfSome o (λ pass. IsLocal given (last_of pass.history) c.act.new.engine.version)) (sym c.since.ensures)
    (local_since c.args.action.now c.merge_pending.new.engine c.args.progress.now.watches c.in_ok-before.before given c.act.new.engine.version c.in_ok-before.ensures c.in_ok-answer.ensures.steps.local)

pub returns-in_err-merge_pending-clause-leaves : goal.returns-in_err-merge_pending-clause-leaves
returns-in_err-merge_pending-clause-leaves g c = short_left _ _ _ _ _ _ (λ none. refl) (λ none. refl) c.from_residual.result c.from_residual.ensures.1 refl refl

pub returns-in_err-before-clause-leaves : goal.returns-in_err-before-clause-leaves
returns-in_err-before-clause-leaves g c = short_left _ _ _ _ _ _ (λ none. refl) (λ none. refl) c.from_residual-in_err-before.result c.from_residual-in_err-before.ensures.1 refl refl

pub returns-in_err-answer-clause-leaves : goal.returns-in_err-answer-clause-leaves
returns-in_err-answer-clause-leaves g c =
    files_left _ _ _ _ _ _ c.in_err-answer.ensures.quiet c.in_err-answer.ensures.unsaved c.from_residual-in_err-answer.result c.in_err-answer.field-0.0 c.from_residual-in_err-answer.ensures.1 refl c.in_err-answer.ensures.counts c.in_err-answer.ensures.cause

pub returns-in_err-put_answer-clause-leaves : goal.returns-in_err-put_answer-clause-leaves
returns-in_err-put_answer-clause-leaves g c =
    short_left _ _ _ _ _ _ c.in_ok-answer.ensures.quiet c.in_ok-answer.ensures.unsaved c.from_residual-in_err-put_answer.result c.from_residual-in_err-put_answer.ensures.1 refl c.in_ok-answer.ensures.counts

pub returns-in_err-put_changes-clause-leaves : goal.returns-in_err-put_changes-clause-leaves
returns-in_err-put_changes-clause-leaves g c =
    sink_left _ _ _ _ _ _ c.in_ok-answer.ensures.quiet c.in_ok-answer.ensures.unsaved _ c.from_residual-in_err-put_changes.result c.in_err-put_changes.field-0.0 c.from_residual-in_err-put_changes.ensures.1 c.in_ok-answer.ensures.unkept refl
    c.in_err-put_changes.ensures.counts c.in_err-put_changes.ensures.cause c.in_ok-answer.ensures.counts

pub returns-in_err-write_all-clause-leaves : goal.returns-in_err-write_all-clause-leaves
returns-in_err-write_all-clause-leaves g c =
    sink_left _ _ _ _ _ _ c.in_ok-answer.ensures.quiet c.in_ok-answer.ensures.unsaved _ c.from_residual-in_err-write_all.result c.in_err-write_all.field-0.0 c.from_residual-in_err-write_all.ensures.1 c.in_ok-answer.ensures.unkept c.in_ok-put_changes.ensures.counts
    c.in_err-write_all.ensures.counts c.in_err-write_all.ensures.cause c.in_ok-answer.ensures.counts

pub returns-clause-leaves : goal.returns-clause-leaves
returns-clause-leaves g c =
    done_left _ _ _ _ _ _ c.in_ok-answer.ensures.quiet c.in_ok-answer.ensures.unsaved c.in_ok-answer.ensures.unkept (c.in_ok-write_all.ensures.counts ∙ c.in_ok-put_changes.ensures.counts) c.in_ok-answer.ensures.counts

pub returns-clause-serving : goal.returns-clause-serving
returns-clause-serving g c =
    let steps = c.in_ok-answer.ensures.steps in
    let asked = c.requires.serving.asked in
    let next = steps.watches_on.next in
    let before = c.requires.serving.numbered in
    record {
      savable = steps.steps.savable;
      numbers = numbered c.act.new.engine.version.number c.merge_pending.new.engine.version.number c.args.opened.now.engine.version.number c.args.opened.now.lines c.is_merge-progress.result c.args.progress.now.pending _
          c.is_merge-progress.ensures steps.steps.number c.in_ok-merge_pending.ensures.number c.requires.serving.numbers;
      asked = omega (arith, asked);
      lanes = c.requires.serving.lanes;
      of = subst (λ p. AreOf p c.args.opened.now.readers.items) (sym (steps.steps.publisher ∙ c.in_ok-merge_pending.ensures.publisher)) c.requires.serving.of;
      watches = steps.watches_on.well_formed c.requires.serving.watches;
      numbered = omega (arith, next, before);
    }
