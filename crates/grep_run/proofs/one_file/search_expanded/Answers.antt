use Rattle.std.proofs.Common.{ℕ, ◌+◌, ◌≤◌, length, take, ap, ◌∙◌, subst}
use Rattle.std.specs.Prelude.{nat_lt}
use Rattle.std.specs.Io.KnownBytes.{Appends}
use Rattle.gcl_model.specs.FormOf.{form_of}
use Rattle.file_answers.proofs.WrittenLemmas.{moves-nothing, part-as, part-of}
use Rattle.grep_run.specs.Requests.{file_output, request_of}
use Rattle.grep_run.proofs.FileLemmas.{IsOver, list-is, looked-is, output-is}
use Rattle.grep_run.proofs.one_file.search_expanded.Goals as goal

pub returns-in_err-text-clause-part : goal.returns-in_err-text-clause-part
returns-in_err-text-clause-part g c = part-of _ _ _ _ (moves-nothing (g.K.Sink.written c.args.sink.now) _)

pub returns-in_err-label-clause-part : goal.returns-in_err-label-clause-part
returns-in_err-label-clause-part g c = part-of _ _ _ _ (moves-nothing (g.K.Sink.written c.args.sink.now) _)

pub returns-in_err-found-clause-part : goal.returns-in_err-found-clause-part
returns-in_err-found-clause-part g c =
    let r = request_of c.args.wish.now in
    let over : IsOver c.args.bytes.now r.form (form_of c.args.expr.now) c.in_ok-text.text = record { text_is = c.in_ok-text.ensures; form_is = c.requires.form; wide_is = c.requires.wide } in
    part-as (g.K.Sink.written c.args.sink.now) (g.K.Sink.written c.write_file.new.sink) _ (file_output r c.args.name.now c.args.bytes.now)
    (output-is r c.args.name.now c.args.bytes.now (form_of c.args.expr.now) c.in_ok-text.text c.in_ok-label.label.shown c.in_ok-label.label.name over c.in_ok-label.ensures.shown c.in_ok-label.ensures.name)
    c.in_err-found.ensures.part

pub returns-in_err-found-clause-cost : goal.returns-in_err-found-clause-cost
returns-in_err-found-clause-cost g c =
    let form = form_of c.args.wish.now.asking.expr.now in
    let over : IsOver c.args.bytes.now form (form_of c.args.expr.now) c.in_ok-text.text = record { text_is = c.in_ok-text.ensures; form_is = c.requires.form; wide_is = c.requires.wide } in
    subst (λ (n : ℕ). c.write_file.new.steps ≤ c.args.steps.now + n) (looked-is c.args.bytes.now form (form_of c.args.expr.now) c.in_ok-text.text over) c.in_err-found.ensures.cost

pub returns-clause-written : goal.returns-clause-written
returns-clause-written g c =
    let r = request_of c.args.wish.now in
    let over : IsOver c.args.bytes.now r.form (form_of c.args.expr.now) c.in_ok-text.text = record { text_is = c.in_ok-text.ensures; form_is = c.requires.form; wide_is = c.requires.wide } in
    subst (Appends (g.K.Sink.written c.args.sink.now) (g.K.Sink.written c.write_file.new.sink))
    (output-is r c.args.name.now c.args.bytes.now (form_of c.args.expr.now) c.in_ok-text.text c.in_ok-label.label.shown c.in_ok-label.label.name over c.in_ok-label.ensures.shown c.in_ok-label.ensures.name)
    c.in_ok-found.ensures.written

pub returns-clause-part : goal.returns-clause-part
returns-clause-part g c =
    let r = request_of c.args.wish.now in
    let over : IsOver c.args.bytes.now r.form (form_of c.args.expr.now) c.in_ok-text.text = record { text_is = c.in_ok-text.ensures; form_is = c.requires.form; wide_is = c.requires.wide } in
    part-as (g.K.Sink.written c.args.sink.now) (g.K.Sink.written c.write_file.new.sink) _ (file_output r c.args.name.now c.args.bytes.now)
    (output-is r c.args.name.now c.args.bytes.now (form_of c.args.expr.now) c.in_ok-text.text c.in_ok-label.label.shown c.in_ok-label.label.name over c.in_ok-label.ensures.shown c.in_ok-label.ensures.name)
    c.in_ok-found.ensures.part

pub returns-clause-some : goal.returns-clause-some
returns-clause-some g c =
    let form = form_of c.args.wish.now.asking.expr.now in
    let over : IsOver c.args.bytes.now form (form_of c.args.expr.now) c.in_ok-text.text = record { text_is = c.in_ok-text.ensures; form_is = c.requires.form; wide_is = c.requires.wide } in
    c.in_ok-found.ensures.some ∙ ap (λ l. nat_lt 0 (length (take c.args.wish.now.asking.most l))) (list-is c.args.bytes.now form (form_of c.args.expr.now) c.in_ok-text.text over)

pub returns-clause-cost : goal.returns-clause-cost
returns-clause-cost g c =
    let form = form_of c.args.wish.now.asking.expr.now in
    let over : IsOver c.args.bytes.now form (form_of c.args.expr.now) c.in_ok-text.text = record { text_is = c.in_ok-text.ensures; form_is = c.requires.form; wide_is = c.requires.wide } in
    subst (λ (n : ℕ). c.write_file.new.steps ≤ c.args.steps.now + n) (looked-is c.args.bytes.now form (form_of c.args.expr.now) c.in_ok-text.text over) c.in_ok-found.ensures.cost
