use Rattle.std.proofs.Common.{[], ◌∷◌, append-nil, subst}
use Rattle.gcl_model.proofs.Cases.{on_err}
use Rattle.answer_text.specs.Puts.{GetsPart, Puts}
use Rattle.answer_text.specs.Watching.{told_line, told_text}
use Rattle.answer_text.proofs.LineLemmas.{one_line}
use Rattle.answer_text.proofs.PutLemmas.{held_more, part_none, puts_on}
use Rattle.answer_text.proofs.telling.put_step.Goals as goal

pub returns-in_err-put_told-clause-part : goal.returns-in_err-put_told-clause-part
returns-in_err-put_told-clause-part g c = on_err _ c.from_residual.result (part_none (g.K.Sink.written c.args.sink.now) _)

pub returns-in_err-hand_over-clause-part : goal.returns-in_err-hand_over-clause-part
returns-in_err-hand_over-clause-part g c = on_err _ c.from_residual-in_err-hand_over.result
    (subst (GetsPart (g.K.Sink.written c.args.sink.now) (g.K.Sink.written c.hand_over.new.sink))
    (one_line (told_line c.args.number c.args.change) c.args.out.now.items c.put_told.new.out.items c.in_ok-put_told.ensures) c.in_err-hand_over.ensures.part)

pub returns-clause-puts : goal.returns-clause-puts
returns-clause-puts g c =
    let old = g.K.Sink.written c.args.sink.now in
    let text = told_text c.args.number (c.args.change ∷ []) in
    let line = one_line (told_line c.args.number c.args.change) c.args.out.now.items c.put_told.new.out.items c.in_ok-put_told.ensures in
    subst (Puts old (g.K.Sink.written c.hand_over.new.sink) c.args.out.now.items c.hand_over.new.out.items) (append-nil text)
    (puts_on old old _ c.args.out.now.items c.put_told.new.out.items c.hand_over.new.out.items text []
    (held_more old c.args.out.now.items c.put_told.new.out.items text line) c.in_ok-hand_over.ensures.puts)
