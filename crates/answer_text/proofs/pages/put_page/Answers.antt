use Rattle.std.proofs.Common.{[], append-nil, rules, subst}
use Rattle.gcl_model.proofs.Cases.{on_err}
use Rattle.answer_text.specs.Puts.{Puts, members_text}
use Rattle.answer_text.proofs.PutLemmas.{held_more, part_none, puts_on}
use Rattle.answer_text.proofs.pages.put_page.Goals as goal

pub returns-in_err-put_intervals-clause-part : goal.returns-in_err-put_intervals-clause-part
returns-in_err-put_intervals-clause-part g c = on_err _ c.from_residual.result (part_none (g.K.Sink.written c.args.sink.now) _)

pub returns-clause-puts : goal.returns-clause-puts
returns-clause-puts g c =
    let old = g.K.Sink.written c.args.sink.now in
    let text = members_text c.args.page.now in
    subst (Puts old (g.K.Sink.written c.hand_over.new.sink) c.args.out.now.items c.hand_over.new.out.items) (append-nil text)
    (puts_on old old _ c.args.out.now.items c.put_intervals.new.out.items c.hand_over.new.out.items text []
    (held_more old c.args.out.now.items c.put_intervals.new.out.items text (search rules)) c.in_ok-hand_over.ensures.puts)
