use Rattle.std.proofs.Common.{sym, subst}
use Rattle.logbook.specs.Pages.{Book}
use Rattle.query_lanes.specs.Readers.{AreOf}
use Rattle.query_lanes.proofs.BatchLemmas.{answered_publisher, of_parts}
use Rattle.query_lanes.proofs.batch.answer_batch.Goals as goal

pub returns-then-lanes-eq0-clause-answers : goal.returns-then-lanes-eq0-clause-answers
returns-then-lanes-eq0-clause-answers g c = c.answer_in_turn.ensures.answers

pub returns-then-lanes-eq0-clause-here : goal.returns-then-lanes-eq0-clause-here
returns-then-lanes-eq0-clause-here g c = c.answer_in_turn.ensures.here

pub returns-then-lanes-eq0-clause-merged : goal.returns-then-lanes-eq0-clause-merged
returns-then-lanes-eq0-clause-merged g c = c.answer_in_turn.ensures.merged

pub returns-then-lanes-eq0-clause-err : goal.returns-then-lanes-eq0-clause-err
returns-then-lanes-eq0-clause-err g c = c.answer_in_turn.ensures.err

pub returns-then-lanes-eq0-clause-stands : goal.returns-then-lanes-eq0-clause-stands
returns-then-lanes-eq0-clause-stands g c = c.answer_in_turn.ensures.stands

pub returns-then-lanes-eq0-clause-of : goal.returns-then-lanes-eq0-clause-of
returns-then-lanes-eq0-clause-of g c = subst (λ (p : Book). AreOf p c.args.readers.now) (sym c.answer_in_turn.ensures.publisher) c.requires.of

pub returns-in_err-works-clause-stands : goal.returns-in_err-works-clause-stands
returns-in_err-works-clause-stands g c = λ collection stands. stands

pub returns-in_err-works-clause-of : goal.returns-in_err-works-clause-of
returns-in_err-works-clause-of g c = c.requires.of

pub returns-clause-answers : goal.returns-clause-answers
returns-clause-answers g c = c.answer_in_lanes-answers.ensures.answers

pub returns-clause-here : goal.returns-clause-here
returns-clause-here g c = c.answer_in_lanes-answers.ensures.here

pub returns-clause-merged : goal.returns-clause-merged
returns-clause-merged g c = c.answer_in_lanes-answers.ensures.merged

pub returns-clause-err : goal.returns-clause-err
returns-clause-err g c = c.answer_in_lanes-answers.ensures.err

pub returns-clause-stands : goal.returns-clause-stands
returns-clause-stands g c = c.answer_in_lanes-answers.ensures.stands

pub returns-clause-of : goal.returns-clause-of
returns-clause-of g c =
    of_parts c.args.engine.now.publisher c.answer_in_lanes-answers.new.engine.publisher c.args.readers.now c.split_at_mut-readers_used.result.0.now c.split_at_mut-readers_used.result.1.now c.answer_in_lanes-answers.new.readers
    c.split_at_mut-readers_used.ensures.value
    (answered_publisher c.answer_in_lanes-answers.result c.args.pending c.args.engine.now c.answer_in_lanes-answers.new.engine c.answer_in_lanes-answers.ensures.merged c.answer_in_lanes-answers.ensures.err)
    c.requires.of c.answer_in_lanes-answers.ensures.of
