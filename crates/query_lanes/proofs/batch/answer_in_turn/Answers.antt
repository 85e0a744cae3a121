use Rattle.std.proofs.Common.{◌∙◌, inr}
use Rattle.std.proofs.lemmas.Result.{IfOk-weaker}
use Rattle.gcl_model.proofs.Cases.{on_err}
use Rattle.query_lanes.proofs.BatchLemmas.{keeps_same, on_ok, over_collection, where_publisher, where_stands}
use Rattle.query_lanes.proofs.batch.answer_in_turn.Goals as goal

pub returns-in_err-merge_where-clause-stands : goal.returns-in_err-merge_where-clause-stands
returns-in_err-merge_where-clause-stands g c = keeps_same c.args.engine.now c.merge_where.new.engine c.in_err-merge_where.ensures.err

pub returns-clause-answers : goal.returns-clause-answers
returns-clause-answers g c = λ collection stands.
    IfOk-weaker c.answer_all.result _ _
    (λ answers is. is ∙ over_collection c.args.asks.now c.args.engine.now.version c.merge_where.new.engine.version collection
    (where_stands c.args.pending c.args.engine.now c.merge_where.new.engine c.in_ok-merge_where.ensures.merged) stands)
    c.answer_all.ensures

pub returns-clause-here : goal.returns-clause-here
returns-clause-here g c = c.answer_all.ensures

pub returns-clause-merged : goal.returns-clause-merged
returns-clause-merged g c = on_ok _ c.answer_all.result c.in_ok-merge_where.ensures.merged

pub returns-clause-err : goal.returns-clause-err
returns-clause-err g c = on_err _ c.answer_all.result (inr c.in_ok-merge_where.ensures.merged)

pub returns-clause-stands : goal.returns-clause-stands
returns-clause-stands g c = where_stands c.args.pending c.args.engine.now c.merge_where.new.engine c.in_ok-merge_where.ensures.merged

pub returns-clause-publisher : goal.returns-clause-publisher
returns-clause-publisher g c = where_publisher c.args.pending c.args.engine.now c.merge_where.new.engine c.in_ok-merge_where.ensures.merged
