use Rattle.std.proofs.Common.{length, inr, sym, ap, ◌∙◌}
use Rattle.std.proofs.lemmas.Result.{IfOk-weaker}
use Rattle.gcl_model.proofs.Cases.{on_err}
use Rattle.collection.specs.Engines.{EngineContent}
use Rattle.query_lanes.proofs.BatchLemmas.{each_of, keeps_same, on_ok, over_collection, run_of, where_publisher, where_stands}
use Rattle.query_lanes.proofs.LaneLemmas.{all_trusted}
use Rattle.query_lanes.proofs.MergeLemmas.{where_text}
use Rattle.query_lanes.proofs.ReaderLemmas.{are_of}
use Rattle.query_lanes.proofs.batch.answer_in_lanes.Goals as goal

pub tell_all-requires : goal.tell_all-requires
tell_all-requires g c = each_of c.args.engine.now.publisher c.args.readers.now c.requires.of

pub returns-in_err-run_all-clause-stands : goal.returns-in_err-run_all-clause-stands
returns-in_err-run_all-clause-stands g c = keeps_same c.args.engine.now c.run_all.new.engine c.in_err-run_all.ensures.err

pub returns-in_err-run_all-clause-of : goal.returns-in_err-run_all-clause-of
returns-in_err-run_all-clause-of g c =
    are_of c.run_all.new.engine.publisher c.run_all.new.readers
    (run_of c.args.asks.now _ c.args.engine.now.publisher c.run_all.new.engine.publisher c.tell_all.new.readers c.run_all.new.readers c.run_all.new.works c.in_err-run_all.ensures.lanes
    (ap (λ (e : EngineContent). e.publisher) c.in_err-run_all.ensures.err) c.tell_all.ensures.of)

pub settle_all-requires-clause-of : goal.settle_all-requires-clause-of
settle_all-requires-clause-of g c =
    run_of c.args.asks.now _ c.args.engine.now.publisher c.run_all.new.engine.publisher c.tell_all.new.readers c.run_all.new.readers c.run_all.new.works c.in_ok-run_all.ensures.lanes
    (where_publisher c.args.pending c.args.engine.now c.run_all.new.engine c.in_ok-run_all.ensures.merged) c.tell_all.ensures.of

pub settle_all-requires-clause-same : goal.settle_all-requires-clause-same
settle_all-requires-clause-same g c = c.in_ok-run_all.ensures.lanes.works_are ∙ sym c.in_ok-run_all.ensures.lanes.readers

pub returns-then-any-clause-stands : goal.returns-then-any-clause-stands
returns-then-any-clause-stands g c = where_stands c.args.pending c.args.engine.now c.run_all.new.engine c.in_ok-run_all.ensures.merged

pub returns-then-any-clause-err : goal.returns-then-any-clause-err
returns-then-any-clause-err g c = inr c.in_ok-run_all.ensures.merged

pub returns-then-any-clause-of : goal.returns-then-any-clause-of
returns-then-any-clause-of g c = are_of c.run_all.new.engine.publisher c.settle_all.new.readers c.settle_all.ensures.of

-- the argument of the whole: what the lanes made counts by what their readers were notified of before and after
pub gather-requires : goal.gather-requires
gather-requires g c =
    all_trusted c.args.asks.now (length c.args.readers.now) c.args.engine.now c.run_all.new.engine
    c.args.readers.now c.tell_all.new.readers c.run_all.new.readers c.settle_all.new.readers c.run_all.new.works c.settle_all.new.works
    (c.settle_all.ensures.settled.works_are ∙ c.in_ok-run_all.ensures.lanes.works_are ∙ c.tell_all.ensures.told.count)
    (where_text c.args.pending c.args.engine.now c.run_all.new.engine c.is_lawful.ensures.ends c.in_ok-run_all.ensures.merged) c.tell_all.ensures.told c.in_ok-run_all.ensures.lanes c.settle_all.ensures.settled

pub returns-clause-answers : goal.returns-clause-answers
returns-clause-answers g c = λ collection stands.
    IfOk-weaker c.gather.result _ _
    (λ answers is. is ∙ over_collection c.args.asks.now c.args.engine.now.version c.run_all.new.engine.version collection
    (where_stands c.args.pending c.args.engine.now c.run_all.new.engine c.in_ok-run_all.ensures.merged) stands)
    c.gather.ensures

pub returns-clause-here : goal.returns-clause-here
returns-clause-here g c = c.gather.ensures

pub returns-clause-merged : goal.returns-clause-merged
returns-clause-merged g c = on_ok _ c.gather.result c.in_ok-run_all.ensures.merged

pub returns-clause-err : goal.returns-clause-err
returns-clause-err g c = on_err _ c.gather.result (inr c.in_ok-run_all.ensures.merged)

pub returns-clause-stands : goal.returns-clause-stands
returns-clause-stands g c = where_stands c.args.pending c.args.engine.now c.run_all.new.engine c.in_ok-run_all.ensures.merged

pub returns-clause-of : goal.returns-clause-of
returns-clause-of g c = are_of c.run_all.new.engine.publisher c.settle_all.new.readers c.settle_all.ensures.of
