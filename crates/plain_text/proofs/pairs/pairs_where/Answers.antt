use Rattle.plain_text.proofs.Rows.{rows_put, rows}
use Rattle.plain_text.proofs.pairs.pairs_where.Goals as goal

pub loop-start-preserved : goal.loop-start-preserved
loop-start-preserved g c =
    let test = g.T.PairTest.test c.args.test.now in
    rows_put test c.loop-start.start c.args.span.next c.loop-start.list c.push_from.new.list (rows test c.args.span.first c.args.span.next) c.loop-start-test.true c.in_ok-push_from.ensures c.loop-start.invariant
