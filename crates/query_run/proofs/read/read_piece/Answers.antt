use Rattle.std.proofs.Common.{◌-◌, ◌+◌, arith, refl}
use Rattle.query_run.proofs.Pieces.{feeds_front, feeds_none, front_fits, front_within, least, still, takes_front}
use Rattle.query_run.proofs.read.read_piece.Goals as goal

pub slice_bounds-piece-end : goal.slice_bounds-piece-end
slice_bounds-piece-end g c = least c.min-room.result (c.args.most - c.args.read.now + 1) 65536 c.min-room.ensures

pub slice_bounds-piece-end-2 : goal.slice_bounds-piece-end-2
slice_bounds-piece-end-2 g c = front_fits c.in_ok-count.count c.read.new.into _ c.in_ok-count.ensures.bound.0

pub slice_bounds-push-end : goal.slice_bounds-push-end
slice_bounds-push-end g c = front_within c.in_ok-count.count c.read.new.into _ c.in_ok-count.ensures.bound.0

pub returns-then-count-eq0-clause-fed : goal.returns-then-count-eq0-clause-fed
returns-then-count-eq0-clause-fed g c = feeds_none c.in_ok-count.count c.args.read.now c.read.new.into c.args.feed.now (g.S.Source.left c.args.source.now) (g.S.Source.left c.read.new.self) c.if-count-eq0.true c.in_ok-count.ensures.bytes.0

pub returns-then-count-eq0-clause-took : goal.returns-then-count-eq0-clause-took
returns-then-count-eq0-clause-took g c = λ short. takes_front c.in_ok-count.count (c.args.most - c.args.read.now) c.read.new.into (g.S.Source.left c.args.source.now) (g.S.Source.left c.read.new.self) c.in_ok-count.ensures.bound.0 (omega (arith, c.if-count-eq0.true)) c.in_ok-count.ensures.bytes.0

pub returns-then-count-eq0-clause-faults : goal.returns-then-count-eq0-clause-faults
returns-then-count-eq0-clause-faults g c = still (g.S.Source.faults c.args.source.now) (g.S.Source.faults c.read.new.self) c.in_ok-count.ensures.counts (λ of. cc of)

pub returns-then-count-left-clause-took : goal.returns-then-count-left-clause-took
returns-then-count-left-clause-took g c = λ short. absurd (short refl)

pub returns-then-count-left-clause-faults : goal.returns-then-count-left-clause-faults
returns-then-count-left-clause-faults g c = still (g.S.Source.faults c.args.source.now) (g.S.Source.faults c.read.new.self) c.in_ok-count.ensures.counts (λ of. cc of)

pub returns-clause-fed : goal.returns-clause-fed
returns-clause-fed g c = feeds_front c.in_ok-count.count c.args.read.now c.read.new.into _ c.args.feed.now c.push.new.self (g.S.Source.left c.args.source.now) (g.S.Source.left c.read.new.self) c.in_ok-count.ensures.bound.0 c.in_ok-count.ensures.bytes.0 c.in_ok-push.ensures.lines c.push.ensures.bound c.push.ensures.most

pub returns-clause-took : goal.returns-clause-took
returns-clause-took g c = λ short. takes_front c.in_ok-count.count (c.args.most - c.args.read.now) c.read.new.into (g.S.Source.left c.args.source.now) (g.S.Source.left c.read.new.self) c.in_ok-count.ensures.bound.0 c.if-count-left.false c.in_ok-count.ensures.bytes.0

pub returns-clause-faults : goal.returns-clause-faults
returns-clause-faults g c = still (g.S.Source.faults c.args.source.now) (g.S.Source.faults c.read.new.self) c.in_ok-count.ensures.counts (λ of. cc of)
