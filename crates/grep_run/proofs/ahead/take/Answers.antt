use Rattle.grep_run.specs.Requests.{request_of}
use Rattle.grep_run.proofs.ahead.take.Goals as goal

pub returns-then-not-is_empty-clause-ready : goal.returns-then-not-is_empty-clause-ready
returns-then-not-is_empty-clause-ready g c = λ told all ready. c.next.ensures told (request_of c.args.wish.now) ready

pub returns-clause-ready : goal.returns-clause-ready
returns-clause-ready g c = λ told all ready. c.next-2.ensures told (request_of c.args.wish.now) (c.in_ok-search_ahead.ensures.ready told all)
