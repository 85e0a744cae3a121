use Rattle.grep_run.specs.Requests.{request_of}
use Rattle.grep_run.proofs.ahead.search_ahead.Goals as goal

pub returns-then-gather-clause-held : goal.returns-then-gather-clause-held
returns-then-gather-clause-held g c = λ told all. c.gather.ensures.held told (c.search_all.ensures.held told all)

pub returns-clause-held : goal.returns-clause-held
returns-clause-held g c = λ told all. c.gather.ensures.held told (c.search_all.ensures.held told all)

pub returns-clause-ready : goal.returns-clause-ready
returns-clause-ready g c = λ told all.
    c.gather.ensures.ready told (request_of c.args.wish.now) (c.in_ok-ahead.ensures told (request_of c.args.wish.now)) (c.search_all.ensures.sound told all)
