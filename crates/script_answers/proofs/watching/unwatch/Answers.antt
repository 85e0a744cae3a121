use Rattle.script_answers.proofs.WatchReplies.{no_watch, unwatched}
use Rattle.script_answers.proofs.watching.unwatch.Goals as goal

pub returns-in-Ok-clause-is : goal.returns-in-Ok-clause-is
returns-in-Ok-clause-is c = λ state watching. unwatched state c.args.watches.now c.remove.new.self c.args.number watching c.in-Ok.ensures.found c.in-Ok.ensures.ok

pub returns-in-Err-clause-is : goal.returns-in-Err-clause-is
returns-in-Err-clause-is c = λ state watching. no_watch state c.args.watches.now c.remove.new.self c.args.number watching c.in-Err.ensures.none.1 c.in-Err.ensures.err
