use Rattle.grep_run.specs.Definitions.{defined_by_all}
use Rattle.grep_run.proofs.DefineLemmas.{stops_first}
use Rattle.grep_run.proofs.running.define_both.Goals as goal

pub returns-in-Err-clause-cause : goal.returns-in-Err-clause-cause
returns-in-Err-clause-cause g c =
    stops_first (λ d. defined_by_all d c.args.more.now) (defined_by_all c.args.definitions.now c.args.texts.now) c.in-Err.stop c.in-Err.ensures.cause
