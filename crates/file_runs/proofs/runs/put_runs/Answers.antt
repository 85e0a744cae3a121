use Rattle.file_runs.proofs.Parts.{next_run}
use Rattle.file_runs.proofs.runs.put_runs.Goals as goal

pub put_run-requires : goal.put_run-requires
put_run-requires c =
    next_run c.args.into.now.items c.args.runs.now c.loop-run.into.items c.loop-run.run-index c.run-item.result c.requires c.loop-run-test.true c.run-item.is c.loop-run.invariant.files
