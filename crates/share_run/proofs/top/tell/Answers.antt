use Rattle.share_run.specs.Text.{summary}
use Rattle.share_run.proofs.TextLemmas.{no_part}
use Rattle.share_run.proofs.top.tell.Goals as goal

pub returns-then-not-done-clause-part : goal.returns-then-not-done-clause-part
returns-then-not-done-clause-part g c = no_part (g.K.Sink.written c.args.sink.now) (summary c.args.editors c.args.closed.now)
