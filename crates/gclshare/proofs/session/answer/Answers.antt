use Rattle.std.proofs.Common.{sym, ◌∙◌}
use Rattle.share_run.specs.Words.{options_of}
use Rattle.gclshare.proofs.Ends.{done_at_0, told}
use Rattle.gclshare.proofs.session.answer.Goals as goal

pub returns-clause-done : goal.returns-clause-done
returns-clause-done g c = λ zero.
    let s = c.share-status.ensures in
    let done = done_at_0 c.share-status.result.status (sym c.exit.ensures ∙ zero) in
    told (options_of c.args.words.now) c.share-status.result.closed (g.K.Sink.written c.args.sink.now) (g.K.Sink.written c.share-status.new.sink) (s.done done) (s.shared done) s.closed
