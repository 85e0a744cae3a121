use Rattle.file_answers.proofs.WrittenLemmas.{moves-nothing, part-of}
use Rattle.file_answers.proofs.whole.write_count.Goals as goal

pub returns-in_err-count-clause-part : goal.returns-in_err-count-clause-part
returns-in_err-count-clause-part g c = part-of _ _ _ _ (moves-nothing (g.K.Sink.written c.args.sink.now) _)

pub returns-in_err-put_count-clause-part : goal.returns-in_err-put_count-clause-part
returns-in_err-put_count-clause-part g c = part-of _ _ _ _ (moves-nothing (g.K.Sink.written c.args.sink.now) _)
