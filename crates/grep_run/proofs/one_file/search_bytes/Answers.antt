use Rattle.file_answers.proofs.WrittenLemmas.{moves-nothing, part-of}
use Rattle.grep_run.proofs.one_file.search_bytes.Goals as goal

pub returns-in_err-expr-clause-part : goal.returns-in_err-expr-clause-part
returns-in_err-expr-clause-part g c = part-of _ _ _ _ (moves-nothing (g.K.Sink.written c.args.sink.now) _)
