use Rattle.std.proofs.Common.{◌++◌, ap}
use Rattle.std.proofs.Common.{take}
use Rattle.gcl_model.specs.FormOf.{form_of}
use Rattle.gcl_model.specs.Meaning.{concordance}
use Rattle.file_answers.specs.Searched.{passages_of}
use Rattle.file_answers.proofs.WrittenLemmas.{part-as, part-on}
use Rattle.file_answers.proofs.whole.write_passages.Goals as goal

pub returns-in_err-finish-clause-part : goal.returns-in_err-finish-clause-part
returns-in_err-finish-clause-part g c =
    let text = g.W.PassageWriter.text c.args.writer (passages_of c.args.bytes.now (take c.args.asking.now.most (concordance (g.L.Leaves.text c.args.leaves.now) (form_of c.args.asking.now.expr.now)))) in
    let old = g.K.Sink.written c.args.sink.now in
    let mid = g.K.Sink.written c.put_answers.new.sink in
    let new = g.K.Sink.written c.finish.new.sink in
    part-as old new (c.args.out.now.items ++ text) text (ap (λ l. l ++ text) c.requires.empty)
    (part-on old mid new (c.args.out.now.items ++ text) c.put_answers.new.out.items c.in_ok-count.ensures.moves c.in_err-finish.ensures.part)

pub returns-clause-part : goal.returns-clause-part
returns-clause-part g c =
    let text = g.W.PassageWriter.text c.args.writer (passages_of c.args.bytes.now (take c.args.asking.now.most (concordance (g.L.Leaves.text c.args.leaves.now) (form_of c.args.asking.now.expr.now)))) in
    let old = g.K.Sink.written c.args.sink.now in
    let mid = g.K.Sink.written c.put_answers.new.sink in
    let new = g.K.Sink.written c.finish.new.sink in
    part-as old new (c.args.out.now.items ++ text) text (ap (λ l. l ++ text) c.requires.empty)
    (part-on old mid new (c.args.out.now.items ++ text) c.put_answers.new.out.items c.in_ok-count.ensures.moves c.in_ok-finish.ensures.part)
