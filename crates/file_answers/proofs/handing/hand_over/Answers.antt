use Rattle.std.proofs.Common.{◌++◌}
use Rattle.file_answers.proofs.WrittenLemmas.{moves-nothing, part-of}
use Rattle.file_answers.proofs.handing.hand_over.Goals as goal

pub returns-then-len-lt-PIECE-clause-part : goal.returns-then-len-lt-PIECE-clause-part
returns-then-len-lt-PIECE-clause-part g c = λ more.
    let w = g.K.Sink.written c.args.sink.now in
    part-of w w (c.args.out.now.items ++ more) (c.args.out.now.items ++ more) (moves-nothing w (c.args.out.now.items ++ more))
