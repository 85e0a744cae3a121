use Rattle.std.proofs.Common.{ap}
use Rattle.passages.specs.Lines.{lines_at}
use Rattle.passages.specs.Texts.{text_of_met}
use Rattle.file_answers.proofs.MemberLemmas.{met-none}
use Rattle.file_answers.proofs.whole.write_file.Goals as goal

pub write_passages-requires-clause-nothing : goal.write_passages-requires-clause-nothing
write_passages-requires-clause-nothing g c =
    let writer = c.new-writer.result in
    ap (text_of_met writer.shown.now) (met-none (lines_at writer.bytes.now writer.cursor))
