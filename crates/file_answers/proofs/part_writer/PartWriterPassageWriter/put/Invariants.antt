use Rattle.std.proofs.Common.{◌≡◌, ℕ, List, [], ◌++◌, ◌+◌, ◌-◌, false, cond}
use Rattle.passages.specs.Order.{IsPartStart}
use Rattle.passages.specs.Texts.{parts_at}
use Rattle.file_answers.specs.Written.{Moves}
use Rattle.file_answers.proofs.part_writer.PartWriterPassageWriter.put.Given as goal

abbrev pub invariant-loop-all : goal.invariant-loop-all
invariant-loop-all g l = record {
  start : l.all ≡ false → IsPartStart l.p.to l.cursor;
  calm : g.K.Sink.faults l.sink ≡ g.K.Sink.faults l.initial.sink;
  moves : (more : List ℕ) → Moves (g.K.Sink.written l.initial.sink) (g.K.Sink.written l.sink)
      (l.initial.out.items ++ (parts_at l.self.shown.now l.self.bytes.now l.initial.cursor l.p.to ++ more))
      (l.out.items ++ (cond l.all [] (parts_at l.self.shown.now l.self.bytes.now l.cursor l.p.to) ++ more));
}

abbrev pub decreases-loop-all : goal.decreases-loop-all
decreases-loop-all g l = cond l.all 0 (1 + (l.p.to - l.cursor.at))
