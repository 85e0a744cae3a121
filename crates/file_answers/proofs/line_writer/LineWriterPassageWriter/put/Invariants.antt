use Rattle.std.proofs.Common.{◌≡◌, List, ◌∷◌, ◌++◌, length, ◌+◌, ◌-◌, true, cond}
use Rattle.passages.specs.Lines.{lines_at, lines_met}
use Rattle.passages.specs.Order.{BeginFrom}
use Rattle.passages.specs.Texts.{text_of_met}
use Rattle.passages.specs.declared.passage.Passage.{Passage}
use Rattle.file_answers.specs.Written.{Moves}
use Rattle.file_answers.proofs.line_writer.LineWriterPassageWriter.put.Given as goal

abbrev pub invariant-loop-all : goal.invariant-loop-all
invariant-loop-all g l = record {
  shown : l.self.shown.now ≡ l.initial.self.shown.now;
  bytes : l.self.bytes.now ≡ l.initial.self.bytes.now;
  calm : g.K.Sink.faults l.sink ≡ g.K.Sink.faults l.initial.sink;
  moves : (later : List Passage) → BeginFrom l.p.from later → Moves (g.K.Sink.written l.initial.sink) (g.K.Sink.written l.sink)
      (l.initial.out.items ++ text_of_met l.initial.self.shown.now (lines_met (l.p ∷ later) (lines_at l.initial.self.bytes.now l.initial.self.cursor)))
      (l.out.items ++ text_of_met l.initial.self.shown.now (lines_met (l.p ∷ later) (lines_at l.initial.self.bytes.now l.self.cursor)));
  all : l.all ≡ true → (later : List Passage) → lines_met (l.p ∷ later) (lines_at l.initial.self.bytes.now l.self.cursor) ≡ lines_met later (lines_at l.initial.self.bytes.now l.self.cursor);
}

abbrev pub decreases-loop-all : goal.decreases-loop-all
decreases-loop-all g l = cond l.all 0 (1 + (length l.self.bytes.now - l.self.cursor.at))
