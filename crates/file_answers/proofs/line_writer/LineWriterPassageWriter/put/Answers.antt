use Rattle.std.proofs.Common.{◌≡◌, List, ◌∷◌, ◌++◌, ◌∙◌, subst, ap, ℕ}
use Rattle.passages.specs.Texts.{text_of_met}
use Rattle.file_answers.proofs.MemberLemmas.{met-none}
use Rattle.passages.specs.Lines.{lines_at, lines_met}
use Rattle.file_answers.proofs.WrittenLemmas.{moves-on, part-on}
use Rattle.file_answers.proofs.WriterLemmas.{lines-put, to_come}
use Rattle.file_answers.proofs.line_writer.LineWriterPassageWriter.put.Goals as goal

pub loop-all-preserved : goal.loop-all-preserved
loop-all-preserved g c =
    let shown = c.args.self.now.shown.now in
    let bytes = c.args.self.now.bytes.now in
    let old = g.K.Sink.written c.args.sink.now in
    let mid = g.K.Sink.written c.loop-all.sink in
    let new = g.K.Sink.written c.hand_over.new.sink in
    record {
      shown = c.loop-all.invariant.shown;
      bytes = c.loop-all.invariant.bytes;
      calm = c.in_ok-hand_over.ensures.counts ∙ c.loop-all.invariant.calm;
      moves = λ later from.
          let ps = c.args.p ∷ later in
          let all = c.args.out.now.items ++ to_come shown bytes ps c.args.self.now.cursor in
          moves-on old mid new all (c.put_lines.new.out.items ++ to_come shown bytes ps c.put_lines.new.cursor) (c.hand_over.new.out.items ++ to_come shown bytes ps c.put_lines.new.cursor)
          (lines-put old mid shown c.loop-all.self.shown.now bytes c.loop-all.self.bytes.now all c.loop-all.out.items c.put_lines.new.out.items c.loop-all.self.cursor c.put_lines.new.cursor ps
          c.loop-all.invariant.shown c.loop-all.invariant.bytes (c.loop-all.invariant.moves later from) (c.in_ok-all.ensures.put later from))
          (c.in_ok-hand_over.ensures.moves (to_come shown bytes ps c.put_lines.new.cursor));
      all = λ is later. subst (λ (y : List ℕ). lines_met (c.args.p ∷ later) (lines_at y c.put_lines.new.cursor) ≡ lines_met later (lines_at y c.put_lines.new.cursor)) c.loop-all.invariant.bytes
          (c.in_ok-all.ensures.all is later);
    }

pub returns-in_err-hand_over-clause-part : goal.returns-in_err-hand_over-clause-part
returns-in_err-hand_over-clause-part g c = λ later from.
    let shown = c.args.self.now.shown.now in
    let bytes = c.args.self.now.bytes.now in
    let old = g.K.Sink.written c.args.sink.now in
    let mid = g.K.Sink.written c.loop-all.sink in
    let new = g.K.Sink.written c.hand_over.new.sink in
    let ps = c.args.p ∷ later in
    let all = c.args.out.now.items ++ to_come shown bytes ps c.args.self.now.cursor in
    part-on old mid new all (c.put_lines.new.out.items ++ to_come shown bytes ps c.put_lines.new.cursor)
    (lines-put old mid shown c.loop-all.self.shown.now bytes c.loop-all.self.bytes.now all c.loop-all.out.items c.put_lines.new.out.items c.loop-all.self.cursor c.put_lines.new.cursor ps
    c.loop-all.invariant.shown c.loop-all.invariant.bytes (c.loop-all.invariant.moves later from) (c.in_ok-all.ensures.put later from))
    (c.in_err-hand_over.ensures.part (to_come shown bytes ps c.put_lines.new.cursor))

pub returns-in_err-all-clause-nothing : goal.returns-in_err-all-clause-nothing
returns-in_err-all-clause-nothing g c = ap (text_of_met c.loop-all.self.shown.now) (met-none (lines_at c.loop-all.self.bytes.now c.put_lines.new.cursor))

pub returns-in_err-hand_over-clause-nothing : goal.returns-in_err-hand_over-clause-nothing
returns-in_err-hand_over-clause-nothing g c = ap (text_of_met c.loop-all.self.shown.now) (met-none (lines_at c.loop-all.self.bytes.now c.put_lines.new.cursor))

pub returns-clause-nothing : goal.returns-clause-nothing
returns-clause-nothing g c = ap (text_of_met c.loop-all.self.shown.now) (met-none (lines_at c.loop-all.self.bytes.now c.loop-all.self.cursor))
