use Rattle.std.proofs.Common.{[], ◌++◌, ◌∙◌, refl, ap, Bool, cond}
use Rattle.passages.specs.Texts.{answers_text, parts_at}
use Rattle.file_answers.proofs.WrittenLemmas.{moves-as, moves-on, part-as, part-on}
use Rattle.file_answers.proofs.WriterLemmas.{parts-put}
use Rattle.file_answers.proofs.part_writer.PartWriterPassageWriter.put.Goals as goal

pub loop-all-preserved : goal.loop-all-preserved
loop-all-preserved g c =
    let shown = c.args.self.now.shown.now in
    let bytes = c.args.self.now.bytes.now in
    let old = g.K.Sink.written c.args.sink.now in
    let mid = g.K.Sink.written c.loop-all.sink in
    let new = g.K.Sink.written c.hand_over.new.sink in
    let to = c.args.p.to in
    let first = parts_at shown bytes c.begin_parts-cursor.result to in
    let text = parts_at shown bytes c.loop-all.cursor to in
    let left = parts_at shown bytes c.put_parts.new.cursor to in
    record {
      start = c.in_ok-all.ensures.start;
      calm = c.in_ok-hand_over.ensures.counts ∙ c.loop-all.invariant.calm;
      moves = λ more.
          let rest = cond c.in_ok-all.all [] left ++ more in
          let here = ap (λ (b : Bool). c.loop-all.out.items ++ (cond b [] text ++ more)) c.loop-all-test.true
          ∙ parts-put c.in_ok-all.all c.loop-all.out.items c.put_parts.new.out.items text left more c.in_ok-all.ensures.all c.in_ok-all.ensures.some in
          moves-on old mid new (c.args.out.now.items ++ (first ++ more)) (c.put_parts.new.out.items ++ rest) (c.hand_over.new.out.items ++ rest)
          (moves-as old mid (c.args.out.now.items ++ (first ++ more)) (c.args.out.now.items ++ (first ++ more)) (c.loop-all.out.items ++ (cond c.loop-all.all [] text ++ more)) (c.put_parts.new.out.items ++ rest)
          refl here (c.loop-all.invariant.moves more))
          (c.in_ok-hand_over.ensures.moves rest);
    }

pub returns-in_err-hand_over-clause-part : goal.returns-in_err-hand_over-clause-part
returns-in_err-hand_over-clause-part g c = λ later from.
    let shown = c.args.self.now.shown.now in
    let bytes = c.args.self.now.bytes.now in
    let old = g.K.Sink.written c.args.sink.now in
    let mid = g.K.Sink.written c.loop-all.sink in
    let new = g.K.Sink.written c.hand_over.new.sink in
    let to = c.args.p.to in
    let first = parts_at shown bytes c.begin_parts-cursor.result to in
    let text = parts_at shown bytes c.loop-all.cursor to in
    let left = parts_at shown bytes c.put_parts.new.cursor to in
    let more = answers_text shown bytes later in
    let rest = cond c.in_ok-all.all [] left ++ more in
    let here = ap (λ (b : Bool). c.loop-all.out.items ++ (cond b [] text ++ more)) c.loop-all-test.true
    ∙ parts-put c.in_ok-all.all c.loop-all.out.items c.put_parts.new.out.items text left more c.in_ok-all.ensures.all c.in_ok-all.ensures.some in
    part-as old new (c.args.out.now.items ++ (first ++ more)) _ (ap (λ t. c.args.out.now.items ++ (t ++ more)) (c.begin_parts-cursor.ensures.text shown))
    (part-on old mid new (c.args.out.now.items ++ (first ++ more)) (c.put_parts.new.out.items ++ rest)
    (moves-as old mid (c.args.out.now.items ++ (first ++ more)) (c.args.out.now.items ++ (first ++ more)) (c.loop-all.out.items ++ (cond c.loop-all.all [] text ++ more)) (c.put_parts.new.out.items ++ rest)
    refl here (c.loop-all.invariant.moves more))
    (c.in_err-hand_over.ensures.part rest))
