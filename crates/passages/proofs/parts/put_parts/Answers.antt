use Rattle.std.proofs.Common.{◌∙◌, sym, arith}
use Rattle.passages.proofs.PartLemmas.{put-last, put-more}
use Rattle.passages.proofs.parts.put_parts.Goals as goal

pub returns-then-cursor-to-clause-all : goal.returns-then-cursor-to-clause-all
returns-then-cursor-to-clause-all c = λ _.
    sym (c.loop-cursor.invariant.put ∙ put-last c.args.shown.now c.args.bytes.now c.loop-cursor.cursor.at c.line_end-end.result c.loop-cursor.cursor.number c.loop-cursor.cursor.mark c.args.to
    c.loop-cursor.out.items c.put_line.new.out.items c.requires.within c.loop-cursor.invariant.start.before c.line_end-end.ensures.value (omega arith) c.in_ok-put_line.ensures)

pub returns-then-len-ge-PIECE-clause-some : goal.returns-then-len-ge-PIECE-clause-some
returns-then-len-ge-PIECE-clause-some c = λ _.
    c.loop-cursor.invariant.put ∙ put-more c.args.shown.now c.args.bytes.now c.loop-cursor.cursor.at c.line_end-end.result c.min-cursor.result c.loop-cursor.cursor.number c.loop-cursor.cursor.mark c.args.to
    c.loop-cursor.out.items c.put_line.new.out.items c.requires.within c.loop-cursor.invariant.start.before c.line_end-end.ensures.value c.min-cursor.ensures c.if-cursor-to.false c.in_ok-put_line.ensures

pub loop-cursor-preserved : goal.loop-cursor-preserved
loop-cursor-preserved c = record {
  start = record { before = omega arith; few = omega arith };
  forward = omega arith;
  put = c.loop-cursor.invariant.put ∙ put-more c.args.shown.now c.args.bytes.now c.loop-cursor.cursor.at c.line_end-end.result c.min-cursor.result c.loop-cursor.cursor.number c.loop-cursor.cursor.mark c.args.to
      c.loop-cursor.out.items c.put_line.new.out.items c.requires.within c.loop-cursor.invariant.start.before c.line_end-end.ensures.value c.min-cursor.ensures c.if-cursor-to.false c.in_ok-put_line.ensures;
}
