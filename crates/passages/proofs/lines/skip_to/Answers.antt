use Rattle.std.proofs.Common.{◌∙◌, arith}
use Rattle.passages.proofs.LineLemmas.{skip-next}
use Rattle.passages.proofs.lines.skip_to.Goals as goal

pub loop-cursor-preserved : goal.loop-cursor-preserved
loop-cursor-preserved c = record {
  start = record { within = omega arith; few = omega arith };
  forward = omega arith;
  same = λ ps from. c.loop-cursor.invariant.same ps from ∙ skip-next c.args.bytes.now c.loop-cursor.cursor.at c.loop-cursor.cursor.number c.line_end-end.result c.args.place ps
      c.line_end-end.ensures.value (omega arith) (omega arith) (omega arith) from;
}
