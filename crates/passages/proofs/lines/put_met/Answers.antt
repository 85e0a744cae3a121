use Rattle.std.proofs.Common.{◌∙◌, ◌≤◌, arith}
use Rattle.script_lang.specs.Lines.{line_end}
use Rattle.passages.proofs.LineLemmas.{print-next}
use Rattle.passages.proofs.lines.put_met.Goals as goal

pub returns-then-len-ge-PIECE-clause-put : goal.returns-then-len-ge-PIECE-clause-put
returns-then-len-ge-PIECE-clause-put c = λ later.
    let reached : c.args.p.from ≤ c.line_end-end.result = omega (arith, c.loop-cursor.invariant.reached, c.line_end-end.ensures.value) in
    c.loop-cursor.invariant.put later ∙ print-next c.args.shown.now c.args.bytes.now c.loop-cursor.cursor.at c.loop-cursor.cursor.number c.line_end-end.result c.min-cursor.result c.args.p later
    c.loop-cursor.out.items c.put_line.new.out.items (omega arith) (omega arith) c.line_end-end.ensures.value c.line_end-end.ensures.bound c.requires.some reached c.min-cursor.ensures c.in_ok-put_line.ensures

pub loop-cursor-preserved : goal.loop-cursor-preserved
loop-cursor-preserved c =
    let reached : c.args.p.from ≤ c.line_end-end.result = omega (arith, c.loop-cursor.invariant.reached, c.line_end-end.ensures.value) in
    record {
      start = record { within = omega arith; few = omega arith };
      forward = omega arith;
      reached = omega arith;
      put = λ later. c.loop-cursor.invariant.put later ∙ print-next c.args.shown.now c.args.bytes.now c.loop-cursor.cursor.at c.loop-cursor.cursor.number c.line_end-end.result c.min-cursor.result c.args.p later
          c.loop-cursor.out.items c.put_line.new.out.items (omega arith) (omega arith) c.line_end-end.ensures.value c.line_end-end.ensures.bound c.requires.some reached c.min-cursor.ensures c.in_ok-put_line.ensures;
    }
