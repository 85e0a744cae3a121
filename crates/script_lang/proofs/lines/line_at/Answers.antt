use Rattle.std.proofs.Common.{◌-◌, drop, arith, length-take}
use Rattle.script_lang.proofs.LineLemmas.{lines-long, lines-short}
use Rattle.script_lang.proofs.lines.line_at.Goals as goal

pub returns-then-end-at-clause-line : goal.returns-then-end-at-clause-line
returns-then-end-at-clause-line c =
    lines-long c.args.bytes.now c.args.at c.args.most c.line_end-end.result c.min-after.result (omega arith)
    c.line_end-end.ensures.value c.line_end-end.ensures.bound c.if-end-at.true c.min-after.ensures

pub returns-clause-line : goal.returns-clause-line
returns-clause-line c =
    lines-short c.args.bytes.now c.args.at c.args.most c.line_end-end.result c.text_len.result c.front_blanks.result c.min-after.result (omega arith)
    c.line_end-end.ensures.value c.line_end-end.ensures.bound c.if-end-at.false
    (omega (arith, c.text_len.ensures.bound, length-take (c.line_end-end.result - c.args.at) (drop c.args.at c.args.bytes.now)))
    c.text_len.ensures.value c.front_blanks.ensures.value c.min-after.ensures
