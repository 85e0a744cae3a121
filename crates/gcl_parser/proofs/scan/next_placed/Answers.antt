use Rattle.std.proofs.Common.{◌<◌, ◌≤◌, length, arith}
use Rattle.gcl_parser.proofs.Cuts.{next_at, next_from}
use Rattle.gcl_parser.proofs.scan.next_placed.Goals as goal

pub returns-clause-some : goal.returns-clause-some
returns-clause-some c =
    let text = c.args.text.now in
    let at = c.after_blanks-at.result in
    let within : at ≤ length text = c.after_blanks-at.ensures.within in
    let lt : at < length text = omega arith in
    next_from text c.args.from at c.placed_at.result c.after_blanks-at.ensures.later c.after_blanks-at.ensures.same (next_at text at c.placed_at.result lt c.placed_at.ensures)
