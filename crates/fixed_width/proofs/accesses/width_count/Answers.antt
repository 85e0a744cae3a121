use Rattle.std.proofs.Common.{◌≡◌, ◌≤◌, arith}
use Rattle.fixed_width.proofs.Widths.{width_counted}
use Rattle.fixed_width.proofs.accesses.width_count.Goals as goal

pub returns : goal.returns
returns c text is =
    let p : text.first ≡ c.args.span.first = is.first_is in
    let q : text.next ≡ c.args.span.next = is.next_is in
    let ordered : c.args.span.first ≤ c.args.span.next = c.args.span.ordered in
    let count = c.saturating_sub.ensures in
    width_counted text c.args.n c.saturating_sub.result c.requires.some (omega (arith, count)) (omega arith)
