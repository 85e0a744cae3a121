use Rattle.std.proofs.Common.{arith}
use Rattle.term_fingers.proofs.Nearest.{greatest_before, greatest_below}
use Rattle.term_fingers.proofs.members.greatest_in.Goals as goal

pub returns-in_default : goal.returns-in_default
returns-in_default c =
    let next = c.saturating_add.ensures in
    greatest_before c.args.members.now c.count_below-behind.result c.args.k c.saturating_add.result c.requires (λ u small from. omega (arith, small, from, next)) c.count_below-behind.ensures
    (omega (arith, c.in_default.ensures))

pub returns : goal.returns
returns c =
    let next = c.saturating_add.ensures in
    greatest_below c.args.members.now c.count_below-behind.result c.in-Some.at c.args.k c.saturating_add.result c.requires
    (λ u small less. omega (arith, small, less, next)) (λ u small from. omega (arith, small, from, next)) c.count_below-behind.ensures (omega (arith, c.in-Some.ensures.0, c.in-Some.ensures.1))
