use Rattle.std.proofs.Common.{◌≡◌, ◌-◌, ◌<◌, get_or, subst, arith}
use Rattle.term_fingers.proofs.Nearest.{ends_soon}
use Rattle.term_fingers.proofs.members.soon.Goals as goal

pub below_in_four-requires-clause-ends : goal.below_in_four-requires-clause-ends
below_in_four-requires-clause-ends c =
    let xs = c.args.members.now in
    let back : c.in_ok-before.before ≡ c.args.hint - 1 = omega (arith, c.in_ok-before.ensures) in
    ends_soon xs c.args.k c.args.hint c.requires
    (subst (λ i. get_or xs i 0 < c.args.k) back (omega (arith, c.if-k-members.false)))
    (omega (arith, c.if-members-hint.false))
