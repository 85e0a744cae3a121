use Rattle.std.proofs.Common.{◌≡◌, ◌-◌, ◌∷◌, drop, refl, sym, ap, ◌∙◌, subst, arith}
use Rattle.posting_code.specs.Numbers.{IsNumberAt}
use Rattle.posting_code.specs.Packed.{StandsAt, members_behind}
use Rattle.posting_code.proofs.Ends.{before_stands, read_before}
use Rattle.posting_code.proofs.unpack.member_before.Goals as goal

pub start_of-at-requires-clause-step : goal.start_of-at-requires-clause-step
start_of-at-requires-clause-step c =
    let before = before_stands c.args.packed.now c.requires.next.0 c.args.first c.args.next c.requires.can c.requires.within c.requires.next.1 in
    (before.1, before.2.step)

pub overflow_sub-result : goal.overflow_sub-result
overflow_sub-result c =
    let before = before_stands c.args.packed.now c.requires.next.0 c.args.first c.args.next c.requires.can c.requires.within c.requires.next.1 in
    let at = c.start_of-at.ensures before.1 before.2.step in
    let value = read_before c.args.packed.now c.requires.next.0 c.args.first c.args.next before.0 before.1 c.in-Some.number.value c.in-Some.number.after before.2
    (subst (λ n. IsNumberAt c.args.packed.now n c.in-Some.number.value c.in-Some.number.after) at c.in-Some.ensures.some) in
    omega (arith, value)

pub unreachable-requires : goal.unreachable-requires
unreachable-requires c =
    let before = before_stands c.args.packed.now c.requires.next.0 c.args.first c.args.next c.requires.can c.requires.within c.requires.next.1 in
    let at = c.start_of-at.ensures before.1 before.2.step in
    c.in-None.ensures.none.0 refl (c.args.next.first - before.0) (drop c.args.next.at c.args.packed.now) before.2.small (ap (λ n. drop n c.args.packed.now) at ∙ before.2.spelled)

pub returns : goal.returns
returns c = λ steps stands.
    let all = c.args.first.first ∷ members_behind c.args.packed.now c.args.first.first c.args.first.at in
    let before = before_stands c.args.packed.now steps c.args.first c.args.next c.requires.can c.requires.within stands in
    let at = c.start_of-at.ensures before.1 before.2.step in
    let value = read_before c.args.packed.now steps c.args.first c.args.next before.0 before.1 c.in-Some.number.value c.in-Some.number.after before.2
    (subst (λ n. IsNumberAt c.args.packed.now n c.in-Some.number.value c.in-Some.number.after) at c.in-Some.ensures.some) in
    let below = before.2.below in
    let member : before.0 ≡ c.args.next.first - c.in-Some.number.value = omega (arith, value, below) in
    subst (λ n. StandsAt all c.args.packed.now steps record { first = c.args.next.first - c.in-Some.number.value; at = n }) (sym at)
    (subst (λ m. StandsAt all c.args.packed.now steps record { first = m; at = before.1 }) member before.2.stands)
