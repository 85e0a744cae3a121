use Rattle.std.proofs.Common.{◌≡◌, ◌∷◌, drop, refl, sym, ap, ◌∙◌, arith}
use Rattle.posting_code.specs.Packed.{members_behind}
use Rattle.posting_code.proofs.Runs.{pass_starts, pass_left, pass_goes}
use Rattle.posting_code.proofs.unpack.pass_each.Goals as goal

pub loop-step-init : goal.loop-step-init
loop-step-init c = record { passed = pass_starts _ _ _ _ _ c.requires.can refl refl; within = λ within. within }

pub mixed_member-next-requires : goal.mixed_member-next-requires
mixed_member-next-requires c =
    let left = pass_left _ _ _ _ _ _ c.loop-step.invariant.passed in
    let enough = c.requires.enough in
    record { can = c.loop-step.invariant.passed.can; some = omega (arith, left, enough, c.loop-step-test.true) }

pub loop-step-preserved : goal.loop-step-preserved
loop-step-preserved c =
    let next = c.mixed_member-next.ensures in
    record { passed = pass_goes _ _ _ _ _ _ _ _ c.loop-step.invariant.passed next.next next.can; within = λ within. next.within (c.loop-step.invariant.within within) }

pub returns-clause-rest : goal.returns-clause-rest
returns-clause-rest c =
    let all : c.loop-step.step ≡ c.args.steps = omega (arith, c.loop-step-test.false, c.loop-step.auto.step-end) in
    let members = c.args.head.first ∷ members_behind c.args.packed.now c.args.head.first c.args.head.at in
    ap (λ n. drop n members) (sym all) ∙ c.loop-step.invariant.passed.rest
