use Rattle.std.proofs.Common.{◌≡◌, ◌+◌, ◌-◌, refl, arith}
use Rattle.posting_code.proofs.Runs.{pass_starts, pass_left, pass_more}
use Rattle.posting_code.proofs.unpack.walk.Goals as goal

pub loop-left-init : goal.loop-left-init
loop-left-init c =
    record { passed = pass_starts _ _ _ _ _ c.requires.can (omega arith) refl; within = c.requires.within; few = omega arith }

pub pass_seven-member-requires : goal.pass_seven-member-requires
pass_seven-member-requires c =
    let left = pass_left _ _ _ _ _ _ c.loop-left.invariant.passed in
    let enough = c.requires.enough in
    let few = c.loop-left.invariant.few in
    record { can = c.loop-left.invariant.passed.can; enough = omega (arith, left, enough, few, c.loop-left-test.true) }

pub loop-left-preserved : goal.loop-left-preserved
loop-left-preserved c =
    let next = c.pass_seven-member.ensures in
    let few = c.loop-left.invariant.few in
    record {
      passed = pass_more _ _ _ _ _ _ 7 _ _ _ c.loop-left.invariant.passed next.rest next.can (omega (arith, few, c.loop-left-test.true));
      within = next.within c.loop-left.invariant.within;
      few = omega (arith, few);
    }

pub pass_each-requires : goal.pass_each-requires
pass_each-requires c =
    let left = pass_left _ _ _ _ _ _ c.loop-left.invariant.passed in
    let enough = c.requires.enough in
    let few = c.loop-left.invariant.few in
    record { can = c.loop-left.invariant.passed.can; enough = omega (arith, left, enough, few) }

pub returns : goal.returns
returns c =
    let next = c.pass_each.ensures in
    let few = c.loop-left.invariant.few in
    let all : c.args.steps ≡ c.args.steps - c.loop-left.left + c.loop-left.left = omega (arith, few) in
    let passed = pass_more _ _ _ _ _ _ _ _ _ _ c.loop-left.invariant.passed next.rest next.can all in
    record { rest = passed.rest; can = passed.can; within = next.within c.loop-left.invariant.within }
