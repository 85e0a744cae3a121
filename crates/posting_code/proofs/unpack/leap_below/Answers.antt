use Rattle.std.proofs.Common.{refl, arith}
use Rattle.posting_code.proofs.Runs.{pass_starts, pass_left, pass_more}
use Rattle.posting_code.proofs.unpack.leap_below.Goals as goal

pub loop-stop-init : goal.loop-stop-init
loop-stop-init c = record { passed = pass_starts _ _ _ _ _ c.requires.can refl refl; within = λ within. within; few = omega arith; below = λ some. absurd (omega (arith, some)) }

pub pass_seven-member-requires-clause-enough : goal.pass_seven-member-requires-clause-enough
pass_seven-member-requires-clause-enough c =
    let left = pass_left _ _ _ _ _ _ c.loop-stop.invariant.passed in
    let enough = c.requires.enough in
    omega (arith, left, enough, c.loop-stop-test.true)

pub loop-stop-preserved : goal.loop-stop-preserved
loop-stop-preserved c =
    let next = c.pass_seven-member.ensures in
    record {
      passed = pass_more _ _ _ _ _ _ 7 _ _ _ c.loop-stop.invariant.passed next.rest next.can refl;
      within = λ within. next.within (c.loop-stop.invariant.within within);
      few = omega (arith, c.loop-stop-test.true);
      below = λ some. omega (arith, c.if-k-member.false);
    }
