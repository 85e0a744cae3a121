use Rattle.std.proofs.Common.{◌≡◌, ◌∷◌, length-drop, length, take, ap, sym, ◌∙◌, arith}
use Rattle.posting_code.specs.Packed.{last_of, members_behind}
use Rattle.posting_code.proofs.Unpacking.{take_next}
use Rattle.posting_code.proofs.Cuts.{stretch}
use Rattle.posting_code.proofs.Runs.{first_or_below}
use Rattle.posting_code.proofs.unpack.cut_before.Goals as goal

pub loop-steps-init : goal.loop-steps-init
loop-steps-init c =
    let stop = c.leap_below-stop.ensures in
    record { stands = record { can = stop.can; within = stop.within c.requires.within; is = stop.rest }; below = first_or_below c.args.packed.now c.args.first.first c.args.first.at c.args.k _ _ _ stop.rest stop.below c.requires.below }

pub mixed_member-next-requires-clause-some : goal.mixed_member-next-requires-clause-some
mixed_member-next-requires-clause-some c =
    let long = length-drop c.loop-steps.steps (c.args.first.first ∷ members_behind c.args.packed.now c.args.first.first c.args.first.at) in
    let parts = ap length c.loop-steps.invariant.stands.is in
    let enough = c.requires.enough in
    omega (arith, long, parts, enough, c.loop-steps-test.true)

pub returns-then-k-next-clause-cut : goal.returns-then-k-next-clause-cut
returns-then-k-next-clause-cut c =
    let all = c.args.first.first ∷ members_behind c.args.packed.now c.args.first.first c.args.first.at in
    record {
      before = c.loop-steps.invariant.stands;
      behind = record {
        can = c.mixed_member-next.ensures.can;
        within = c.mixed_member-next.ensures.within c.loop-steps.invariant.stands.within;
        is = (take_next c.loop-steps.steps all _ _ c.loop-steps.invariant.stands.is).1 ∙ c.mixed_member-next.ensures.next;
      };
    }

pub loop-steps-preserved : goal.loop-steps-preserved
loop-steps-preserved c =
    let all = c.args.first.first ∷ members_behind c.args.packed.now c.args.first.first c.args.first.at in
    record {
      stands = record {
        can = c.mixed_member-next.ensures.can;
        within = c.mixed_member-next.ensures.within c.loop-steps.invariant.stands.within;
        is = (take_next c.loop-steps.steps all _ _ c.loop-steps.invariant.stands.is).1 ∙ c.mixed_member-next.ensures.next;
      };
      below = omega (arith, c.if-k-next.false);
    }

pub returns-clause-none : goal.returns-clause-none
returns-clause-none c = λ is.
    let first = c.args.first in
    let ms = members_behind c.args.packed.now first.first first.at in
    let all : c.loop-steps.steps ≡ c.args.behind = omega (arith, c.loop-steps-test.false, c.loop-steps.auto.steps-end) in
    let end = (stretch c.args.packed.now c.loop-steps.steps first c.loop-steps.before c.requires.can c.requires.within c.loop-steps.invariant.stands).last in
    let last : last_of (first.first ∷ take c.args.behind ms) ≡ c.loop-steps.before.first = ap (λ n. last_of (first.first ∷ take n ms)) (sym all) ∙ end in
    let below = c.loop-steps.invariant.below in
    omega (arith, last, below)
