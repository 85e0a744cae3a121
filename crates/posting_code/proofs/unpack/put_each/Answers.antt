use Rattle.std.proofs.Common.{◌≡◌, ◌+◌, ◌++◌, take, drop, refl, sym, ap, ◌∙◌, arith}
use Rattle.posting_code.specs.Packed.{members_behind}
use Rattle.posting_code.proofs.Runs.{run_starts, run_some, run_goes}
use Rattle.posting_code.proofs.unpack.put_each.Goals as goal

pub loop-i-init : goal.loop-i-init
loop-i-init c = run_starts _ _ _ _ _ _ c.requires.can refl

pub mixed_member-member-requires-clause-some : goal.mixed_member-member-requires-clause-some
mixed_member-member-requires-clause-some c =
    let enough = c.requires.enough in
    run_some _ _ _ _ _ _ _ _ _ c.loop-i.invariant (omega (arith, enough, c.loop-i-test.true))

pub loop-i-preserved : goal.loop-i-preserved
loop-i-preserved c =
    let next = c.mixed_member-member.ensures in
    let long = c.loop-i.invariant.long in
    let room = c.requires.room in
    run_goes _ _ _ _ _ _ _ _ _ _ _ c.loop-i.invariant next.next next.can (omega (arith, long, room, c.loop-i-test.true))

pub returns-clause-members : goal.returns-clause-members
returns-clause-members c =
    let all : c.loop-i.i ≡ c.args.count = omega (arith, c.loop-i-test.false, c.loop-i.auto.i-end) in
    let ms = members_behind c.args.packed.now c.args.before.value c.args.before.after in
    ap (λ n. take (c.args.place + n) c.loop-i.into) (sym all) ∙ c.loop-i.invariant.taken ∙ ap (λ n. take c.args.place c.args.into.now ++ take n ms) all

pub returns-clause-rest : goal.returns-clause-rest
returns-clause-rest c =
    let all : c.loop-i.i ≡ c.args.count = omega (arith, c.loop-i-test.false, c.loop-i.auto.i-end) in
    let ms = members_behind c.args.packed.now c.args.before.value c.args.before.after in
    ap (λ n. drop n ms) (sym all) ∙ c.loop-i.invariant.rest
