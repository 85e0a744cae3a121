use Rattle.std.proofs.Common.{◌≡◌, ◌+◌, ◌<◌, ◌++◌, take, drop, refl, sym, ap, ◌∙◌, subst, arith}
use Rattle.posting_code.specs.Packed.{members_behind, CanUnpack}
use Rattle.posting_code.proofs.Runs.{bytes_enough, run_starts, run_byte}
use Rattle.posting_code.proofs.unpack.put_run.Goals as goal

pub loop-i-init : goal.loop-i-init
loop-i-init c = run_starts _ _ _ _ _ _ c.requires.can (omega arith)

pub bounds-packed-at : goal.bounds-packed-at
bounds-packed-at c =
    let bytes = bytes_enough _ _ _ c.requires.can in
    let enough = c.requires.enough in
    omega (arith, bytes, enough, c.loop-i-test.true)

pub loop-i-preserved : goal.loop-i-preserved
loop-i-preserved c =
    let few : c.loop-i.i < 7 = omega (arith, c.loop-i-test.true) in
    let enough = c.requires.enough in
    let long = c.loop-i.invariant.long in
    let room = c.requires.room in
    run_byte _ _ _ _ _ _ _ _ _ c.loop-i.invariant (omega (arith, few, enough)) refl (c.requires.short c.loop-i.i few) (omega (arith, few, long, room))

pub returns-clause-members : goal.returns-clause-members
returns-clause-members c =
    let all : c.loop-i.i ≡ 7 = omega (arith, c.loop-i-test.false, c.loop-i.auto.i-end) in
    let ms = members_behind c.args.packed.now c.args.before c.args.at in
    ap (λ n. take (c.args.place + n) c.loop-i.into) (sym all) ∙ c.loop-i.invariant.taken ∙ ap (λ n. take c.args.place c.args.into.now ++ take n ms) all

pub returns-clause-rest : goal.returns-clause-rest
returns-clause-rest c =
    let all : c.loop-i.i ≡ 7 = omega (arith, c.loop-i-test.false, c.loop-i.auto.i-end) in
    let ms = members_behind c.args.packed.now c.args.before c.args.at in
    ap (λ n. drop n ms) (sym all) ∙ c.loop-i.invariant.rest ∙ ap (λ n. members_behind c.args.packed.now c.loop-i.member (c.args.at + n)) all

pub returns-clause-can : goal.returns-clause-can
returns-clause-can c =
    let all : c.loop-i.i ≡ 7 = omega (arith, c.loop-i-test.false, c.loop-i.auto.i-end) in
    subst (λ n. CanUnpack c.args.packed.now c.loop-i.member (c.args.at + n)) all c.loop-i.invariant.can
