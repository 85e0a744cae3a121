use Rattle.std.proofs.Common.{◌≡◌, ◌+◌, ◌-◌, ◌∷◌, length, take, length-set, take_all, sym, ap, ◌∙◌, arith}
use Rattle.posting_code.specs.Packed.{members_behind}
use Rattle.posting_code.proofs.Unpacking.{unpacking_starts}
use Rattle.posting_code.proofs.Runs.{unpacking_runs, unpacking_left}
use Rattle.posting_code.proofs.unpack.unpack.Goals as goal

pub loop-into-init : goal.loop-into-init
loop-into-init c =
    let long = length-set c.args.into.now 0 c.args.first in
    let some = c.requires.some in
    record { are = unpacking_starts _ _ _ _ c.requires.can some; long = long; within = omega (arith, long, some) }

pub put_seven-member-requires : goal.put_seven-member-requires
put_seven-member-requires c =
    let are = c.loop-into.invariant.are in
    let left = unpacking_left _ _ _ _ _ _ _ are in
    let long = c.loop-into.invariant.long in
    let enough = c.requires.enough in
    let room = c.loop-into-test.true in
    record { can = are.can; enough = omega (arith, left, long, enough, room); room = omega (arith, room) }

pub loop-into-preserved : goal.loop-into-preserved
loop-into-preserved c =
    let put = c.put_seven-member.ensures in
    let same = put.long in
    let room = c.loop-into-test.true in
    record {
      are = unpacking_runs _ _ _ _ _ _ _ _ 7 _ _ c.loop-into.invariant.are put.members put.rest put.can;
      long = same ∙ c.loop-into.invariant.long;
      within = omega (arith, same, room);
    }

pub put_each-requires : goal.put_each-requires
put_each-requires c =
    let are = c.loop-into.invariant.are in
    let left = unpacking_left _ _ _ _ _ _ _ are in
    let long = c.loop-into.invariant.long in
    let enough = c.requires.enough in
    let within = c.loop-into.invariant.within in
    record { can = are.can; enough = omega (arith, left, long, enough, within); room = omega (arith, within) }

pub returns : goal.returns
returns c =
    let put = c.put_each.ensures in
    let same = put.long in
    let long = c.loop-into.invariant.long in
    let within = c.loop-into.invariant.within in
    let new = c.put_each.new.into in
    let are = unpacking_runs _ _ _ _ _ _ _ _ _ _ _ c.loop-into.invariant.are put.members put.rest put.can in
    let all : c.loop-into.place + (length c.loop-into.into - c.loop-into.place) ≡ length c.args.into.now = omega (arith, long, within) in
    let members = c.args.first ∷ members_behind c.args.packed.now c.args.first c.args.at in
    sym (take_all (length c.args.into.now) new (omega (arith, same, long))) ∙ ap (λ n. take n new) (sym all) ∙ are.taken ∙ ap (λ n. take n members) all
