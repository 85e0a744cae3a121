use Rattle.std.proofs.Common.{◌+◌, [], ◌∷◌, arith}
use Rattle.std.proofs.lemmas.List.{length-append}
use Rattle.posting_code.proofs.Rising.{rise_push, rise_wider}
use Rattle.index_tests.proofs.fingers.every.Goals as goal

pub loop-at-preserved : goal.loop-at-preserved
loop-at-preserved c =
    let within = c.loop-at.invariant.within in
    let from = within.0 in
    let gap = c.loop-at-test.true in
    let room = c.if-gap-last.true in
    let xs = c.loop-at.addresses.items in
    let at = c.loop-at.at in
    rw c.in_ok-push-2.ensures.items
    (record {
      some = omega (arith, length-append xs ((at + c.args.gap) ∷ []));
      within = (omega arith, omega arith);
      rising = rise_push c.args.first (at + 1) (at + c.args.gap + 1) xs (at + c.args.gap) c.loop-at.invariant.rising (omega arith) (omega arith) (omega arith);
    })

pub returns : goal.returns
returns c =
    let within = c.loop-at.invariant.within in
    let upto = within.1 in
    record { some = c.loop-at.invariant.some; rising = rise_wider c.args.first c.args.first (c.loop-at.at + 1) (c.args.last + 1) c.loop-at.addresses.items c.loop-at.invariant.rising (omega arith) (omega arith) }
