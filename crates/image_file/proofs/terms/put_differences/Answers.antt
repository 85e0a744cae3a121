use Rattle.image_file.proofs.Writing.{put_next}
use Rattle.image_file.proofs.terms.put_differences.Goals as goal

pub loop-address-preserved : goal.loop-address-preserved
loop-address-preserved c =
    let next =
    put_next c.args.addresses.now c.loop-address.address-index c.loop-address.before c.loop-address.out.items c.put_number.new.out.items _ c.loop-address-test.true c.loop-address.invariant.together
    c.loop-address.invariant.rising c.in_ok-put_number.ensures.ok in
    record { together = next.together; rising = next.rising }
