use Rattle.prefix_places.proofs.Rows.{slots_more}
use Rattle.prefix_places.proofs.gathering.gathered.Goals as goal

pub loop-slot-preserved : goal.loop-slot-preserved
loop-slot-preserved c =
    slots_more c.args.slots.now c.loop-slot.slot-index c.slot-item.result c.args.prefix.now c.loop-slot.places.items c.put_slot.new.places.items c.loop-slot-test.true c.slot-item.is c.loop-slot.invariant
    c.in_ok-put_slot.ensures
