use Rattle.std.proofs.Common.{◌++◌, sym, subst}
use Rattle.address_space.specs.Runs.{IsFileRun}
use Rattle.shard_merge.proofs.Runs.{put_slot}
use Rattle.shard_merge.proofs.records.records_of.Goals as goal

pub and-requires : goal.and-requires
and-requires c =
    subst (λ files. IsFileRun (c.loop-slot.files ++ files)) (sym c.records.ensures.value)
    (put_slot c.args.slots.now c.loop-slot.files c.loop-slot.slot-index c.slot-item.result c.requires c.loop-slot-test.true c.slot-item.is c.loop-slot.invariant)
