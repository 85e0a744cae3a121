use Rattle.std.proofs.Common.{take}
use Rattle.prefix_places.proofs.Rows.{put_more}
use Rattle.prefix_places.proofs.gathering.put_all.Goals as goal

pub loop-block-preserved : goal.loop-block-preserved
loop-block-preserved c =
    put_more c.args.list.now (take c.read_block-count.result c.read_block-count.new.into) c.args.addresses.now.items c.loop-block.addresses.items c.extend_from_slice.new.self.items c.loop-block.block
    c.read_block-count.ensures.members c.loop-block.invariant c.in_ok-extend_from_slice.ensures.items
