use Rattle.prefix_places.proofs.Rows.{whole_alive}
use Rattle.prefix_places.proofs.gathering.put_live.Goals as goal

pub returns-then-is_whole : goal.returns-then-is_whole
returns-then-is_whole c =
    whole_alive c.args.mask.now c.args.all.now c.args.places.now.items c.extend_from_slice.new.self.items (c.is_whole.ensures c.if-is_whole.true) c.in_ok-extend_from_slice.ensures.items
