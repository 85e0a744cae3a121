use Rattle.std.proofs.Common.{arith}
use Rattle.posting_code.specs.Moved.{moved_row}
use Rattle.posting_code.proofs.MovedUp.{map_more}
use Rattle.posting_code.proofs.rows.move_lists.Goals as goal

pub loop-list-preserved : goal.loop-list-preserved
loop-list-preserved c =
    map_more (moved_row c.args.by) c.args.lists.now c.loop-list.lists c.loop-list.list-index c.list-item.result c.move_up.new.self (omega arith) c.loop-list.invariant
    c.move_up.ensures
