use Rattle.std.proofs.Common.{get_or, ap, arith}
use Rattle.index_shard.specs.Kept.{moved_entry}
use Rattle.index_shard.specs.declared.entry.Entry.{Entry}
use Rattle.index_shard.specs.declared.entry.Kept.TheVariants.{Short}
use Rattle.index_shard.proofs.MovedUp.{with_list}
use Rattle.posting_code.proofs.MovedUp.{map_more}
use Rattle.index_shard.proofs.entry.move_entries.Goals as goal

pub loop-entry-preserved : goal.loop-entry-preserved
loop-entry-preserved c =
    let none : Entry = record { head = 0; start = 0; size = 0; list = Short 0 0 0 0 0 } in
    map_more (moved_entry c.args.by) c.args.entries.now c.loop-entry.entries c.loop-entry.entry-index none (with_list (get_or c.loop-entry.entries c.loop-entry.entry-index none) c.moved-entry.result) (omega arith) c.loop-entry.invariant
    (ap (with_list (get_or c.loop-entry.entries c.loop-entry.entry-index none)) c.moved-entry.ensures)
