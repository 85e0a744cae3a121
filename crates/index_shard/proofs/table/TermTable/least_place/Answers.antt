use Rattle.index_shard.proofs.KeptTables.{found_from}
use Rattle.index_shard.proofs.table.TermTable.least_place.Goals as goal

pub returns : goal.returns
returns c =
    found_from c.self.inside.bytes.items c.deref.result.now c.self.inside.packed.items c.self.inside.long c.self.inside.entries.items c.deref-2.result.now c.args.self.now c.requires.0 c.args.low.now c.args.strict c.place_from.result
    c.self.view_is c.deref.ensures.value c.deref-2.ensures.value c.requires.1 c.place_from.ensures
