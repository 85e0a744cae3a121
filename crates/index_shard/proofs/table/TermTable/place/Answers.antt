use Rattle.index_shard.proofs.KeptTables.{placed}
use Rattle.index_shard.proofs.table.TermTable.place.Goals as goal

pub returns : goal.returns
returns c =
    placed c.self.inside.bytes.items c.deref.result.now c.self.inside.packed.items c.self.inside.long c.self.inside.entries.items c.deref-2.result.now c.args.self.now c.requires.0 c.args.term.now c.find_place.result
    c.self.view_is c.deref.ensures.value c.deref-2.ensures.value c.requires.1 c.find_place.ensures
