use Rattle.std.proofs.Common.{Some, ap, sym, ◌∙◌}
use Rattle.index_shard.specs.Kept.{part_of}
use Rattle.index_shard.proofs.KeptTables.{entry_here}
use Rattle.index_shard.proofs.table.TermTable.term.Goals as goal

pub returns : goal.returns
returns c =
    let i = c.self.inside in
    let e = c.index-entry.result.now in
    (entry_here i.bytes.items i.packed.items i.long i.entries.items c.args.self.now c.args.place e c.self.view_is c.requires c.index-entry.ensures).term
    ∙ ap Some (sym (c.term.ensures ∙ ap (λ bytes. part_of bytes e.start e.size) c.deref.ensures.value))
