use Rattle.index_shard.proofs.MovedUp.{table_up}
use Rattle.index_shard.proofs.table.TermTable.move_up.Goals as goal

pub invariant_of-self : goal.invariant_of-self
invariant_of-self c =
    let i = c.self.inside in
    (table_up c.args.by i.bytes.items i.packed.items i.long c.move_up.new.self i.entries.items c.deref_mut.result.now c.move_entries.new.entries i.entries.len c.args.self.now c.self.invariant c.self.view_is c.requires i.entries.ok.0
    c.deref_mut.ensures.value c.move_entries.ensures c.move_up.ensures).0

pub returns : goal.returns
returns c =
    let i = c.self.inside in
    (table_up c.args.by i.bytes.items i.packed.items i.long c.move_up.new.self i.entries.items c.deref_mut.result.now c.move_entries.new.entries i.entries.len c.args.self.now c.self.invariant c.self.view_is c.requires i.entries.ok.0
    c.deref_mut.ensures.value c.move_entries.ensures c.move_up.ensures).1
