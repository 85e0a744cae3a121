use Rattle.std.proofs.Common.{Some, sym, ap, subst, ◌∙◌}
use Rattle.index_shard.specs.Kept.{IsListIn, list_in}
use Rattle.index_shard.proofs.KeptTables.{entry_here, kept_here, place_within}
use Rattle.index_shard.proofs.table.TermTable.postings_at.Goals as goal

pub lent-requires : goal.lent-requires
lent-requires c =
    let i = c.self.inside in
    let e = c.index-entry.result.now in
    let lt = place_within i.bytes.items i.packed.items i.long i.entries.items c.args.self.now c.args.place c.self.view_is c.requires in
    let held = (kept_here i.bytes.items i.packed.items i.long i.entries.items c.args.place e c.self.invariant lt c.index-entry.ensures).1 in
    subst (λ p. IsListIn p i.long e.list) (sym c.deref.ensures.value) held

pub returns-clause-at : goal.returns-clause-at
returns-clause-at c =
    let i = c.self.inside in
    let e = c.index-entry.result.now in
    let at = entry_here i.bytes.items i.packed.items i.long i.entries.items c.args.self.now c.args.place e c.self.view_is c.requires c.index-entry.ensures in
    c.lent.ensures ∙ ap (λ p. list_in p i.long e.list) c.deref.ensures.value ∙ sym at.addresses

pub returns-clause-entry : goal.returns-clause-entry
returns-clause-entry c =
    let i = c.self.inside in
    let e = c.index-entry.result.now in
    let at = entry_here i.bytes.items i.packed.items i.long i.entries.items c.args.self.now c.args.place e c.self.view_is c.requires c.index-entry.ensures in
    at.postings ∙ ap Some (sym (c.lent.ensures ∙ ap (λ p. list_in p i.long e.list) c.deref.ensures.value))
