use Rattle.std.proofs.Common.{Some, IfSome, sym, ap, subst, ◌∙◌, option_map}
use Rattle.index_shard.specs.Kept.{AreBytes, leading, part_of}
use Rattle.index_shard.proofs.KeptTables.{entry_here, kept_here, place_within}
use Rattle.index_shard.proofs.table.TermTable.head.Goals as goal

pub returns-clause-value : goal.returns-clause-value
returns-clause-value c =
    let i = c.self.inside in
    let e = c.index-entry.result.now in
    let at = entry_here i.bytes.items i.packed.items i.long i.entries.items c.args.self.now c.args.place e c.self.view_is c.requires c.index-entry.ensures in
    let lt = place_within i.bytes.items i.packed.items i.long i.entries.items c.args.self.now c.args.place c.self.view_is c.requires in
    let held = (kept_here i.bytes.items i.packed.items i.long i.entries.items c.args.place e c.self.invariant lt c.index-entry.ensures).0 in
    ap (option_map (leading 8 0)) at.term ∙ ap Some (sym (c.head_in.ensures.value ∙ held.head))

pub returns-clause-bytes : goal.returns-clause-bytes
returns-clause-bytes c =
    let i = c.self.inside in
    let e = c.index-entry.result.now in
    let at = entry_here i.bytes.items i.packed.items i.long i.entries.items c.args.self.now c.args.place e c.self.view_is c.requires c.index-entry.ensures in
    let fit = subst (λ b. AreBytes (part_of b e.start e.size)) c.deref.ensures.value c.head_in.ensures.bytes in
    subst (λ o. IfSome o AreBytes) (sym at.term) fit
