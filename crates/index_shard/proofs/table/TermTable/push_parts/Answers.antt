use Rattle.std.proofs.Common.{refl}
use Rattle.std.specs.List.{concat}
use Rattle.gcl_model.proofs.Cases.{on_err}
use Rattle.index_shard.proofs.KeptTables.{pushed, unchanged, itself}
use Rattle.index_shard.proofs.table.TermTable.push_parts.Goals as goal

pub invariant_of-self : goal.invariant_of-self
invariant_of-self c =
    let i = c.self.inside in
    (unchanged i.bytes.items i.packed.items i.long i.entries.items c.args.self.now i.bytes.items c.put_short.new.packed.items i.long i.entries.items c.self.view_is c.self.invariant
    (itself i.bytes.items) c.in_err-kept.ensures.before (itself i.long) refl).kept

pub returns-in_err-kept-clause-err : goal.returns-in_err-kept-clause-err
returns-in_err-kept-clause-err c =
    let i = c.self.inside in
    on_err _ c.from_residual.result
    (unchanged i.bytes.items i.packed.items i.long i.entries.items c.args.self.now i.bytes.items c.put_short.new.packed.items i.long i.entries.items c.self.view_is c.self.invariant
    (itself i.bytes.items) c.in_err-kept.ensures.before (itself i.long) refl).is

pub invariant_of-self-in_err-put_entry : goal.invariant_of-self-in_err-put_entry
invariant_of-self-in_err-put_entry c =
    let i = c.self.inside in
    (unchanged i.bytes.items i.packed.items i.long i.entries.items c.args.self.now c.put_entry.new.bytes.items c.put_short.new.packed.items i.long c.put_entry.new.entries.items c.self.view_is c.self.invariant
    c.in_err-put_entry.ensures.same_bytes c.in_ok-kept.ensures.before (itself i.long) c.in_err-put_entry.ensures.err).kept

pub returns-in_err-put_entry-clause-err : goal.returns-in_err-put_entry-clause-err
returns-in_err-put_entry-clause-err c =
    let i = c.self.inside in
    on_err _ c.from_residual-in_err-put_entry.result
    (unchanged i.bytes.items i.packed.items i.long i.entries.items c.args.self.now c.put_entry.new.bytes.items c.put_short.new.packed.items i.long c.put_entry.new.entries.items c.self.view_is c.self.invariant
    c.in_err-put_entry.ensures.same_bytes c.in_ok-kept.ensures.before (itself i.long) c.in_err-put_entry.ensures.err).is

pub invariant_of-self-2 : goal.invariant_of-self-2
invariant_of-self-2 c =
    let i = c.self.inside in
    let put = c.in_ok-kept.ensures.kept in
    (pushed i.bytes.items i.packed.items i.long i.entries.items c.args.self.now c.args.term.now (concat c.args.parts.now) _ c.put_entry.new.bytes.items c.put_short.new.packed.items i.long c.put_entry.new.entries.items
    c.self.view_is c.self.invariant c.in_ok-put_entry.ensures.bytes c.in_ok-kept.ensures.before (itself i.long) c.in_ok-put_entry.ensures.entry (put.is i.long) (put.within i.long)).kept

pub returns-clause-ok : goal.returns-clause-ok
returns-clause-ok c =
    let i = c.self.inside in
    let put = c.in_ok-kept.ensures.kept in
    (pushed i.bytes.items i.packed.items i.long i.entries.items c.args.self.now c.args.term.now (concat c.args.parts.now) _ c.put_entry.new.bytes.items c.put_short.new.packed.items i.long c.put_entry.new.entries.items
    c.self.view_is c.self.invariant c.in_ok-put_entry.ensures.bytes c.in_ok-kept.ensures.before (itself i.long) c.in_ok-put_entry.ensures.entry (put.is i.long) (put.within i.long)).is
