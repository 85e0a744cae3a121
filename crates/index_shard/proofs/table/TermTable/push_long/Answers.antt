use Rattle.std.specs.List.{concat}
use Rattle.gcl_model.proofs.Cases.{on_err}
use Rattle.index_shard.proofs.KeptTables.{pushed, unchanged, itself, behind_front, long_here}
use Rattle.index_shard.proofs.table.TermTable.push_long.Goals as goal

pub push_joined-requires : goal.push_joined-requires
push_joined-requires c = record { rising = c.requires.postings; first = c.requires.ends.first; last = c.requires.ends.last; count = c.requires.ends.count }

pub invariant_of-self-in_err-put_entry : goal.invariant_of-self-in_err-put_entry
invariant_of-self-in_err-put_entry c =
    let i = c.self.inside in
    (unchanged i.bytes.items i.packed.items i.long i.entries.items c.args.self.now c.put_entry.new.bytes.items i.packed.items c.push_joined.new.self c.put_entry.new.entries.items c.self.view_is c.self.invariant
    c.in_err-put_entry.ensures.same_bytes (itself i.packed.items) (behind_front i.long _ c.push_joined.new.self c.in_ok-push_joined.ensures.ok) c.in_err-put_entry.ensures.err).kept

pub returns-in_err-put_entry-clause-err : goal.returns-in_err-put_entry-clause-err
returns-in_err-put_entry-clause-err c =
    let i = c.self.inside in
    on_err _ c.from_residual-in_err-put_entry.result
    (unchanged i.bytes.items i.packed.items i.long i.entries.items c.args.self.now c.put_entry.new.bytes.items i.packed.items c.push_joined.new.self c.put_entry.new.entries.items c.self.view_is c.self.invariant
    c.in_err-put_entry.ensures.same_bytes (itself i.packed.items) (behind_front i.long _ c.push_joined.new.self c.in_ok-push_joined.ensures.ok) c.in_err-put_entry.ensures.err).is

pub invariant_of-self-2 : goal.invariant_of-self-2
invariant_of-self-2 c =
    let i = c.self.inside in
    let there = long_here i.packed.items i.long c.push_joined.new.self (concat c.args.parts.now) c.len-place.result c.len-place.ensures c.in_ok-push_joined.ensures.ok in
    (pushed i.bytes.items i.packed.items i.long i.entries.items c.args.self.now c.args.term.now (concat c.args.parts.now) _ c.put_entry.new.bytes.items i.packed.items c.push_joined.new.self c.put_entry.new.entries.items
    c.self.view_is c.self.invariant c.in_ok-put_entry.ensures.bytes (itself i.packed.items) (behind_front i.long _ c.push_joined.new.self c.in_ok-push_joined.ensures.ok) c.in_ok-put_entry.ensures.entry there.0 there.1).kept

pub returns-clause-ok : goal.returns-clause-ok
returns-clause-ok c =
    let i = c.self.inside in
    let there = long_here i.packed.items i.long c.push_joined.new.self (concat c.args.parts.now) c.len-place.result c.len-place.ensures c.in_ok-push_joined.ensures.ok in
    (pushed i.bytes.items i.packed.items i.long i.entries.items c.args.self.now c.args.term.now (concat c.args.parts.now) _ c.put_entry.new.bytes.items i.packed.items c.push_joined.new.self c.put_entry.new.entries.items
    c.self.view_is c.self.invariant c.in_ok-put_entry.ensures.bytes (itself i.packed.items) (behind_front i.long _ c.push_joined.new.self c.in_ok-push_joined.ensures.ok) c.in_ok-put_entry.ensures.entry there.0 there.1).is
