use Rattle.posting_code.proofs.MovedUp.{rows_up}
use Rattle.posting_code.proofs.rows.PostingRows.move_up.Goals as goal

pub invariant_of-self : goal.invariant_of-self
invariant_of-self c =
    let i = c.self.inside in
    (rows_up c.args.by i.packed.items i.heads.items c.deref_mut.result.now c.move_heads.new.heads i.heads.len i.lists.items c.deref_mut-2.result.now c.move_lists.new.lists i.lists.len c.args.self.now c.self.invariant c.self.view_is i.heads.ok.0 i.lists.ok.0
    c.deref_mut.ensures.value c.deref_mut-2.ensures.value c.move_heads.ensures c.move_lists.ensures).0

pub returns : goal.returns
returns c =
    let i = c.self.inside in
    (rows_up c.args.by i.packed.items i.heads.items c.deref_mut.result.now c.move_heads.new.heads i.heads.len i.lists.items c.deref_mut-2.result.now c.move_lists.new.lists i.lists.len c.args.self.now c.self.invariant c.self.view_is i.heads.ok.0 i.lists.ok.0
    c.deref_mut.ensures.value c.deref_mut-2.ensures.value c.move_heads.ensures c.move_lists.ensures).1
