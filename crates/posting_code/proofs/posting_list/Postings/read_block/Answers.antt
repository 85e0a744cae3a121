use Rattle.std.proofs.Common.{◌^◌, length, length-take, refl, ap, ◌∙◌, subst, arith}
use Rattle.posting_code.specs.Postings.{ArePostings}
use Rattle.posting_code.proofs.Around.{ready_block, read_members}
use Rattle.posting_code.proofs.Rising.{rise_length}
use Rattle.posting_code.proofs.posting_list.Postings.read_block.Goals as goal

pub unpack-requires-clause-can : goal.unpack-requires-clause-can
unpack-requires-clause-can c =
    (ready_block _ _ _ _ _ _ _ _ _ _ c.self.view_is c.self.invariant.parts c.requires refl refl c.head_of-head.ensures c.min-count.ensures).can

pub unpack-requires-clause-enough : goal.unpack-requires-clause-enough
unpack-requires-clause-enough c =
    let ready = ready_block _ _ _ _ _ _ _ _ _ _ c.self.view_is c.self.invariant.parts c.requires refl refl c.head_of-head.ensures c.min-count.ensures in
    let enough = ready.enough in
    let some = ready.some in
    let long = length-take c.min-count.result c.args.into.now in
    omega (arith, enough, some, long)

pub returns-clause-count : goal.returns-clause-count
returns-clause-count c =
    (ready_block _ _ _ _ _ _ _ _ _ _ c.self.view_is c.self.invariant.parts c.requires refl refl c.head_of-head.ensures c.min-count.ensures).size

pub returns-clause-members : goal.returns-clause-members
returns-clause-members c =
    let ready = ready_block _ _ _ _ _ _ _ _ _ _ c.self.view_is c.self.invariant.parts c.requires refl refl c.head_of-head.ensures c.min-count.ensures in
    let long = length-take c.min-count.result c.args.into.now in
    read_members _ _ c.args.into.now _ _ _ _ _ ready (omega (arith, long)) c.unpack.ensures

pub overflow_sub-self-inside : goal.overflow_sub-self-inside
overflow_sub-self-inside c =
    let counted = c.self.invariant.parts.counted ∙ ap length c.self.view_is in
    let lt = c.requires in
    omega (arith, counted, lt)

pub head_of-head-requires : goal.head_of-head-requires
head_of-head-requires c =
    let counted = c.self.invariant.parts.counted ∙ ap length c.self.view_is in
    let marked = c.self.invariant.parts.marked in
    let lt = c.requires in
    omega (arith, counted, marked, lt)

pub unpack-requires-clause-some : goal.unpack-requires-clause-some
unpack-requires-clause-some c =
    let ready = ready_block _ _ _ _ _ _ _ _ _ _ c.self.view_is c.self.invariant.parts c.requires refl refl c.head_of-head.ensures c.min-count.ensures in
    let some = ready.some in
    let long = length-take c.min-count.result c.args.into.now in
    omega (arith, some, long)

pub returns-clause-rising : goal.returns-clause-rising
returns-clause-rising c = subst ArePostings c.self.view_is c.self.invariant.parts.rising

pub overflow_mul-block : goal.overflow_mul-block
overflow_mul-block c =
    let few = rise_length 0 (2 ^ 56) _ c.self.invariant.parts.rising in
    let long = ap length c.self.view_is in
    let lt = c.requires in
    omega (arith, few, long, lt)
