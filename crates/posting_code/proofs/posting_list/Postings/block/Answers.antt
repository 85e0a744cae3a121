use Rattle.std.proofs.Common.{refl, arith, ◌∙◌}
use Rattle.posting_code.proofs.Cuts.{lend_last, has_whole, next_stands, lend_block}
use Rattle.posting_code.proofs.posting_list.Postings.block.Goals as goal

pub of_block-requires : goal.of_block-requires
of_block-requires c =
    (lend_last _ _ _ _ _ _ _ _ _ _ _ c.self.view_is c.self.invariant c.requires refl refl c.head_of-head.ensures refl (omega arith)).1.parts

pub returns-then-count-le-BLOCK-clause-value : goal.returns-then-count-le-BLOCK-clause-value
returns-then-count-le-BLOCK-clause-value c =
    c.of_block.ensures ∙ (lend_last _ _ _ _ _ _ _ _ _ _ _ c.self.view_is c.self.invariant c.requires refl refl c.head_of-head.ensures refl (omega arith)).1.is

pub head_of-next-requires : goal.head_of-next-requires
head_of-next-requires c =
    let marked = c.self.invariant.parts.marked in
    omega (arith, marked)

pub member_before-end-requires : goal.member_before-end-requires
member_before-end-requires c =
    let whole = has_whole _ _ _ _ _ _ _ _ _ _ c.self.view_is c.self.invariant c.requires refl refl c.head_of-head.ensures (omega arith) in
    record { can = whole.can; within = whole.within; next = (63, next_stands _ _ _ _ _ _ _ _ _ _ _ c.self.view_is c.self.invariant c.requires refl refl c.head_of-head.ensures c.head_of-next.ensures (omega arith)) }

pub slice_bounds-of_block-count-2 : goal.slice_bounds-of_block-count-2
slice_bounds-of_block-count-2 c =
    let end = c.member_before-end.ensures 63 (next_stands _ _ _ _ _ _ _ _ _ _ _ c.self.view_is c.self.invariant c.requires refl refl c.head_of-head.ensures c.head_of-next.ensures (omega arith)) in
    let rises = (lend_block _ _ _ _ _ _ _ _ _ _ _ c.self.view_is c.self.invariant c.requires refl refl c.head_of-head.ensures end.is end.can end.within).0 in
    let within = end.within in
    omega (arith, rises, within)

pub slice_bounds-of_block-start-2 : goal.slice_bounds-of_block-start-2
slice_bounds-of_block-start-2 c =
    let end = c.member_before-end.ensures 63 (next_stands _ _ _ _ _ _ _ _ _ _ _ c.self.view_is c.self.invariant c.requires refl refl c.head_of-head.ensures c.head_of-next.ensures (omega arith)) in
    let rises = (lend_block _ _ _ _ _ _ _ _ _ _ _ c.self.view_is c.self.invariant c.requires refl refl c.head_of-head.ensures end.is end.can end.within).0 in
    let within = end.within in
    omega (arith, rises, within)

pub of_block-requires-2 : goal.of_block-requires-2
of_block-requires-2 c =
    let end = c.member_before-end.ensures 63 (next_stands _ _ _ _ _ _ _ _ _ _ _ c.self.view_is c.self.invariant c.requires refl refl c.head_of-head.ensures c.head_of-next.ensures (omega arith)) in
    (lend_block _ _ _ _ _ _ _ _ _ _ _ c.self.view_is c.self.invariant c.requires refl refl c.head_of-head.ensures end.is end.can end.within).1.parts

pub returns-clause-value : goal.returns-clause-value
returns-clause-value c =
    let end = c.member_before-end.ensures 63 (next_stands _ _ _ _ _ _ _ _ _ _ _ c.self.view_is c.self.invariant c.requires refl refl c.head_of-head.ensures c.head_of-next.ensures (omega arith)) in
    c.of_block-2.ensures ∙ (lend_block _ _ _ _ _ _ _ _ _ _ _ c.self.view_is c.self.invariant c.requires refl refl c.head_of-head.ensures end.is end.can end.within).1.is

pub slice_bounds-of_block-end-2 : goal.slice_bounds-of_block-end-2
slice_bounds-of_block-end-2 c =
    let within = (c.member_before-end.ensures 63 (next_stands _ _ _ _ _ _ _ _ _ _ _ c.self.view_is c.self.invariant c.requires refl refl c.head_of-head.ensures c.head_of-next.ensures (omega arith))).within in
    omega (arith, within)
