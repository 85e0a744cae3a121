use Rattle.std.proofs.Common.{length, length-take, ap, ◌∙◌, arith}
use Rattle.posting_code.specs.Packed.{packed_of}
use Rattle.posting_code.proofs.Cuts.{lend_front, lend_back}
use Rattle.posting_code.proofs.posting_list.Postings.cut_at.Goals as goal

pub of_block-before-requires : goal.of_block-before-requires
of_block-before-requires c = (lend_front _ _ _ _ _ _ _ c.self.view_is c.self.invariant c.requires.few c.requires.cut).1.parts

pub of_block-behind-requires : goal.of_block-behind-requires
of_block-behind-requires c = (lend_back _ _ _ _ _ _ _ c.self.view_is c.self.invariant c.requires.few c.requires.cut).parts

pub returns-clause-before : goal.returns-clause-before
returns-clause-before c = c.of_block-before.ensures ∙ (lend_front _ _ _ _ _ _ _ c.self.view_is c.self.invariant c.requires.few c.requires.cut).1.is

pub returns-clause-behind : goal.returns-clause-behind
returns-clause-behind c = c.of_block-behind.ensures ∙ (lend_back _ _ _ _ _ _ _ c.self.view_is c.self.invariant c.requires.few c.requires.cut).is

pub slice_bounds-of_block-end : goal.slice_bounds-of_block-end
slice_bounds-of_block-end c =
    let same = ap length (c.self.invariant.parts.differences ∙ ap packed_of c.self.view_is) in
    let within = c.requires.cut.before.within in
    let long = length-take c.args.cut.before.at c.self.inside.packed.now in
    omega (arith, same, within, long)

pub slice_bounds-of_block-count : goal.slice_bounds-of_block-count
slice_bounds-of_block-count c =
    let same = ap length (c.self.invariant.parts.differences ∙ ap packed_of c.self.view_is) in
    let within = c.requires.cut.behind.within in
    omega (arith, same, within)

pub overflow_sub-self-inside : goal.overflow_sub-self-inside
overflow_sub-self-inside c =
    let few = (lend_front _ _ _ _ _ _ _ c.self.view_is c.self.invariant c.requires.few c.requires.cut).0 in
    let counted = c.self.invariant.parts.counted ∙ ap length c.self.view_is in
    omega (arith, few, counted)
