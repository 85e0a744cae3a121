use Rattle.std.proofs.Common.{refl, ap, ◌∙◌}
use Rattle.posting_code.specs.Packed.{packed_of}
use Rattle.posting_code.proofs.Joining.{block_stands, block_is_there, enough_behind, walked_head}
use Rattle.posting_code.proofs.posting_list.Postings.head.Goals as goal

pub head_of-head-requires : goal.head_of-head-requires
head_of-head-requires c = block_is_there _ _ _ _ _ _ _ c.self.view_is c.self.invariant.parts c.requires refl

pub walk-requires : goal.walk-requires
walk-requires c =
    let stands = block_stands _ _ _ _ _ _ _ _ _ c.self.view_is c.self.invariant.parts c.requires refl refl c.head_of-head.ensures in
    record { can = stands.can; within = stands.within; enough = enough_behind _ _ _ _ c.requires stands }

pub returns : goal.returns
returns c =
    let stands = block_stands _ _ _ _ _ _ _ _ _ c.self.view_is c.self.invariant.parts c.requires refl refl c.head_of-head.ensures in
    walked_head _ _ _ _ _ _ c.requires (c.self.invariant.parts.differences ∙ ap packed_of c.self.view_is) refl stands c.walk.ensures.rest c.walk.ensures.can c.walk.ensures.within
