use Rattle.std.proofs.Common.{[], sym, subst}
use Rattle.posting_code.specs.Blocks.{count_in, first_in, heads_in}
use Rattle.posting_code.specs.Packed.{IsKeptTo}
use Rattle.posting_code.proofs.Packed.{none_kept, blocks_kept_to}
use Rattle.posting_code.proofs.posting_list.PostingList.clear.Goals as goal

pub invariant_of-self : goal.invariant_of-self
invariant_of-self c =
    subst (λ packed. IsKeptTo 0 (count_in c.clear-2.new.self) (first_in c.clear-2.new.self) packed (heads_in c.clear-2.new.self)) (sym c.clear.ensures.items)
    (blocks_kept_to _ _ _ _ [] [] c.clear-2.ensures (none_kept (first_in c.self.inside.blocks)))
