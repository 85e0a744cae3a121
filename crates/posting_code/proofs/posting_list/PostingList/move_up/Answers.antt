use Rattle.std.proofs.Common.{◌≡◌, true, sym, ap, ◌∙◌, subst}
use Rattle.posting_code.specs.Blocks.{count_in, first_in, heads_in}
use Rattle.posting_code.specs.Moved.{can_move, moved_address, moved_heads}
use Rattle.posting_code.specs.Packed.{IsKeptTo}
use Rattle.posting_code.proofs.MovedUp.{list_up}
use Rattle.posting_code.proofs.Packed.{blocks_kept_to, blocks_list}
use Rattle.posting_code.proofs.posting_list.PostingList.move_up.Goals as goal

pub invariant_of-self : goal.invariant_of-self
invariant_of-self c =
    let i = c.self.inside in
    let by = c.args.by in
    let can : can_move (count_in i.blocks) i.last by ≡ true = ap (λ n. can_move n i.last by) (sym c.count.ensures) ∙ sym c.can_move.ensures ∙ c.if-not-can_move.false in
    let up = list_up by i.last (count_in i.blocks) (first_in i.blocks) i.packed.items (heads_in i.blocks) c.args.self.now c.self.view_is c.self.invariant can in
    subst (λ l. IsKeptTo l (count_in c.move_up.new.self) (first_in c.move_up.new.self) i.packed.items (heads_in c.move_up.new.self)) (sym c.move_address-self-inside.ensures)
    (blocks_kept_to c.move_up.new.self (moved_address by i.last) (count_in i.blocks) (moved_address by (first_in i.blocks)) i.packed.items (moved_heads by (heads_in i.blocks)) c.move_up.ensures up.parts)

pub returns : goal.returns
returns c =
    let i = c.self.inside in
    let by = c.args.by in
    let can : can_move (count_in i.blocks) i.last by ≡ true = ap (λ n. can_move n i.last by) (sym c.count.ensures) ∙ sym c.can_move.ensures ∙ c.if-not-can_move.false in
    let up = list_up by i.last (count_in i.blocks) (first_in i.blocks) i.packed.items (heads_in i.blocks) c.args.self.now c.self.view_is c.self.invariant can in
    blocks_list c.move_up.new.self (count_in i.blocks) (moved_address by (first_in i.blocks)) i.packed.items (moved_heads by (heads_in i.blocks)) c.move_up.ensures ∙ up.is
