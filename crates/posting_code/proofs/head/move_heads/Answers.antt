use Rattle.std.proofs.Common.{ℕ, get_or, ap, arith}
use Rattle.posting_code.specs.Moved.{moved_head}
use Rattle.posting_code.specs.declared.head.Head.{Head}
use Rattle.posting_code.proofs.MovedUp.{map_more}
use Rattle.posting_code.proofs.head.move_heads.Goals as goal

-- a head with another first member
abbrev with_first : Head → ℕ → Head
with_first head first = record { first = first; at = head.at }

pub loop-head-preserved : goal.loop-head-preserved
loop-head-preserved c =
    let none : Head = record { first = 0; at = 0 } in
    map_more (moved_head c.args.by) c.args.heads.now c.loop-head.heads c.loop-head.head-index none (with_first (get_or c.loop-head.heads c.loop-head.head-index none) c.move_address-head.result) (omega arith) c.loop-head.invariant
    (ap (with_first (get_or c.loop-head.heads c.loop-head.head-index none)) c.move_address-head.ensures)
