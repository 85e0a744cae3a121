use Rattle.std.proofs.Common.{◌≡◌, ◌++◌, map, take, drop}
use Rattle.posting_code.specs.Moved.{moved_head}
use Rattle.posting_code.proofs.head.move_heads.Given as goal

-- the heads so far are moved up, and the others are as they were
abbrev pub invariant-loop-head : goal.invariant-loop-head
invariant-loop-head l = l.heads ≡ map (moved_head l.by) (take l.head-index l.fn.heads) ++ drop l.head-index l.fn.heads
