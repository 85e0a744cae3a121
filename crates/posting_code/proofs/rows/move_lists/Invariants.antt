use Rattle.std.proofs.Common.{◌≡◌, ◌++◌, map, take, drop}
use Rattle.posting_code.specs.Moved.{moved_row}
use Rattle.posting_code.proofs.rows.move_lists.Given as goal

-- the lists so far are moved up, and the others are as they were
abbrev pub invariant-loop-list : goal.invariant-loop-list
invariant-loop-list l = l.lists ≡ map (moved_row l.by) (take l.list-index l.fn.lists) ++ drop l.list-index l.fn.lists
