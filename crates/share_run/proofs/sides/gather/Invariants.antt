use Rattle.std.specs.Prelude.{◌≡◌, ◌+◌, ◌≤◌, ◌++◌, ◌&&◌, length, vec_capacity}
use Rattle.share_run.specs.Sides.{are_done, editors_from}
use Rattle.share_run.proofs.sides.gather.Given as goal

-- the editors that are back, and those that still have a side, are all; so it is of what is done
abbrev pub invariant-loop-side : goal.invariant-loop-side
invariant-loop-side g l = record {
  all : l.editors.items ++ editors_from l.sides.items ≡ editors_from l.fn.sides.items;
  done : (l.all_done && are_done l.sides.items) ≡ are_done l.fn.sides.items;
  room : length (editors_from l.fn.sides.items) ≤ vec_capacity l.editors;
}

abbrev pub decreases-loop-side : goal.decreases-loop-side
decreases-loop-side g l = goal.left-loop-side g l
