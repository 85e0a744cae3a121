use Rattle.std.specs.Prelude.{◌≡◌, ◌+◌, ◌≤◌, ◌++◌, vec_len, vec_capacity}
use Rattle.share_run.specs.Sides.{editors_from}
use Rattle.share_run.proofs.sides.deal.Given as goal

-- the editors that are left, and those that have a side, are all
abbrev pub invariant-loop-editor : goal.invariant-loop-editor
invariant-loop-editor g l = record {
  all : l.editors.items ++ editors_from l.sides.items ≡ l.fn.editors.items;
  room : vec_len l.sides + vec_len l.editors ≤ vec_capacity l.sides;
  back : vec_len l.fn.editors ≤ vec_capacity l.editors;
}

abbrev pub decreases-loop-editor : goal.decreases-loop-editor
decreases-loop-editor g l = goal.left-loop-editor g l
