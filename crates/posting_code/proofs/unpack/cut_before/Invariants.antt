use Rattle.std.proofs.Common.{◌∷◌, ◌<◌}
use Rattle.posting_code.specs.Packed.{StandsAt, members_behind}
use Rattle.posting_code.proofs.unpack.cut_before.Given as goal

-- the member is this many steps after the first, and is below the number
abbrev pub invariant-loop-steps : goal.invariant-loop-steps
invariant-loop-steps l = record {
  stands : StandsAt (l.fn.first.first ∷ members_behind l.packed l.fn.first.first l.fn.first.at) l.packed l.steps l.before;
  below : l.before.first < l.k;
}
