use Rattle.std.proofs.Common.{◌≡◌, ◌+◌, ◌≤◌, length, take}
use Rattle.gcl_model.specs.Texts.{previous_place}
use Rattle.live_version.specs.Contents.{live_of}
use Rattle.live_version.specs.LookUps.{look_ups}
use Rattle.live_version.proofs.version.Version.previous_of.Given as goal

-- nothing was found so far
abbrev pub invariant-loop-left : goal.invariant-loop-left
invariant-loop-left g l = record {
  within : l.left ≤ length l.slots;
  same : previous_place (live_of (take l.left l.slots)) (g.T.LookUp.term l.term) l.k ≡ previous_place (live_of l.slots) (g.T.LookUp.term l.term) l.k;
  counted : g.T.LookUp.count l.fn.counter ≤ g.T.LookUp.count l.counter;
  cost : g.T.LookUp.count l.counter + look_ups (take l.left l.slots) ≤ g.T.LookUp.count l.fn.counter + look_ups l.slots;
}

abbrev pub decreases-loop-left : goal.decreases-loop-left
decreases-loop-left g l = l.left
