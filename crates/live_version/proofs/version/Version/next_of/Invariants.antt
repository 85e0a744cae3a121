use Rattle.std.proofs.Common.{◌≡◌, ◌+◌, ◌-◌, ◌≤◌, length, drop}
use Rattle.gcl_model.specs.Texts.{next_place}
use Rattle.live_version.specs.Contents.{live_of}
use Rattle.live_version.specs.LookUps.{look_ups}
use Rattle.live_version.proofs.version.Version.next_of.Given as goal

-- nothing was found so far
abbrev pub invariant-loop-number : goal.invariant-loop-number
invariant-loop-number g l = record {
  same : next_place (live_of (drop l.number l.slots)) (g.T.LookUp.term l.term) l.k ≡ next_place (live_of l.slots) (g.T.LookUp.term l.term) l.k;
  counted : g.T.LookUp.count l.fn.counter ≤ g.T.LookUp.count l.counter;
  cost : g.T.LookUp.count l.counter + look_ups (drop l.number l.slots) ≤ g.T.LookUp.count l.fn.counter + look_ups l.slots;
}

abbrev pub decreases-loop-number : goal.decreases-loop-number
decreases-loop-number g l = length l.slots - l.number
