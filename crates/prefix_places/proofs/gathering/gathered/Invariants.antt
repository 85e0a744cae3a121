use Rattle.std.proofs.Common.{◌≡◌, take}
use Rattle.live_version.specs.Contents.{live_of}
use Rattle.prefix_places.specs.Runs.{prefix_places}
use Rattle.prefix_places.proofs.gathering.gathered.Given as goal

-- the places of the slots so far
abbrev pub invariant-loop-slot : goal.invariant-loop-slot
invariant-loop-slot l = l.places.items ≡ prefix_places (live_of (take l.slot-index l.slots)) l.prefix
