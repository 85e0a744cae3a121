use Rattle.std.proofs.Common.{◌≡◌, take, map}
use Rattle.live_version.proofs.ChangeDelete.{slot_after}
use Rattle.live_version.proofs.version.Version.slots_without.Given as goal

abbrev pub invariant-loop-slot : goal.invariant-loop-slot
invariant-loop-slot l = l.slots.items ≡ map (slot_after l.fn.id.0) (take l.slot-index l.slot-items)
