use Rattle.std.proofs.Common.{◌≡◌, ◌++◌, take}
use Rattle.live_version.proofs.slot_list.push_copies.Given as goal

abbrev pub invariant-loop-slot : goal.invariant-loop-slot
invariant-loop-slot l = l.into.items ≡ l.fn.into.items ++ take l.slot-index l.slots
