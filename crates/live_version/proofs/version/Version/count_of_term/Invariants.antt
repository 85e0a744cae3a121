use Rattle.std.proofs.Common.{◌≡◌, ◌+◌, length, drop}
use Rattle.gcl_model.specs.Texts.{places}
use Rattle.live_version.specs.Contents.{live_of}
use Rattle.live_version.proofs.version.Version.count_of_term.Given as goal

-- what was counted, and what is left, is all
abbrev pub invariant-loop-slot : goal.invariant-loop-slot
invariant-loop-slot l = l.count + length (places (live_of (drop l.slot-index l.slots)) l.token) ≡ length (places (live_of l.slots) l.token)
