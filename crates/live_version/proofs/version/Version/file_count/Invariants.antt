use Rattle.std.proofs.Common.{◌≡◌, ◌+◌, length, drop}
use Rattle.live_version.specs.Contents.{files_of}
use Rattle.live_version.proofs.version.Version.file_count.Given as goal

-- what was counted, and what is left, is all
abbrev pub invariant-loop-slot : goal.invariant-loop-slot
invariant-loop-slot l = l.count + length (files_of (drop l.slot-index l.slots)) ≡ length (files_of l.slots)
