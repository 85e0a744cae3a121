use Rattle.std.proofs.Common.{◌≡◌, take}
use Rattle.live_version.specs.Contents.{files_of}
use Rattle.shard_merge.proofs.records.records_of.Given as goal

-- the files of the slots so far
abbrev pub invariant-loop-slot : goal.invariant-loop-slot
invariant-loop-slot l = l.files ≡ files_of (take l.slot-index l.slots)
