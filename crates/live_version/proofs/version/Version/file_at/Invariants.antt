use Rattle.std.proofs.Common.{◌≡◌, ◌<◌, length, drop, slice_get}
use Rattle.live_version.specs.Contents.{files_of}
use Rattle.live_version.proofs.version.Version.file_at.Given as goal

-- the file is among those that are left
abbrev pub invariant-loop-slot : goal.invariant-loop-slot
invariant-loop-slot l = record {
  within : l.left < length (files_of (drop l.slot-index l.slots));
  same : slice_get (files_of (drop l.slot-index l.slots)) l.left ≡ slice_get (files_of l.slots) l.i;
}
