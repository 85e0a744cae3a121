use Rattle.std.proofs.Common.{◌≡◌, drop}
use Rattle.live_version.specs.Contents.{files_of}
use Rattle.live_version.specs.Changes.{file_with_id}
use Rattle.live_version.proofs.version.Version.find_file.Given as goal

-- no file so far has the id
abbrev pub invariant-loop-slot : goal.invariant-loop-slot
invariant-loop-slot l = file_with_id l.id.0 (files_of (drop l.slot-index l.slots)) ≡ file_with_id l.id.0 (files_of l.slots)
