use Rattle.std.proofs.Common.{◌≡◌, length, filter, take}
use Rattle.delete_mask.specs.Parts.{ranges_in}
use Rattle.live_version.specs.LookUps.{is_alive}
use Rattle.live_version.proofs.counts.count_left.Given as goal

-- what the parts so far have is taken off
abbrev pub invariant-loop-part : goal.invariant-loop-part
invariant-loop-part l = l.count ≡ length (filter (is_alive (ranges_in (take l.part-index l.parts))) l.list)
