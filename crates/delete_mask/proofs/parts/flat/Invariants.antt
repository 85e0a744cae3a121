use Rattle.std.proofs.Common.{◌≡◌, take}
use Rattle.delete_mask.specs.Parts.{ranges_in}
use Rattle.delete_mask.proofs.parts.flat.Given as goal

-- the ranges of the parts so far
abbrev pub invariant-loop-part : goal.invariant-loop-part
invariant-loop-part l = l.ranges.items ≡ ranges_in (take l.part-index l.parts)
