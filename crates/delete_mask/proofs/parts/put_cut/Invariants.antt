use Rattle.std.proofs.Common.{◌≡◌, ◌++◌, length}
use Rattle.std.specs.List.{AllByRecursion}
use Rattle.gcl_model.specs.Limits.{address_end}
use Rattle.gcl_model.specs.Slots.{AreRangesWithin}
use Rattle.delete_mask.specs.Parts.{IsInhabited, ranges_in}
use Rattle.delete_mask.proofs.parts.put_cut.Given as goal

-- the parts so far, and what is left, are the ranges
abbrev pub invariant-loop-rest : goal.invariant-loop-rest
invariant-loop-rest l = record {
  whole : ranges_in l.into.items ++ l.rest ≡ ranges_in l.fn.into.items ++ l.ranges;
  inhabited : AllByRecursion IsInhabited l.fn.into.items → AllByRecursion IsInhabited l.into.items;
  apart : AreRangesWithin 0 address_end l.rest;
}

abbrev pub decreases-loop-rest : goal.decreases-loop-rest
decreases-loop-rest l = length l.rest
