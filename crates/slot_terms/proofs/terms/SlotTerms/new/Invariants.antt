use Rattle.std.proofs.Common.{◌≡◌, map, take}
use Rattle.std.specs.List.{AllByRecursion}
use Rattle.slot_terms.specs.Parts.{IsPart, part_of}
use Rattle.slot_terms.proofs.terms.SlotTerms.new.Given as goal

-- the parts of the slots so far
abbrev pub invariant-loop-slot : goal.invariant-loop-slot
invariant-loop-slot l = record {
  same : l.parts.items ≡ map part_of (take l.slot-index l.slots);
  tables : AllByRecursion IsPart l.parts.items;
}
