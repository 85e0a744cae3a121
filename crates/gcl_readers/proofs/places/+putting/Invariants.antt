use Rattle.std.proofs.Common.{◌≡◌, ◌++◌, drop}
use Rattle.gcl_eval.specs.Operands.{operand_forms}
use Rattle.gcl_readers.specs.NewPlaces.{new_places_of}
use Rattle.gcl_readers.proofs.places.+putting.Given as goal

-- the places that were put, and then those that are left to put, are all
abbrev pub invariant-put_all-loop-operand : goal.invariant-put_all-loop-operand
invariant-put_all-loop-operand l =
    l.places.items ++ new_places_of (operand_forms (drop l.operand-index l.operands)) ≡ l.fn.places.items ++ new_places_of (operand_forms l.operands)
