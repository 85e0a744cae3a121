use Rattle.std.proofs.Common.{take}
use Rattle.slot_terms.specs.Leasts.{IsLeastOf}
use Rattle.slot_terms.proofs.least.least_of.Given as goal

-- the least of the parts so far
abbrev pub invariant-loop-place : goal.invariant-loop-place
invariant-loop-place l = IsLeastOf (take l.place l.parts) l.least
