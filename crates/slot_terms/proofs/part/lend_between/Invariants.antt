use Rattle.std.specs.List.{concat}
use Rattle.slot_terms.proofs.Between.{IsBetween}
use Rattle.slot_terms.proofs.part.lend_between.Given as goal

-- what is before the ranges so far is put
abbrev pub invariant-loop-range : goal.invariant-loop-range
invariant-loop-range l = IsBetween l.ranges l.fn.block (concat l.fn.lists.items) (concat l.lists.items) l.rest l.range-index
