use Rattle.std.specs.List.{concat}
use Rattle.slot_terms.proofs.Taken.{HasTaken}
use Rattle.slot_terms.proofs.terms.take_term_lists.Given as goal

-- the parts so far are past the term, and the others are as they were
abbrev pub invariant-loop-place : goal.invariant-loop-place
invariant-loop-place l = HasTaken l.least.first.term.now l.fn.parts l.parts (concat l.fn.lists.items) (concat l.lists.items) l.place
