use Rattle.std.proofs.Common.{◌≡◌, ◌++◌, map, flat_map, take, drop}
use Rattle.slot_terms.specs.Parts.{alive, head_postings, past}
use Rattle.slot_terms.proofs.terms.take_term.Given as goal

-- the parts so far are past the term, and the others are as they were
abbrev pub invariant-loop-part : goal.invariant-loop-part
invariant-loop-part l = record {
  addresses : l.addresses.items ≡ l.fn.addresses.items ++ flat_map (λ part. alive part.mask (head_postings part.left l.first.term.now)) (take l.part-index l.fn.parts);
  past : l.parts ≡ map (past l.first.term.now) (take l.part-index l.fn.parts) ++ drop l.part-index l.fn.parts;
}
