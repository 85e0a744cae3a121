use Rattle.std.specs.List.{AllByRecursion}
use Rattle.slot_terms.specs.Parts.{IsPart}
use Rattle.index_tests.proofs.live_postings.terms_come_in_byte_order_with_their_live_postings.Given as goal

-- what is still to come are entries of tables
abbrev pub invariant-loop-term : goal.invariant-loop-term
invariant-loop-term g l = AllByRecursion IsPart l.terms
