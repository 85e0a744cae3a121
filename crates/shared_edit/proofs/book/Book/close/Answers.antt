use Rattle.shared_edit.proofs.FileCount.{is-closed}
use Rattle.shared_edit.proofs.book.Book.close.Goals as goal

pub invariant_of-result : goal.invariant_of-result
invariant_of-result g c = is-closed c.into_parts-engine.result.0 c.into_parts-engine.result.1.items c.into_parts-engine.ensures.of

pub returns-clause-of : goal.returns-clause-of
returns-clause-of g c = invariant_of-result g c
