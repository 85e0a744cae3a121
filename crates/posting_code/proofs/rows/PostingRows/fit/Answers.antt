use Rattle.std.proofs.Common.{◌∙◌}
use Rattle.posting_code.proofs.InRows.{same_lists, same_rows}
use Rattle.posting_code.proofs.rows.PostingRows.fit.Goals as goal

pub invariant_of-self : goal.invariant_of-self
invariant_of-self c = same_rows _ _ _ _ _ _ c.fit_row.ensures c.fit_row-2.ensures c.fit_row-3.ensures c.self.invariant

pub returns : goal.returns
returns c = same_lists _ _ _ _ c.fit_row.ensures c.fit_row-3.ensures ∙ c.self.view_is
