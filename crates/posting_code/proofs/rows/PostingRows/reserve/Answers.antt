use Rattle.std.proofs.Common.{refl, ◌∙◌}
use Rattle.posting_code.proofs.InRows.{same_lists, same_rows}
use Rattle.posting_code.proofs.rows.PostingRows.reserve.Goals as goal

pub invariant_of-self : goal.invariant_of-self
invariant_of-self c = same_rows _ _ _ _ _ _ c.reserve.ensures.items refl refl c.self.invariant

pub returns-in_err-reserve : goal.returns-in_err-reserve
returns-in_err-reserve c = same_lists _ _ _ _ c.reserve.ensures.items refl ∙ c.self.view_is

pub invariant_of-self-in_err-reserve-2 : goal.invariant_of-self-in_err-reserve-2
invariant_of-self-in_err-reserve-2 c = same_rows _ _ _ _ _ _ c.reserve.ensures.items c.reserve-2.ensures.items refl c.self.invariant

pub returns-in_err-reserve-2 : goal.returns-in_err-reserve-2
returns-in_err-reserve-2 c = same_lists _ _ _ _ c.reserve.ensures.items refl ∙ c.self.view_is

pub invariant_of-self-in_err-reserve-3 : goal.invariant_of-self-in_err-reserve-3
invariant_of-self-in_err-reserve-3 c = same_rows _ _ _ _ _ _ c.reserve.ensures.items c.reserve-2.ensures.items c.reserve-3.ensures.items c.self.invariant

pub returns-in_err-reserve-3 : goal.returns-in_err-reserve-3
returns-in_err-reserve-3 c = same_lists _ _ _ _ c.reserve.ensures.items c.reserve-3.ensures.items ∙ c.self.view_is

pub invariant_of-self-2 : goal.invariant_of-self-2
invariant_of-self-2 c = same_rows _ _ _ _ _ _ c.reserve.ensures.items c.reserve-2.ensures.items c.reserve-3.ensures.items c.self.invariant

pub returns : goal.returns
returns c = same_lists _ _ _ _ c.reserve.ensures.items c.reserve-3.ensures.items ∙ c.self.view_is
