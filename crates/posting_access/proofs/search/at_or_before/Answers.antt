use Rattle.std.proofs.Common.{◌≡◌, ◌∙◌, sym, subst, arith}
use Rattle.posting_access.proofs.Searches.{IsNear, greatest_first, greatest_found}
use Rattle.posting_access.proofs.search.at_or_before.Goals as goal

pub returns-in_err-last-clause-answer : goal.returns-in_err-last-clause-answer
returns-in_err-last-clause-answer g c =
    let e = c.blocks_up_to-near.ensures in
    let none = c.in_err-last.ensures in
    let first : c.blocks_up_to-near.result ≡ 0 = omega arith in
    let near : IsNear c.args.list.now c.args.k c.blocks_up_to-near.result = record { rising = e.rising; within = e.within; before = e.before; after = e.after } in
    c.from_residual.ensures ∙ sym (greatest_first _ _ (subst (IsNear c.args.list.now c.args.k) first near))

pub returns-clause-answer : goal.returns-clause-answer
returns-clause-answer g c =
    let e = c.blocks_up_to-near.ensures in
    let last = c.in_ok-last.ensures in
    greatest_found _ _ c.in_ok-last.last c.blocks_up_to-near.result _ _ record { rising = e.rising; within = e.within; before = e.before; after = e.after } (omega arith) c.saturating_add.ensures c.around.ensures.below
