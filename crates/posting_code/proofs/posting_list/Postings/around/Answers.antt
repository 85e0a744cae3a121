use Rattle.std.proofs.Common.{refl, sym, ap, ◌∙◌, reverse, find, nat_lt, nat_le}
use Rattle.posting_code.proofs.Around.{ready_block}
use Rattle.posting_code.proofs.posting_list.Postings.around.Goals as goal

pub around_in-requires : goal.around_in-requires
around_in-requires c =
    let ready = ready_block _ _ _ _ _ _ _ _ _ _ c.self.view_is c.self.invariant.parts c.requires refl refl c.head_of-head.ensures c.min-behind.ensures in
    record { can = ready.can; enough = ready.enough }

pub returns-clause-below : goal.returns-clause-below
returns-clause-below c =
    let ready = ready_block _ _ _ _ _ _ _ _ _ _ c.self.view_is c.self.invariant.parts c.requires refl refl c.head_of-head.ensures c.min-behind.ensures in
    c.around_in.ensures.below ∙ ap (λ xs. find (λ p. nat_lt p c.args.k) (reverse xs)) (sym ready.is)

pub returns-clause-from : goal.returns-clause-from
returns-clause-from c =
    let ready = ready_block _ _ _ _ _ _ _ _ _ _ c.self.view_is c.self.invariant.parts c.requires refl refl c.head_of-head.ensures c.min-behind.ensures in
    c.around_in.ensures.from ∙ ap (λ xs. find (λ p. nat_le c.args.k p) xs) (sym ready.is)
