use Rattle.std.proofs.Common.{◌≡◌, ap, sym, ◌∙◌, subst, arith}
use Rattle.posting_access.specs.Search.{greatest_to}
use Rattle.posting_access.proofs.Searches.{IsNear, greatest_first, greatest_near}
use Rattle.term_fingers.proofs.finger.Finger.greatest_far.Goals as goal

pub returns-in_err-last : goal.returns-in_err-last
returns-in_err-last g c =
    let e = c.blocks_up_to-near.ensures in
    let none = c.in_err-last.ensures in
    let first : c.blocks_up_to-near.result ≡ 0 = omega arith in
    let near : IsNear c.args.list.now c.args.k c.blocks_up_to-near.result = record { rising = e.rising; within = e.within; before = e.before; after = e.after } in
    c.from_residual.ensures ∙ sym (greatest_first _ _ (subst (IsNear c.args.list.now c.args.k) first near))

pub returns : goal.returns
returns g c =
    let e = c.blocks_up_to-near.ensures in
    let last = c.in_ok-last.ensures in
    c.greatest_in-found.ensures ∙ ap (λ xs. greatest_to xs c.args.k) c.read.ensures.members
    ∙ sym (greatest_near _ _ c.in_ok-last.last c.blocks_up_to-near.result record { rising = e.rising; within = e.within; before = e.before; after = e.after } (omega arith))
