use Rattle.std.proofs.Common.{◌∙◌, arith}
use Rattle.posting_access.proofs.Searches.{least_found, least_not_found}
use Rattle.term_fingers.proofs.finger.Finger.least_far.Goals as goal

pub returns-in-Some-least_in_block : goal.returns-in-Some-least_in_block
returns-in-Some-least_in_block g c =
    let e = c.blocks_up_to-near.ensures in
    least_found _ _ _ c.blocks_up_to-near.result _ record { rising = e.rising; within = e.within; before = e.before; after = e.after } (omega (arith, c.saturating_sub.ensures)) (omega (arith, c.len.ensures.value)) c.in-Some-least_in_block.ensures

pub returns-in-None : goal.returns-in-None
returns-in-None g c =
    let e = c.blocks_up_to-near.ensures in
    c.first_of.ensures
    ∙ least_not_found _ _ _ c.blocks_up_to-near.result record { rising = e.rising; within = e.within; before = e.before; after = e.after } (omega (arith, c.saturating_sub.ensures)) (omega (arith, c.len.ensures.value)) c.in-None.ensures
