use Rattle.std.proofs.Common.{◌∙◌, arith}
use Rattle.posting_access.proofs.Searches.{least_found, least_not_found, probed_after}
use Rattle.posting_access.proofs.search.at_or_after.Goals as goal

pub returns-in-Some-clause-answer : goal.returns-in-Some-clause-answer
returns-in-Some-clause-answer g c =
    let e = c.blocks_up_to-near.ensures in
    least_found _ _ _ _ _ record { rising = e.rising; within = e.within; before = e.before; after = e.after } (omega (arith, c.saturating_sub.ensures)) (omega (arith, c.len.ensures.value)) (c.in-Some.ensures)

pub returns-in-None-clause-answer : goal.returns-in-None-clause-answer
returns-in-None-clause-answer g c =
    let e = c.blocks_up_to-near.ensures in
    c.first_of_block.ensures.answer
    ∙ least_not_found _ _ _ _ record { rising = e.rising; within = e.within; before = e.before; after = e.after } (omega (arith, c.saturating_sub.ensures)) (omega (arith, c.len.ensures.value)) (c.in-None.ensures)

pub returns-in-None-clause-probes : goal.returns-in-None-clause-probes
returns-in-None-clause-probes g c =
    let e = c.blocks_up_to-near.ensures in
    probed_after _ _ _ _ _ _ _ _ record { rising = e.rising; within = e.within; before = e.before; after = e.after } (omega (arith, c.saturating_sub.ensures)) (omega (arith, c.len.ensures.value)) (c.in-None.ensures)
    c.first_of_block.ensures.answer e.probes c.first_of_block.ensures.probe
