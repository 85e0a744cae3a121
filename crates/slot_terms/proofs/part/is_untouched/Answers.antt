use Rattle.std.proofs.Common.{sym}
use Rattle.slot_terms.proofs.LivePostings.{ends_rise, untouched}
use Rattle.slot_terms.proofs.part.is_untouched.Goals as goal

pub invariant_of-is_apart : goal.invariant_of-is_apart
invariant_of-is_apart c = ends_rise c.args.members.now c.in-Some-Some.first.now c.in-Some-Some.last.now c.requires (sym c.in-Some-Some.ensures.value) (sym c.in-Some-Some.ensures'.value)

pub returns-in-Some-Some : goal.returns-in-Some-Some
returns-in-Some-Some c = λ is.
    untouched c.args.mask.now c.args.members.now c.in-Some-Some.first.now c.in-Some-Some.last.now c.requires (sym c.in-Some-Some.ensures.value) (sym c.in-Some-Some.ensures'.value)
    (c.is_apart.ensures.0 is)
