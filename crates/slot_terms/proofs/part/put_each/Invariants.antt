use Rattle.slot_terms.proofs.LivePostings.{IsPut}
use Rattle.slot_terms.proofs.part.put_each.Given as goal

abbrev pub invariant-loop-address : goal.invariant-loop-address
invariant-loop-address l = IsPut l.mask l.members l.fn.addresses.items l.addresses.items l.address-index l.alive_from
