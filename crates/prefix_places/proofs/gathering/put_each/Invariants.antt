use Rattle.slot_terms.proofs.LivePostings.{IsPut}
use Rattle.prefix_places.proofs.gathering.put_each.Given as goal

abbrev pub invariant-loop-place : goal.invariant-loop-place
invariant-loop-place l = IsPut l.mask l.all l.fn.places.items l.places.items l.place-index l.alive_from
