use Rattle.address_space.proofs.TailLemmas.{tails_are_joined}
use Rattle.address_space.proofs.slot_laws.tails_are_joined.Goals as goal

pub returns : goal.returns
returns c = tails_are_joined
