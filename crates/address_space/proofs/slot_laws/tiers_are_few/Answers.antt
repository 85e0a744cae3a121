use Rattle.address_space.proofs.TierLemmas.{tiers_are_few}
use Rattle.address_space.proofs.slot_laws.tiers_are_few.Goals as goal

pub returns : goal.returns
returns c = tiers_are_few
