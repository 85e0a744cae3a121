use Rattle.address_space.proofs.TierLemmas.{opening_makes_tiers}
use Rattle.address_space.proofs.slot_laws.opening_makes_tiers.Goals as goal

pub returns : goal.returns
returns c = opening_makes_tiers
