use Rattle.address_space.proofs.TierLemmas.{adding_keeps_tiers}
use Rattle.address_space.proofs.slot_laws.adding_keeps_tiers.Goals as goal

pub returns : goal.returns
returns c = adding_keeps_tiers
