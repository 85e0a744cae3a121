use Rattle.address_space.proofs.TierLemmas.{merging_keeps_tiers}
use Rattle.address_space.proofs.slot_laws.merging_keeps_tiers.Goals as goal

pub returns : goal.returns
returns c = merging_keeps_tiers
