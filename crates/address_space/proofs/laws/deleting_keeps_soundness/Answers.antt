use Rattle.address_space.proofs.CollectionLemmas.{deleting_keeps_soundness}
use Rattle.address_space.proofs.laws.deleting_keeps_soundness.Goals as goal

pub returns : goal.returns
returns c = deleting_keeps_soundness
