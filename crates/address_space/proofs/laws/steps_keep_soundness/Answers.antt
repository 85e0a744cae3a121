use Rattle.address_space.proofs.CollectionLemmas.{steps_keep_soundness}
use Rattle.address_space.proofs.laws.steps_keep_soundness.Goals as goal

pub returns : goal.returns
returns c = steps_keep_soundness
