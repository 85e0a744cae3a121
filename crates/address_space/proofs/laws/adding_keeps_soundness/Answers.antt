use Rattle.address_space.proofs.CollectionLemmas.{adding_keeps_soundness}
use Rattle.address_space.proofs.laws.adding_keeps_soundness.Goals as goal

pub returns : goal.returns
returns c = adding_keeps_soundness
