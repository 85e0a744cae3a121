use Rattle.address_space.proofs.CollectionLemmas.{start_is_sound}
use Rattle.address_space.proofs.laws.start_is_sound.Goals as goal

pub returns : goal.returns
returns c = start_is_sound
