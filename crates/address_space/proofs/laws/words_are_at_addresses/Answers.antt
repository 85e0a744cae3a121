use Rattle.address_space.proofs.WordLemmas.{words_are_at_addresses}
use Rattle.address_space.proofs.laws.words_are_at_addresses.Goals as goal

pub returns : goal.returns
returns c = words_are_at_addresses
