use Rattle.manifest_publish.proofs.PlaceLemmas.{number-place}
use Rattle.manifest_publish.proofs.laws.numbers_are_places.Goals as goal

pub returns : goal.returns
returns c = number-place
