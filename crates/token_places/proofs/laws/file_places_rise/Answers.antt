use Rattle.token_places.proofs.OrderLemmas.{file_places_rise}
use Rattle.token_places.proofs.laws.file_places_rise.Goals as goal

pub returns : goal.returns
returns c = file_places_rise
