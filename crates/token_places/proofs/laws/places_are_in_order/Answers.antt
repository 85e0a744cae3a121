use Rattle.token_places.proofs.OrderLemmas.{places_are_in_order}
use Rattle.token_places.proofs.laws.places_are_in_order.Goals as goal

pub returns : goal.returns
returns c = places_are_in_order
