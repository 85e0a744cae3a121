use Rattle.token_places.proofs.PlaceLemmas.{tokens_have_places, places_are_as_many, file_places_are_as_many}
use Rattle.token_places.proofs.laws.tokens_have_places.Goals as goal

pub returns : goal.returns
returns c = record { tokens = tokens_have_places; as_many = places_are_as_many; of_file = file_places_are_as_many }
