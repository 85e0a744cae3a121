use Rattle.token_places.proofs.LawLemmas.{places_give_their_tokens}
use Rattle.token_places.proofs.laws.places_give_their_tokens.Goals as goal

pub returns : goal.returns
returns c = places_give_their_tokens
