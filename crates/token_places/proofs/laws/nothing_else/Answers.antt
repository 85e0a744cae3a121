use Rattle.token_places.proofs.LawLemmas.{nothing_else}
use Rattle.token_places.proofs.laws.nothing_else.Goals as goal

pub returns : goal.returns
returns c = nothing_else
