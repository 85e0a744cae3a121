use Rattle.gcl_locality.proofs.Locality.{changes_local}
use Rattle.gcl_locality.proofs.laws.changes_are_local.Goals as goal

pub returns : goal.returns
returns c = λ old new from upto form agree. changes_local old new from upto agree form
