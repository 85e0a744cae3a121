use Rattle.gcl_locality.proofs.Locality.{member_local}
use Rattle.gcl_locality.proofs.laws.members_are_local.Goals as goal

pub returns : goal.returns
returns c = λ old new form p q plain agree. member_local old new p q agree form plain
