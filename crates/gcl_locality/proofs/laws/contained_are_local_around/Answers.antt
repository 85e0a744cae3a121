use Rattle.gcl_locality.proofs.Locality.{inside_local, not_inside_local}
use Rattle.gcl_locality.proofs.laws.contained_are_local_around.Goals as goal

pub returns : goal.returns
returns c = record {
  inside = λ old new a b p q plain agree same. inside_local old new p q agree a b plain same;
  not_inside = λ old new a b p q plain agree same. not_inside_local old new p q agree a b plain same;
}
