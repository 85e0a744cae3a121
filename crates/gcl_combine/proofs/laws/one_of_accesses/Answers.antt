use Rattle.gcl_combine.proofs.OneOf.{first_start-one, last_end-one}
use Rattle.gcl_combine.proofs.laws.one_of_accesses.Goals as goal

pub returns : goal.returns
returns c = record { forward = first_start-one; backward = last_end-one }
