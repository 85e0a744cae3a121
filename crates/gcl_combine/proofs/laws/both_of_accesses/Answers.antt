use Rattle.gcl_combine.proofs.BothOf.{first_start-both, last_end-both}
use Rattle.gcl_combine.proofs.laws.both_of_accesses.Goals as goal

pub returns : goal.returns
returns c = record { forward = first_start-both; backward = last_end-both }
