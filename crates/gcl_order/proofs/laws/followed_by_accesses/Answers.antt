use Rattle.gcl_order.proofs.SeqAccess.{seq_forward, seq_backward}
use Rattle.gcl_order.proofs.SeqFarAccess.{seq_from_last, seq_from_first}
use Rattle.gcl_order.proofs.laws.followed_by_accesses.Goals as goal

pub returns : goal.returns
returns c = record { forward = seq_forward; backward = seq_backward; from_last = seq_from_last; from_first = seq_from_first }
