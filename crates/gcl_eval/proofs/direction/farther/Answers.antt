use Rattle.std.proofs.Common.{◌≡◌, sym, subst}
use Rattle.gcl_model.specs.Directions.{farther, far_side}
use Rattle.gcl_model.specs.declared.direction.Direction.{Direction}
use Rattle.gcl_eval.proofs.direction.farther.Goals as goal

pub returns-in-Forward : goal.returns-in-Forward
returns-in-Forward c = subst (λ (d : Direction). c.both_forward_end.result ≡ farther d c.args.so_far (far_side d c.args.answer)) (sym c.in-Forward.is) c.both_forward_end.ensures

pub returns-in-Backward : goal.returns-in-Backward
returns-in-Backward c = subst (λ (d : Direction). c.both_backward_start.result ≡ farther d c.args.so_far (far_side d c.args.answer)) (sym c.in-Backward.is) c.both_backward_start.ensures
