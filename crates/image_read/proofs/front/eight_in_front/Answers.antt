use Rattle.std.proofs.Common.{arith}
use Rattle.image_read.proofs.Fronts.{fixed_front}
use Rattle.image_read.proofs.front.eight_in_front.Goals as goal

pub returns-clause-some : goal.returns-clause-some
returns-clause-some c =
    fixed_front 8 c.args.bytes.now c.in_ok-front.front.text.now c.in_ok-front.front.rest.now c.read_u64.result (λ i. omega (arith, c.type_inv.bytes i)) c.in_ok-front.ensures.some c.read_u64.ensures
