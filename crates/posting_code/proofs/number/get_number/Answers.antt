use Rattle.std.proofs.Common.{arith}
use Rattle.posting_code.proofs.Numbers.{number_some, number_none}
use Rattle.posting_code.proofs.number.get_number.Goals as goal

pub returns : goal.returns
returns c = record {
  some = number_some c.args.bytes.now c.args.at c.number_from.result (λ i. omega (arith, c.type_inv.bytes i)) c.number_from.ensures;
  none = number_none c.args.bytes.now c.args.at c.number_from.result (λ i. omega (arith, c.type_inv.bytes i)) c.number_from.ensures;
}
