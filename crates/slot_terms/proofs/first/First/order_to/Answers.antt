use Rattle.std.specs.declared.cmp.Ordering.TheVariants.{Less, Greater}
use Rattle.slot_terms.proofs.Firsts.{order_told}
use Rattle.slot_terms.proofs.first.First.order_to.Goals as goal

pub returns-in-Less : goal.returns-in-Less
returns-in-Less c = order_told c.args.self.now c.args.other.now Less c.requires.own c.requires.other c.in-Less.ensures (λ is. absurd cc)

pub returns-in-Greater : goal.returns-in-Greater
returns-in-Greater c = order_told c.args.self.now c.args.other.now Greater c.requires.own c.requires.other c.in-Greater.ensures (λ is. absurd cc)
