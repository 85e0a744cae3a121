use Rattle.std.proofs.Common.{arith, ◌∙◌}
use Rattle.index_shard.proofs.Heads.{shorter_first}
use Rattle.slot_terms.proofs.first.order_alike.Goals as goal

pub returns-then-first-le8 : goal.returns-then-first-le8
returns-then-first-le8 c = c.cmp.ensures ∙ shorter_first 8 0 c.args.first.now c.args.second.now c.requires.first c.requires.second (omega arith) c.requires.head
