use Rattle.slot_terms.proofs.Firsts.{first_at}
use Rattle.slot_terms.proofs.part.first_from.Goals as goal

pub returns-clause-first : goal.returns-clause-first
returns-clause-first c = first_at c.args.shard.now.table c.args.place _ c.head.ensures.value c.head.ensures.bytes c.term.ensures.value
