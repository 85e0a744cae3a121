use Rattle.index_shard.proofs.shard.Shard.term_from.Goals as goal

pub term_from-requires : goal.term_from-requires
term_from-requires c = (c.self.inside.range, c.self.invariant.table)
