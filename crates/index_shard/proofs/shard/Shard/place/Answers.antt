use Rattle.index_shard.proofs.shard.Shard.place.Goals as goal

pub place-requires : goal.place-requires
place-requires c = (c.self.inside.range, c.self.invariant.table)
