use Rattle.index_shard.proofs.shard.Shard.look_up_probed.Goals as goal

pub find_postings-requires : goal.find_postings-requires
find_postings-requires g c = (c.self.inside.range, c.self.invariant.table)
