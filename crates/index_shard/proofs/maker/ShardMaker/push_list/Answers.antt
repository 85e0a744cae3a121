use Rattle.std.proofs.Common.{refl}
use Rattle.index_shard.proofs.TableLaws.{shard_push}
use Rattle.index_shard.proofs.maker.ShardMaker.push_list.Goals as goal

pub invariant_of-self-2 : goal.invariant_of-self-2
invariant_of-self-2 c =
    shard_push c.args.self.now c.self.inside.range c.self.inside.table c.self.view_is c.self.invariant _ _ _ _ refl refl
    c.requires.postings c.requires.rising c.requires.apart _ c.in_ok-push.ensures.ok
