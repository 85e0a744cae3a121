use Rattle.std.proofs.Common.{◌^◌, ap, arith, refl}
use Rattle.posting_code.proofs.Rising.{rise_wider}
use Rattle.index_shard.proofs.TableLaws.{shard_push}
use Rattle.index_shard.proofs.maker.ShardMaker.push_parts.Goals as goal

pub push_parts-requires : goal.push_parts-requires
push_parts-requires c =
    let last = ap (λ s. s.range.last) c.self.view_is in
    let small = c.self.invariant.in_range in
    record {
      head = c.requires.head;
      postings = rise_wider _ 0 _ (2 ^ 56) _ c.requires.postings.rising (omega arith) (omega (arith, last, small));
    }

pub invariant_of-self-2 : goal.invariant_of-self-2
invariant_of-self-2 c =
    shard_push c.args.self.now c.self.inside.range c.self.inside.table c.self.view_is c.self.invariant _ _ _ _ refl refl
    c.requires.postings c.requires.rising c.requires.apart _ c.in_ok-push_parts.ensures.ok
