use Rattle.std.proofs.Common.{◌^◌, ap, arith}
use Rattle.posting_code.proofs.Rising.{rise_wider}
use Rattle.index_shard.proofs.maker.ShardMaker.push_term.Goals as goal

pub encode-requires : goal.encode-requires
encode-requires c =
    let last = ap (λ s. s.range.last) c.self.view_is in
    let small = c.self.invariant.in_range in
    rise_wider _ 0 _ (2 ^ 56) _ c.requires.postings.rising (omega arith) (omega (arith, last, small))
