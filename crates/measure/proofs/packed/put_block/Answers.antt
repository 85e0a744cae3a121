use Rattle.std.proofs.Common.{◌+◌, ◌^◌, slice_index_or, arith}
use Rattle.posting_code.proofs.Rising.{rise_push}
use Rattle.measure.proofs.packed.put_block.Goals as goal

pub push-requires : goal.push-requires
push-requires c =
    let p = slice_index_or c.args.members.now c.loop-p.p-index 0 in
    rise_push 0 c.loop-p.next (2 ^ 56) c.loop-p.maker p c.loop-p.invariant.rising (omega arith) (omega arith) (omega arith)

pub loop-p-preserved : goal.loop-p-preserved
loop-p-preserved c =
    let p = slice_index_or c.args.members.now c.loop-p.p-index 0 in
    record {
      rising = rw c.in_ok-push.ensures.ok (rise_push 0 c.loop-p.next (p + 1) c.loop-p.maker p c.loop-p.invariant.rising (omega arith) (omega arith) (omega arith));
      below = omega arith;
    }
