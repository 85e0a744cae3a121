use Rattle.std.proofs.Common.{◌≡◌, ◌+◌, ◌-◌, ◌<◌, suc, sym, ◌∙◌, arith}
use Rattle.index_shard.proofs.Heads.{leading_next, head_room, head_done}
use Rattle.index_shard.proofs.entry.head_of.Goals as goal

pub loop-i-preserved : goal.loop-i-preserved
loop-i-preserved c =
    let i = c.loop-i.i in
    let b = c.byte_at.result in
    let is = c.byte_at.ensures in
    let fits : b < 256 = omega (arith, is, c.type_inv.term i) in
    let next : 8 - i ≡ suc (8 - (i + 1)) = omega arith in
    record {
      read = sym (leading_next (8 - i) (8 - (i + 1)) c.loop-i.head i (i + 1) c.args.term.now b next (omega arith) is) ∙ c.loop-i.invariant.read;
      room = (head_room (8 - i) (8 - (i + 1)) c.loop-i.head b next fits c.loop-i.invariant.room).1;
    }

pub overflow_mul-head : goal.overflow_mul-head
overflow_mul-head c =
    let i = c.loop-i.i in
    let next : 8 - i ≡ suc (8 - (i + 1)) = omega arith in
    let small = (head_room (8 - i) (8 - (i + 1)) c.loop-i.head 0 next (omega arith) c.loop-i.invariant.room).0 in
    omega (arith, small)

pub overflow_add-head : goal.overflow_add-head
overflow_add-head c =
    let i = c.loop-i.i in
    let b = c.byte_at.result in
    let is = c.byte_at.ensures in
    let fits : b < 256 = omega (arith, is, c.type_inv.term i) in
    let next : 8 - i ≡ suc (8 - (i + 1)) = omega arith in
    let small = (head_room (8 - i) (8 - (i + 1)) c.loop-i.head b next fits c.loop-i.invariant.room).0 in
    omega (arith, small)

pub returns : goal.returns
returns c = head_done c.loop-i.i c.loop-i.head c.args.term.now _ c.loop-i.invariant.read (omega arith)
