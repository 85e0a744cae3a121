use Rattle.std.proofs.Common.{◌<◌, length, arith}
use Rattle.slot_terms.proofs.Between.{is_stretch, apart_alive}
use Rattle.slot_terms.proofs.part.is_apart.Goals as goal

pub invariant_of-is_apart : goal.invariant_of-is_apart
invariant_of-is_apart c =
    let some : 0 < length c.args.list.now = omega (arith, c.if-len-eq0.false, c.len.ensures.value) in
    is_stretch c.args.list.now c.first.result c.last.result c.len.ensures.rising some (c.first.ensures some) c.last.ensures

pub returns : goal.returns
returns c = λ is.
    let some : 0 < length c.args.list.now = omega (arith, c.if-len-eq0.false, c.len.ensures.value) in
    apart_alive c.args.mask.now c.args.list.now c.first.result c.last.result c.len.ensures.rising some (c.first.ensures some) c.last.ensures (c.is_apart.ensures.0 is)
