use Rattle.std.proofs.Common.{refl, arith}
use Rattle.index_shard.proofs.PartEnds.{ends_same, ends_begin, ends_more, few_together}
use Rattle.index_shard.proofs.parts.ends_behind.Goals as goal

pub overflow_add-result : goal.overflow_add-result
overflow_add-result c =
    let counted = c.requires.1.count in
    let few = few_together c.requires.0 c.args.list.now c.requires.2 in
    omega (arith, counted, few, c.len-count.ensures.value)

pub returns-then-count-eq0 : goal.returns-then-count-eq0
returns-then-count-eq0 c = λ front are rising. ends_same c.args.ends front c.args.list.now are (omega (arith, c.if-count-eq0.true, c.len-count.ensures.value))

pub returns-then-ends-eq0 : goal.returns-then-ends-eq0
returns-then-ends-eq0 c = λ front are rising.
    ends_begin c.args.ends _ front c.args.list.now are (omega (arith, c.if-ends-eq0.true)) (c.first-first.ensures (omega (arith, c.if-count-eq0.false, c.len-count.ensures.value))) c.last-last.ensures c.len-count.ensures.value

pub returns : goal.returns
returns c = λ front are rising.
    ends_more c.args.ends _ front c.args.list.now are (omega (arith, c.if-ends-eq0.false)) (omega (arith, c.if-count-eq0.false, c.len-count.ensures.value)) refl c.last-last.ensures (omega (arith, c.len-count.ensures.value))
