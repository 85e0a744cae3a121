use Rattle.std.proofs.Common.{◌++◌, ◌+◌, drop, length, ap, sym, ◌∙◌, arith}
use Rattle.std.specs.List.{concat}
use Rattle.std.proofs.lemmas.List.{length-append, nil_from_length}
use Rattle.std.proofs.Math.ListN.{drop_of_length-le}
use Rattle.gcl_model.proofs.Lists.{drop_here}
use Rattle.shard_merge.proofs.merged.has_some.Goals as goal

pub returns-then-len-gt0-clause-some : goal.returns-then-len-gt0-clause-some
returns-then-len-gt0-clause-some c = λ is.
    let rest = drop (c.loop-list.list-index + 1) c.args.lists.now in
    let cut = drop_here c.args.lists.now c.loop-list.list-index c.list-item.result c.loop-list-test.true c.list-item.is in
    let both = ap length (sym c.loop-list.invariant ∙ ap concat cut) ∙ length-append c.list-item.result (concat rest) in
    omega (arith, both, c.if-len-gt0.true, c.len.ensures.value)

pub loop-list-preserved : goal.loop-list-preserved
loop-list-preserved c =
    let rest = drop (c.loop-list.list-index + 1) c.args.lists.now in
    let cut = drop_here c.args.lists.now c.loop-list.list-index c.list-item.result c.loop-list-test.true c.list-item.is in
    let none = nil_from_length c.list-item.result (omega (arith, c.if-len-gt0.false, c.len.ensures.value)) in
    ap (λ l. l ++ concat rest) (sym none) ∙ sym (ap concat cut) ∙ c.loop-list.invariant

pub returns-clause-none : goal.returns-clause-none
returns-clause-none c = λ is. sym c.loop-list.invariant ∙ ap concat (drop_of_length-le c.args.lists.now c.loop-list-test.false)
