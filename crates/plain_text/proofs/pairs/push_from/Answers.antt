use Rattle.std.proofs.Common.{◌+◌, ◌++◌, ◌∷◌, [], sym, ◌∙◌, ap}
use Rattle.plain_text.proofs.Rows.{row_put, row_pass, row}
use Rattle.plain_text.proofs.pairs.push_from.Goals as goal
use Rattle.plain_text.proofs.pairs.push_from.Goals.{then-passes+in_ok-push, else-passes}

pub loop-end-preserved : goal.loop-end-preserved
loop-end-preserved g c =
    let test = g.T.PairTest.test c.args.test.now in
    let p = c.args.start in
    let next = c.args.next in
    let q = c.loop-end.end in
    let whole = c.args.list.now ++ row test p p next in
    let passed = c.passes.ensures ∙ ap test c.new-pair.ensures in
    elim c.if-passes.branch [
      | then-passes+in_ok-push w ↦
          row_put test p q next c.loop-end.list c.if-passes.list whole c.loop-end-test.true (sym passed ∙ w.if-passes.true) (w.list-is ∙ w.in_ok-push.ensures.ok ∙ ap (λ e. c.loop-end.list ++ e ∷ []) c.new-pair.ensures) c.loop-end.invariant
      | else-passes w ↦
          ap (λ l. l ++ row test p (q + 1) next) w.list-is ∙ row_pass test p q next c.loop-end.list whole c.loop-end-test.true (sym passed ∙ w.if-passes.false) c.loop-end.invariant
    ]
