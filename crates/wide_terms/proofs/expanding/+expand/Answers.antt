use Rattle.std.proofs.Common.{List, map, ap, ◌∙◌, arith}
use Rattle.std.proofs.lemmas.List.{take_all}
use Rattle.gcl_model.specs.FormOf.{form_of, forms_from}
use Rattle.gcl_model.specs.declared.expr.Expr.{Expr}
use Rattle.wide_terms.specs.Expansion.{expansion}
use Rattle.wide_terms.proofs.Shaping.{expanded_more, expansions_each, sums_more, sums_upto}
use Rattle.wide_terms.proofs.expanding.+expand.Goals as goal

pub expanded_each-returns-in_err-expanded-clause-cost : goal.expanded_each-returns-in_err-expanded-clause-cost
expanded_each-returns-in_err-expanded-clause-cost g t c =
    let before = c.loop-operand.invariant.cost in
    let here = c.expanded.ensures.cost in
    omega (arith, before, here, sums_upto (g.T.WordTable.most c.args.table.now) c.args.operands.now c.loop-operand.operand-index c.operand-item.result c.loop-operand-test.true c.operand-item.is)

pub expanded_each-returns-in_err-push-clause-cost : goal.expanded_each-returns-in_err-push-clause-cost
expanded_each-returns-in_err-push-clause-cost g t c =
    let before = c.loop-operand.invariant.cost in
    let here = c.expanded.ensures.cost in
    omega (arith, before, here, sums_upto (g.T.WordTable.most c.args.table.now) c.args.operands.now c.loop-operand.operand-index c.operand-item.result c.loop-operand-test.true c.operand-item.is)

pub expanded_each-loop-operand-preserved : goal.expanded_each-loop-operand-preserved
expanded_each-loop-operand-preserved g t c =
    let operands = c.args.operands.now in
    let i = c.loop-operand.operand-index in
    let operand = c.operand-item.result in
    let before = c.loop-operand.invariant in
    let here = c.expanded.ensures in
    record {
      value = ap (map form_of) c.in_ok-push.ensures.items
          ∙ expanded_more (g.T.WordTable.text c.args.table.now) c.loop-operand.exprs.items operands i operand c.in_ok-expanded.field-0 c.loop-operand-test.true c.operand-item.is before.value c.in_ok-expanded.ensures.value;
      counted = omega (arith, before.counted, here.counted);
      cost = omega (arith, before.cost, here.cost, sums_more (g.T.WordTable.most c.args.table.now) operands i operand c.loop-operand-test.true c.operand-item.is);
    }

pub expanded_each-returns-clause-value : goal.expanded_each-returns-clause-value
expanded_each-returns-clause-value g t c =
    let text = g.T.WordTable.text c.args.table.now in
    ap forms_from (c.loop-operand.invariant.value ∙ ap (λ (exprs : List Expr). map (expansion text) (map form_of exprs)) (take_all c.loop-operand.operand-index c.args.operands.now c.loop-operand-test.false))
    ∙ expansions_each text (map form_of c.args.operands.now)
