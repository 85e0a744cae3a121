use Rattle.std.proofs.Common.{◌+◌, None, drop, get_or, sym, subst, arith}
use Rattle.gcl_model.specs.FormOf.{form_of}
use Rattle.gcl_model.specs.Meaning.{concordance}
use Rattle.gcl_model.proofs.Lists.{drop_here}
use Rattle.gcl_eval.specs.Operands.{operand_lists}
use Rattle.gcl_combine.specs.Directions.{best}
use Rattle.gcl_eval.specs.KnownAnswers.{IsKnown, AreKnown}
use Rattle.gcl_model.specs.declared.direction.Direction.TheVariants.{Forward}
use Rattle.gcl_eval.specs.declared.direction.Access.TheVariants.{FirstStart}
use Rattle.gcl_eval.proofs.OperandLemmas.{costs_beside, parts_beside}
use Rattle.gcl_eval.proofs.ChainSteps.{best_next, best_all}
use Rattle.gcl_eval.proofs.KnownLemmas.{operand_list_at, known_kept, nearer_within}
use Rattle.gcl_eval.proofs.onward.first_of_one.Goals as goal

pub known_access-requires-clause-known : goal.known_access-requires-clause-known
known_access-requires-clause-known g c =
    let text = g.C.CountedLeaves.text c.args.source.now in
    let item = c.index-operands-number.result in
    let at = operand_list_at text c.args.operands.now c.loop-number.number item c.loop-number-test.true c.index-operands-number.is in
    subst (λ o. IsKnown FirstStart (concordance text (form_of item)) o) (sym c.known_of-last.ensures)
    (subst (λ list. IsKnown FirstStart list (get_or c.loop-number.known c.loop-number.number None)) at (c.loop-number.invariant.known c.loop-number.number))

pub loop-number-preserved : goal.loop-number-preserved
loop-number-preserved g c =
    let text = g.C.CountedLeaves.text c.args.source.now in
    let lists = operand_lists text c.args.operands.now in
    let item = c.index-operands-number.result in
    let rest = drop c.loop-number.number c.args.operands.now in
    let others = drop (c.loop-number.number + 1) c.args.operands.now in
    let here = drop_here c.args.operands.now c.loop-number.number item c.loop-number-test.true c.index-operands-number.is in
    let at = operand_list_at text c.args.operands.now c.loop-number.number item c.loop-number-test.true c.index-operands-number.is in
    let costs = costs_beside Forward text (g.C.CountedLeaves.most c.args.source.now) rest item others here in
    record {
      operands = (parts_beside Forward rest item others here c.loop-number.invariant.operands).rest;
      answer = rw c.better-best.ensures (best_next Forward text rest others item here c.args.k c.loop-number.best (best Forward lists c.args.k None) c.loop-number.invariant.answer c.in_ok-answer.answer c.in_ok-answer.ensures.answer);
      within = rw c.better-best.ensures (nearer_within c.loop-number.best c.in_ok-answer.answer c.loop-number.invariant.within c.in_ok-answer.ensures.within);
      known = subst (λ known. AreKnown lists known) (sym c.keep.ensures)
          (known_kept lists c.loop-number.known c.loop-number.invariant.known c.loop-number.number c.known_access.new.known
          (subst (λ list. IsKnown FirstStart list c.known_access.new.known) (sym at) c.in_ok-answer.ensures.known));
      counted = omega (arith, c.loop-number.invariant.counted, c.known_access.ensures.counted);
      cost = omega (arith, c.in_ok-answer.ensures.cost);
      capped = λ cap caps old. c.known_access.ensures.capped cap caps (c.loop-number.invariant.capped cap caps old);
    }

pub returns-clause-answer : goal.returns-clause-answer
returns-clause-answer g c =
    best_all Forward (g.C.CountedLeaves.text c.args.source.now) c.args.operands.now c.loop-number.number c.args.k c.loop-number.best c.loop-number-test.false c.loop-number.invariant.answer
