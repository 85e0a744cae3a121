use Rattle.std.proofs.lemmas.Result.{IfOk-weaker}
use Rattle.gcl_model.specs.Forms.{one}
use Rattle.gcl_eval.specs.Operands.{operand_forms}
use Rattle.gcl_model.specs.declared.direction.Direction.TheVariants.{Forward}
use Rattle.gcl_eval.proofs.OperandLemmas.{form-One, by_form-near}
use Rattle.gcl_eval.proofs.onward.next_member.Goals as goal

pub returns-in-One-clause-answer : goal.returns-in-One-clause-answer
returns-in-One-clause-answer g c =
    IfOk-weaker c.first_of_one.result _ _ (λ found at. by_form-near c.args.expr.now (one (operand_forms c.deref.result.now)) (form-One c.args.expr.now c.in-One.operands c.deref.result.now c.in-One.is c.deref.ensures.value)
    Forward (g.C.CountedLeaves.text c.args.source.now) c.args.k found at) c.first_of_one.ensures.answer
