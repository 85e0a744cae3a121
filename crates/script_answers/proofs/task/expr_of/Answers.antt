use Rattle.std.proofs.Common.{refl}
use Rattle.gcl_model.specs.FormOf.{form_of}
use Rattle.script_answers.proofs.BatchLemmas.{lines_of_form, lines_of_fault, no_fault}
use Rattle.script_answers.proofs.task.expr_of.Goals as goal

pub returns-in_ok-expr-in-Ok-clause-lines : goal.returns-in_ok-expr-in-Ok-clause-lines
returns-in_ok-expr-in-Ok-clause-lines c = λ asked text.
    rw c.in_ok-expr-in-Ok.ensures (lines_of_form asked c.args.query.now (form_of c.in-Ok.expr) text (no_fault _ (λ wrong is. let bad = (c.in-Ok.ensures.query wrong).1 is in absurd cc)) c.in-Ok.ensures.ok)

pub returns-in-Err-Query-clause-lines : goal.returns-in-Err-Query-clause-lines
returns-in-Err-Query-clause-lines c = λ asked text.
    rw c.in-Err-Query.field-0-is (lines_of_fault asked c.args.query.now c.in-Err-Query.fault text ((c.in-Err-Query.ensures.query c.in-Err-Query.fault).0 (rw c.in-Err-Query.field-0-is refl)))
