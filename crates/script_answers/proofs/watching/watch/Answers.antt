use Rattle.std.proofs.Common.{refl}
use Rattle.std.proofs.lemmas.Result.{IfOk-weaker}
use Rattle.gcl_model.specs.FormOf.{form_of}
use Rattle.gcl_parser.proofs.QueryForms.{query_forms_are_of_queries}
use Rattle.script_answers.proofs.BatchLemmas.{no_fault}
use Rattle.script_answers.proofs.WatchReplies.{a_query, no_query}
use Rattle.script_answers.proofs.watching.watch.Goals as goal

pub returns-in-Ok-clause-is : goal.returns-in-Ok-clause-is
returns-in-Ok-clause-is c =
    let form = form_of c.in-Ok.expr in
    IfOk-weaker c.watch_expr.result _ _ (λ answer is state watching.
    a_query state c.watch_expr.new.watches c.args.query.now form answer (no_fault _ (λ wrong fault. let bad = (c.in-Ok.ensures.query wrong).1 fault in absurd cc))
    ((query_forms_are_of_queries c.args.query.now form).1 c.in-Ok.ensures.ok) (is state watching)) c.watch_expr.ensures.is

pub returns-in-Err-Query-clause-is : goal.returns-in-Err-Query-clause-is
returns-in-Err-Query-clause-is c = λ state watching.
    no_query state c.args.watches.now c.args.watches.now c.args.query.now c.in-Err-Query.fault watching ((c.in-Err-Query.ensures.query c.in-Err-Query.fault).0 (rw c.in-Err-Query.field-0-is refl)) refl
