use Rattle.std.proofs.Common.{ap, Err}
use Rattle.gcl_model.specs.FormOf.{form_of}
use Rattle.gcl_parser.proofs.QueryForms.{query_forms_are_of_queries}
use Rattle.grep_run.proofs.EndLemmas.{text_ends}
use Rattle.grep_run.proofs.searching.search_text.Goals as goal

pub returns-in-Err-Query-clause-ends : goal.returns-in-Err-Query-clause-ends
returns-in-Err-Query-clause-ends g c =
    (c.in-Err-Query.ensures.query c.in-Err-Query.fault).0 (ap (λ f. Err f) c.in-Err-Query.field-0-is)

pub returns-clause-ends : goal.returns-clause-ends
returns-clause-ends g c =
    text_ends (g.F.Files.held c.args.files.now) c.args.asked.now c.args.text.now (form_of c.in-Ok.expr) c.search_expr.result (g.K.Sink.written c.args.sink.now) (g.K.Sink.written c.search_expr.new.sink)
    (g.F.Files.faults c.args.files.now) (g.F.Files.faults c.search_expr.new.files) c.args.steps.now c.search_expr.new.steps
    ((query_forms_are_of_queries c.args.text.now (form_of c.in-Ok.expr)).1 c.in-Ok.ensures.ok) c.search_expr.ensures.ends
