use Rattle.std.proofs.Common.{sym}
use Rattle.gcl_model.specs.FormOf.{form_of}
use Rattle.gcl_parser.proofs.Growing.{can_start, whole_query}
use Rattle.gcl_parser.proofs.WellFormedQueries.{query_well_formed}
use Rattle.gcl_parser.proofs.parser.parse.Goals as goal

pub query-requires-clause-can : goal.query-requires-clause-can
query-requires-clause-can c = can_start c.args.text.now (sym c.in_default.ensures)

pub returns-clause-ok : goal.returns-clause-ok
returns-clause-ok c = whole_query c.args.text.now c.in_ok-whole.whole (sym c.in_default.ensures) c.in_ok-whole.ensures

pub returns-clause-well_formed : goal.returns-clause-well_formed
returns-clause-well_formed c =
    let whole = c.in_ok-whole.whole in
    query_well_formed c.args.text.now (form_of whole.expr) (whole_query c.args.text.now whole (sym c.in_default.ensures) c.in_ok-whole.ensures).is
