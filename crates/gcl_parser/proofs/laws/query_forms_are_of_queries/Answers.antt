use Rattle.gcl_parser.proofs.QueryForms.{query_forms_are_of_queries}
use Rattle.gcl_parser.proofs.laws.query_forms_are_of_queries.Goals as goal

pub returns : goal.returns
returns c = query_forms_are_of_queries
