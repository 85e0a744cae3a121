use Rattle.std.proofs.Common.{◌≡◌, ◌≤◌, length, arith}
use Rattle.gcl_model.specs.FormOf.{form_of}
use Rattle.gcl_model.specs.Limits.{address_end}
use Rattle.gcl_eval.proofs.Listing.{all_members}
use Rattle.query_search.specs.inner.Queries.{list_of}
use Rattle.query_search.proofs.SearchLemmas.{few_members}
use Rattle.query_search.proofs.query_pages.QueryPages.by.Goals as goal

pub invariant_of-result : goal.invariant_of-result
invariant_of-result c = record {
  text_end = c.end-end.ensures.next;
  in_range = c.end-end.ensures.in_range;
  within = omega arith;
  at = c.requires.at;
}

pub returns-clause-to_come : goal.returns-clause-to_come
returns-clause-to_come c = all_members (list_of c.args.query)

pub returns-clause-few : goal.returns-clause-few
returns-clause-few c =
    let few : length (list_of c.args.query) ≤ c.args.query.text.next = few_members c.args.query.text (form_of c.args.query.expr) in
    let next : c.end-end.result ≡ c.args.query.text.next = c.end-end.ensures.next in
    let in_range : c.end-end.result ≤ address_end = c.end-end.ensures.in_range in
    omega arith
