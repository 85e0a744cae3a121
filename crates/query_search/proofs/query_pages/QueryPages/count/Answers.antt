use Rattle.std.proofs.Common.{◌∙◌, length, sym, ap}
use Rattle.gcl_model.specs.FormOf.{form_of}
use Rattle.query_search.specs.inner.Queries.{QueryLeft}
use Rattle.query_search.proofs.SearchLemmas.{none_at_end}
use Rattle.query_search.proofs.query_pages.QueryPages.count.Goals as goal

pub returns-then-self-clause-value : goal.returns-then-self-clause-value
returns-then-self-clause-value g c =
    sym (ap length (ap (λ (p : QueryLeft). p.to_come) (sym c.self.view_is) ∙ none_at_end c.self.inside.query.text (form_of c.self.inside.query.expr) c.self.inside.from (c.if-self.true ∙ c.self.invariant.text_end)))

pub invariant_of-self : goal.invariant_of-self
invariant_of-self g c = record {
  text_end = c.self.invariant.text_end;
  in_range = c.self.invariant.in_range;
  within = c.self.invariant.within;
  at = c.number.ensures.at c.self.inside.from;
}
