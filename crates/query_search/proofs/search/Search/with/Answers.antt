use Rattle.std.proofs.Common.{◌≡◌, ◌≤◌, List, length, sym, ap, ◌∙◌, subst, zero-add}
use Rattle.gcl_model.specs.Extents.{Extent}
use Rattle.gcl_model.specs.FormOf.{form_of}
use Rattle.gcl_model.specs.Limits.{address_end}
use Rattle.query_search.specs.inner.Searches.{members_over}
use Rattle.query_search.proofs.QueryLemmas.{same_list}
use Rattle.query_search.proofs.search.Search.with.Goals as goal

pub invariant_of-result : goal.invariant_of-result
invariant_of-result c =
    let list : List Extent = members_over c.args.pass.history (form_of c.args.expr.value) in
    let come : c.of.result.to_come ≡ list = c.of.ensures.to_come ∙ c.over_words.ensures in
    let all : c.of.result.all ≡ list = c.of.ensures.all ∙ c.over_words.ensures in
    record {
      counted = zero-add _ ∙ ap length (come ∙ sym all);
      few = c.of.ensures.few;
      same = same_list c.args.merging list c.of.result.to_come (sym come) c.requires.same;
    }

pub returns-clause-members : goal.returns-clause-members
returns-clause-members c = c.of.ensures.to_come ∙ c.over_words.ensures

pub returns-clause-few : goal.returns-clause-few
returns-clause-few c = subst (λ (l : List Extent). length l ≤ address_end) (c.of.ensures.all ∙ sym c.of.ensures.to_come) c.of.ensures.few
