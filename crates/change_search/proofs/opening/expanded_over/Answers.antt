use Rattle.std.proofs.Common.{◌≡◌, ◌+◌, ◌≤◌, IfOk, sym, subst}
use Rattle.gcl_model.specs.FormOf.{form_of}
use Rattle.gcl_model.specs.Limits.{address_end}
use Rattle.live_version.specs.Contents.{VersionContent, version_text}
use Rattle.collection.specs.Engines.{last_of}
use Rattle.collection.proofs.EngineLemmas.{last_is}
use Rattle.prefix_terms.specs.Costs.{prefix_cost}
use Rattle.wide_terms.specs.Expansion.{expansion, sum_of_prefixes}
use Rattle.change_search.proofs.opening.expanded_over.Goals as goal

pub returns-clause-value : goal.returns-clause-value
returns-clause-value g c =
    let is : last_of c.args.pass.now.history ≡ c.version-version.result.now = last_is c.args.pass.now.history c.version-version.result.now c.version-version.ensures.1 in
    subst (λ (v : VersionContent). IfOk c.expand.result (λ expanded. form_of expanded ≡ expansion (version_text v) (form_of c.args.expr.now))) (sym is) c.expand.ensures.value

pub returns-clause-in_range : goal.returns-clause-in_range
returns-clause-in_range g c =
    let is : last_of c.args.pass.now.history ≡ c.version-version.result.now = last_is c.args.pass.now.history c.version-version.result.now c.version-version.ensures.1 in
    subst (λ (v : VersionContent). v.next ≤ address_end) (sym is) c.next-end.ensures.version.in_range

pub returns-clause-cost : goal.returns-clause-cost
returns-clause-cost g c =
    let is : last_of c.args.pass.now.history ≡ c.version-version.result.now = last_is c.args.pass.now.history c.version-version.result.now c.version-version.ensures.1 in
    subst (λ (v : VersionContent). c.expand.new.steps ≤ c.args.steps.now + sum_of_prefixes (prefix_cost v) (form_of c.args.expr.now)) (sym is) c.expand.ensures.cost
