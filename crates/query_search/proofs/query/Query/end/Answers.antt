use Rattle.std.proofs.Common.{◌≡◌, ◌∙◌, ◌≤◌, List, sym, ap, arith}
use Rattle.gcl_model.specs.Limits.{address_end}
use Rattle.live_version.specs.Contents.{VersionContent}
use Rattle.collection.specs.Engines.{last_of}
use Rattle.collection.proofs.EngineLemmas.{last_is}
use Rattle.query_search.specs.inner.Queries.{QueryContent}
use Rattle.query_search.proofs.QueryLemmas.{ends}
use Rattle.query_search.proofs.query.Query.end.Goals as goal

pub returns-clause-next : goal.returns-clause-next
returns-clause-next c =
    let history : List VersionContent = c.self.inside.pass.history in
    let is : last_of history ≡ c.version.result.now = last_is history c.version.result.now c.version.ensures.1 in
    c.next.ensures.value ∙ sym (ap (λ (v : VersionContent). v.next) is) ∙ ends history c.self.inside.table ∙ ap (λ (q : QueryContent). q.text.next) c.self.view_is

pub returns-clause-in_range : goal.returns-clause-in_range
returns-clause-in_range c =
    let value : c.next.result ≡ c.version.result.now.next = c.next.ensures.value in
    let in_range : c.version.result.now.next ≤ address_end = c.next.ensures.version.in_range in
    omega arith
