use Rattle.std.proofs.Common.{◌≡◌, ◌≤◌, [], sym, ◌∙◌, arith}
use Rattle.query_search.proofs.PageLemmas.{next_and_more, no_member}
use Rattle.query_search.proofs.listing.Listing.next_page.Goals as goal

pub returns-clause-some : goal.returns-clause-some
returns-clause-some c =
    let none : c.self.inside.found ≡ [] = no_member c.self.inside.found (omega arith) in
    let within : c.min-most.result ≤ c.self.inside.limit = omega (arith, c.min-most.ensures) in (
      sym c.self.view_is
          ∙ next_and_more c.self.inside.limit c.min-most.result c.self.inside.found c.self.inside.rest c.in_ok-page.page c.page.new.self none within c.in_ok-page.ensures.ok c.in_ok-page.ensures.rest,
      omega arith,
    )
